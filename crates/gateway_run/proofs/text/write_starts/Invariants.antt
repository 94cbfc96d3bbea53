use Rattle.gateway_run.proofs.Names.{take, Appends, starts_text}
use Rattle.gateway_run.proofs.text.write_starts.Given as goal

-- the lines so far are written
abbrev pub invariant-loop-start : goal.invariant-loop-start
invariant-loop-start g l =
    Appends (g.W.Write.contents l.initial.writer) (g.W.Write.contents l.writer) (starts_text (take l.start-index l.starts))
