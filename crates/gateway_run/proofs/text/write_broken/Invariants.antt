use Rattle.gateway_run.proofs.Names.{take, Appends, broken_text}
use Rattle.gateway_run.proofs.text.write_broken.Given as goal

-- the lines so far are written
abbrev pub invariant-loop-conn : goal.invariant-loop-conn
invariant-loop-conn g l =
    Appends (g.W.Write.contents l.initial.writer) (g.W.Write.contents l.writer) (broken_text (take l.conn-index l.broken))
