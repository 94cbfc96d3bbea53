use Rattle.gateway_run.proofs.Names.{flat_map, take, Appends}
use Rattle.gateway_run.proofs.text.send_all.Given as goal

-- the parts so far are written
abbrev pub invariant-loop-part : goal.invariant-loop-part
invariant-loop-part g l =
    Appends (g.W.Write.contents l.initial.writer) (g.W.Write.contents l.writer) (flat_map (λ part. part.now) (take l.part-index l.parts))
