use Rattle.gateway_loop.proofs.Words.{List, subst, KeptValue}
use Rattle.gateway_loop.specs.Kept.{Takes}
use Rattle.gateway_loop.proofs.KeptLemmas.{takes_of}
use Rattle.gateway_loop.proofs.kept.KeptStreams.take.Goals as goal

pub returns-in-Some : goal.returns-in-Some
returns-in-Some g c =
    subst (λ (before : List KeptValue). Takes c.args.address.now c.take_at.result before c.take_at.new.self) c.loop-index.invariant
    (takes_of c.args.address.now c.loop-index.self c.take_at.new.self _ c.in-Some.kept.now c.take_at.result (rw c.self-in-loop-index.view_is at c.in-Some.ensures.lookup) (c.serves.ensures c.if-serves.true) c.take_at.ensures)
