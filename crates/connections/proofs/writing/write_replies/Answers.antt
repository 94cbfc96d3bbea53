use Rattle.connections.proofs.Lemmas.{arith, common_steps, ◌∙◌}
use Rattle.connections.proofs.writing.write_replies.Goals as goal

pub returns-then-not-write_next : goal.returns-then-not-write_next
returns-then-not-write_next g c =
    let w = c.write_next.ensures _ _ c.loop.invariant.2 in
    let told = c.close.ensures in
    record { own = w.2.own; written = (w.0, w.1 ∙ c.if-not-write_next.true, grind (arith, common_steps)) }
