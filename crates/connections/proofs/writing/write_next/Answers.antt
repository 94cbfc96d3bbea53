use Rattle.connections.proofs.Lemmas.{rules, arith, common_steps, ◌≡◌, refl, Unwritten, Writes-sent}
use Rattle.connections.proofs.writing.write_next.Goals.{then-ne-via-then-ne, then-ne-via-else-ne+then-is_err}
use Rattle.connections.proofs.writing.write_next.Goals as goal

pub returns-then-ne : goal.returns-then-ne
returns-then-ne g c = λ old told p.
    let kept : c.then-ne.written.items ≡ c.args.written.now.items =
    elim c.then-ne.branch [ then-ne-via-then-ne w ↦ rw w.written-is refl | then-ne-via-else-ne+then-is_err w ↦ rw w.written-is w.reserve.ensures.items ] in
    (Unwritten c.in-Some.reply.id, refl, rw kept (grind (arith, common_steps)))

pub returns : goal.returns
returns g c = λ old told p.
    let r = c.in-Some.reply in
    rw (c.push_reserved.ensures.items, c.reserve.ensures.items)
    (Writes-sent c.args.conn _ _ _ _ _ _ _ r c.send-sent.result _ (rw (c.bytes-length.ensures) refl) (rw c.bytes.ensures at c.send-sent.ensures.within) (search rules) (rw c.bytes.ensures at c.send-sent.ensures.written) c.in-Some.ensures p)
