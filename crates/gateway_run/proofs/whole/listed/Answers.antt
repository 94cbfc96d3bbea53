use Rattle.gateway_run.proofs.Names.{◌≡◌, ◌++◌, ◌∷◌, ◌<◌, [], false, length, ap, ◌∙◌, arith, if◌then◌else◌, slice_index_or}
use Rattle.gateway_run.proofs.Finally.{at_default}
use Rattle.gateway_run.proofs.WholeLemmas.{broken_next, kept_if, pushed_if}
use Rattle.gateway_run.proofs.whole.listed.Goals.{then-index+in_ok-push, else-index}
use Rattle.gateway_run.proofs.whole.listed.Goals as goal

told : (c : goal.Joined-index) → c.if-index.broken.items
    ≡ (if slice_index_or c.args.broke.now.items c.loop-number.number false then c.loop-number.broken.items ++ c.loop-number.number ∷ [] else c.loop-number.broken.items)
told c =
    let lt : c.loop-number.number < length c.args.broke.now.items = omega (arith, c.loop-number-test.true, c.len-number-end.ensures) in
    let here = at_default c.args.broke.now.items c.loop-number.number c.index.result.now false lt c.index.ensures in
    elim c.if-index.branch [
      | then-index+in_ok-push w ↦ pushed_if _ c.loop-number.broken.items c.if-index.broken.items c.loop-number.number (here ∙ w.if-index.true) (ap (λ v. v.items) w.broken-is ∙ w.in_ok-push.ensures.items)
      | else-index w ↦ kept_if _ c.loop-number.broken.items c.if-index.broken.items c.loop-number.number (here ∙ w.if-index.false) (ap (λ v. v.items) w.broken-is)
    ]

pub loop-number-preserved : goal.loop-number-preserved
loop-number-preserved c = broken_next (λ n. slice_index_or c.args.broke.now.items n false) c.loop-number.number [] c.loop-number.broken.items c.if-index.broken.items c.loop-number.invariant (told c)
