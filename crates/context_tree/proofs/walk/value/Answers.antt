use Rattle.std.proofs.Common.{refl, sym, subst, ◌∙◌, arith}
use Rattle.context_tree.specs.Context.{parent_of}
use Rattle.context_tree.proofs.Walking.{NextKept, kept_parent, value_goes_on, value_found}
use Rattle.context_tree.proofs.walk.value.Goals as goal

pub loop-next-smaller : goal.loop-next-smaller
loop-next-smaller g c =
    let kept = subst (NextKept c.args.nodes.now.slots) c.in-Some.is c.loop-next.invariant.kept in
    let next = kept_parent _ _ _ kept (sym c.in_ok-node.ensures) (parent_of c.in_ok-node.node.now.kind) (λ p is. is) in
    rw (c.in-Some.is, c.parent-next.ensures) (omega (arith, next.1))

pub loop-next-preserved : goal.loop-next-preserved
loop-next-preserved g c =
    let kept = subst (NextKept c.args.nodes.now.slots) c.in-Some.is c.loop-next.invariant.kept in
    let next = kept_parent _ _ _ kept (sym c.in_ok-node.ensures) (parent_of c.in_ok-node.node.now.kind) (λ p is. is) in
    rw c.parent-next.ensures (record {
      kept = next.0;
      same_value = λ past keeps. c.loop-next.invariant.same_value past keeps ∙ rw c.in-Some.is (value_goes_on _ past keeps _ _ (sym c.in_ok-node.ensures) _ (sym c.value_at.ensures ∙ rw c.in_default-value_at.is refl));
    })

pub returns-in-Some-value_at : goal.returns-in-Some-value_at
returns-in-Some-value_at g c = λ past keeps.
    sym (c.loop-next.invariant.same_value past keeps ∙ rw c.in-Some.is (value_found _ past keeps _ _ (sym c.in_ok-node.ensures) _ _ (sym c.in-Some-value_at.ensures)))
