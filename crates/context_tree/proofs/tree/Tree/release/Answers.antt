use Rattle.std.proofs.Common.{◌∙◌, ◌∷◌, ap, subst, sym, refl, not}
use Rattle.context_tree.specs.Context.{Releases}
use Rattle.context_tree.specs.Tree.{StandsFor}
use Rattle.context_tree.proofs.Family.{first_derives, key_there, none_derives, places_of}
use Rattle.context_tree.proofs.Tests.{none_from_not_some}
use Rattle.context_tree.proofs.Whole.{copied_some, release_stands, room_without}
use Rattle.context_tree.proofs.tree.Tree.release.Goals as goal

pub has_children-requires : goal.has_children-requires
has_children-requires g c =
    let node = copied_some c.node.result (c.is_none.ensures ∙ ap not c.if-is_none.false) in
    key_there c.self.inside.nodes.slots c.args.id (c.id.inside.number, c.id.inside.slot) node.0 c.id.view_is (sym c.node.ensures ∙ node.1)

pub remove-requires : goal.remove-requires
remove-requires g c =
    let past = c.self.invariant.reached.0 in
    let s = c.self.invariant.reached.1 in
    let node = copied_some c.node.result (c.is_none.ensures ∙ ap not c.if-is_none.false) in
    record {
      there = key_there c.self.inside.nodes.slots c.args.id (c.id.inside.number, c.id.inside.slot) node.0 c.id.view_is (sym c.node.ensures ∙ node.1);
      linked = c.self.invariant.linked;
      parent_there = λ k is. (places_of _ past s.contexts).parents _ k is;
      childless = none_from_not_some _ (sym c.has_children.ensures ∙ c.if-has_children.false);
    }

pub returns-then-has_children-clause-has_children : goal.returns-then-has_children-clause-has_children
returns-then-has_children-clause-has_children g c = λ yes' past stood.
    let node = copied_some c.node.result (c.is_none.ensures ∙ ap not c.if-is_none.false) in
    first_derives _ past c.args.id node.0 (subst (λ t. StandsFor t past) (sym c.self.view_is) stood).contexts c.self.invariant.linked (sym c.node.ensures ∙ node.1)
    (rw (← c.id.view_is) (sym c.has_children.ensures ∙ c.if-has_children.true))

pub invariant_of-self : goal.invariant_of-self
invariant_of-self g c =
    let past = c.self.invariant.reached.0 in
    let node = copied_some c.node.result (c.is_none.ensures ∙ ap not c.if-is_none.false) in
    record {
      reached = (
        Releases c.args.id ∷ past,
        release_stands _ _ past c.args.id node.0 c.self.invariant.reached.1 (sym c.node.ensures ∙ node.1)
            (none_derives c.self.inside.nodes.slots c.args.id c.self.invariant.linked (rw (← c.id.view_is) (none_from_not_some _ (sym c.has_children.ensures ∙ c.if-has_children.false))))
            (rw (← c.id.view_is) c.remove.ensures.gone) (rw (← c.id.view_is) c.remove.ensures.others)
            c.remove-2.ensures.items
            (rw (← c.id.view_is) c.stop.ensures.left) refl refl,
      );
      linked = c.remove.ensures.linked;
      few = c.self.invariant.few;
      room = rw c.remove-2.ensures.room (room_without c.self.inside.nodes.slots c.remove.new.nodes.slots _ c.id.inside.slot c.self.invariant.room c.remove.ensures.others c.remove.ensures.gone);
    }

pub returns-clause-gone : goal.returns-clause-gone
returns-clause-gone g c = λ yes' past stood.
    let node = copied_some c.node.result (c.is_none.ensures ∙ ap not c.if-is_none.false) in
    release_stands _ _ past c.args.id node.0 (subst (λ t. StandsFor t past) (sym c.self.view_is) stood) (sym c.node.ensures ∙ node.1)
    (none_derives c.self.inside.nodes.slots c.args.id c.self.invariant.linked (rw (← c.id.view_is) (none_from_not_some _ (sym c.has_children.ensures ∙ c.if-has_children.false))))
    (rw (← c.id.view_is) c.remove.ensures.gone) (rw (← c.id.view_is) c.remove.ensures.others)
    c.remove-2.ensures.items
    (rw (← c.id.view_is) c.stop.ensures.left) refl refl
