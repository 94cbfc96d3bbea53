use Rattle.std.proofs.Common.{◌≡◌, subst, ◌∙◌, refl}
use Rattle.context_tree.specs.declared.node.Links.{Links}
use Rattle.context_tree.specs.Links.{IsThere, links_in, parent_in}
use Rattle.context_tree.proofs.Slots.{still_there, where_there}
use Rattle.context_tree.proofs.links.unlink.Goals as goal

pub set_prev-requires : goal.set_prev-requires
set_prev-requires g c =
    let links_is : links_in c.args.nodes.now.slots c.args.key ≡ c.index.result.now.links = rw c.index.ensures refl in
    still_there c.args.nodes.now.slots c.set_next.new.nodes.slots c.set_next.ensures.nodes c.index.result.now.links.next
    (subst (λ (l : Links). IsThere c.args.nodes.now.slots l.next) links_is c.requires.next_there)

pub set_first-requires : goal.set_first-requires
set_first-requires g c =
    let parent_is : parent_in c.args.nodes.now.slots c.args.key ≡ c.parent_key-parent.result = rw (c.index-2.ensures, c.parent_key-parent.ensures) refl in
    rw c.where_none.ensures (where_there c.set_prev.new.nodes.slots _ _ (
    still_there c.args.nodes.now.slots c.set_prev.new.nodes.slots (λ k. c.set_prev.ensures.nodes k ∙ c.set_next.ensures.nodes k) c.parent_key-parent.result
    (subst (λ p. IsThere c.args.nodes.now.slots p) parent_is c.requires.parent_there)))

pub set_last-requires : goal.set_last-requires
set_last-requires g c =
    let parent_is : parent_in c.args.nodes.now.slots c.args.key ≡ c.parent_key-parent.result = rw (c.index-2.ensures, c.parent_key-parent.ensures) refl in
    rw c.where_none-2.ensures (where_there c.set_first.new.nodes.slots _ _ (
    still_there c.args.nodes.now.slots c.set_first.new.nodes.slots (λ k. c.set_first.ensures.nodes k ∙ c.set_prev.ensures.nodes k ∙ c.set_next.ensures.nodes k) c.parent_key-parent.result
    (subst (λ p. IsThere c.args.nodes.now.slots p) parent_is c.requires.parent_there)))
