use Rattle.std.proofs.Common.{◌∙◌}
use Rattle.context_tree.proofs.Slots.{still_there, where_there}
use Rattle.context_tree.proofs.links.append.Goals as goal

pub set_last-requires : goal.set_last-requires
set_last-requires g c = still_there c.args.nodes.now.slots c.set_next.new.nodes.slots c.set_next.ensures.nodes c.args.parent c.requires.parent_there

pub set_first-requires : goal.set_first-requires
set_first-requires g c = rw c.where_none.ensures (where_there c.set_last.new.nodes.slots _ _ (
    still_there c.args.nodes.now.slots c.set_last.new.nodes.slots (λ k. c.set_last.ensures.nodes k ∙ c.set_next.ensures.nodes k) c.args.parent c.requires.parent_there))
