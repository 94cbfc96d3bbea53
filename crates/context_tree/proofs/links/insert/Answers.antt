use Rattle.std.proofs.Common.{◌∙◌, refl}
use Rattle.context_tree.proofs.Slots.{grown_there, inserted, last_of_parent}
use Rattle.context_tree.proofs.links.insert.Goals as goal

pub append-requires-clause-last_there : goal.append-requires-clause-last_there
append-requires-clause-last_there g c =
    grown_there c.args.nodes.now.slots c.insert_reserved-key.new.self.slots c.insert_reserved-key.result c.insert_reserved-key.ensures.was_vacant c.insert_reserved-key.ensures.updates.others c.last_child-last.result
    (rw c.last_child-last.ensures (last_of_parent c.args.nodes.now.slots c.parent_key-parent.result c.requires.linked))

pub returns-clause-linked : goal.returns-clause-linked
returns-clause-linked g c =
    inserted c.args.nodes.now.slots c.insert_reserved-key.new.self.slots c.append.new.nodes.slots c.insert_reserved-key.result c.args.node c.parent_key-parent.result c.last_child-last.result
    c.requires.linked c.requires.placed (rw c.parent_key-parent.ensures c.requires.parent_there) c.parent_key-parent.ensures c.last_child-last.ensures
    c.insert_reserved-key.ensures.was_vacant (c.insert_reserved-key.ensures.updates.changed ∙ rw c.after.ensures refl) c.insert_reserved-key.ensures.updates.others c.append.ensures
