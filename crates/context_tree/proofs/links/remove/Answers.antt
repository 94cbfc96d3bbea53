use Rattle.context_tree.proofs.Slots.{next_there, prev_there, taken_out}
use Rattle.context_tree.proofs.links.remove.Goals as goal

pub unlink-requires-clause-prev_there : goal.unlink-requires-clause-prev_there
unlink-requires-clause-prev_there g c = prev_there c.args.nodes.now.slots c.args.key c.requires.linked

pub unlink-requires-clause-next_there : goal.unlink-requires-clause-next_there
unlink-requires-clause-next_there g c = next_there c.args.nodes.now.slots c.args.key c.requires.linked

pub returns-clause-linked : goal.returns-clause-linked
returns-clause-linked g c =
    taken_out c.args.nodes.now.slots c.unlink.new.nodes.slots c.try_remove.new.self.slots c.args.key c.requires.linked c.requires.childless c.unlink.ensures
    c.try_remove.ensures.updates.changed c.try_remove.ensures.updates.others
