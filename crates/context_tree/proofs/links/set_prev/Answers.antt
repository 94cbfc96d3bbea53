use Rattle.context_tree.proofs.Slots.{prev_set}
use Rattle.context_tree.proofs.links.set_prev.Goals as goal

pub returns-in-Some : goal.returns-in-Some
returns-in-Some g c = rw c.in-Some.is (prev_set c.args.nodes.now.slots c.in-Some.key c.index_mut.result.now c.args.prev c.index_mut.ensures.value)
