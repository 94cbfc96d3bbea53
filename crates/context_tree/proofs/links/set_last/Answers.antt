use Rattle.context_tree.proofs.Slots.{last_set}
use Rattle.context_tree.proofs.links.set_last.Goals as goal

pub returns-in-Some : goal.returns-in-Some
returns-in-Some g c = rw c.in-Some.is (last_set c.args.nodes.now.slots c.in-Some.key c.index_mut.result.now c.args.last c.index_mut.ensures.value)
