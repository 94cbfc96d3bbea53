use Rattle.context_tree.proofs.Places.{first_goes}
use Rattle.context_tree.proofs.queue.Queue.pop.Goals as goal

pub returns-clause-items : goal.returns-clause-items
returns-clause-items c =
    first_goes c.self.inside.places.items c.args.self.now c.self.inside.first c.self.inside.last c.self.view_is c.self.invariant c.in_ok-slot.slot c.in-Some.number c.index.result.now c.take.new.self.items
    c.in_ok-slot.was c.index.ensures c.in-Some.is c.take.ensures.items
