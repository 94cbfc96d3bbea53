use Rattle.context_tree.proofs.Places.{first_stands}
use Rattle.context_tree.proofs.queue.Queue.first.Goals as goal

pub returns-clause-first : goal.returns-clause-first
returns-clause-first c =
    first_stands c.self.inside.places.items c.args.self.now c.self.inside.first c.self.inside.last c.self.view_is c.self.invariant c.in_ok-slot.slot c.in-Some.number c.index.result.now
    c.in_ok-slot.was c.index.ensures c.in-Some.is
