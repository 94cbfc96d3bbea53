use Rattle.context_tree.proofs.Places.{behind}
use Rattle.context_tree.proofs.queue.Queue.after.Goals as goal

pub returns-clause-next : goal.returns-clause-next
returns-clause-next c =
    behind c.self.inside.places.items c.args.self.now c.self.inside.first c.self.inside.last c.self.view_is c.self.invariant c.args.slot c.index.result.now c.requires c.index.ensures
