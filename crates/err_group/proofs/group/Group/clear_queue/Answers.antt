use Rattle.std.proofs.Common.{◌∷◌, ◌∙◌}
use Rattle.err_group.specs.Group.{ClearQueue}
use Rattle.err_group.proofs.GroupLemmas.{cleared}
use Rattle.err_group.proofs.group.Group.clear_queue.Goals as goal

pub invariant_of-self : goal.invariant_of-self
invariant_of-self g c = record { operations = ClearQueue ∷ c.self.invariant.operations; stands = rw c.clear.ensures.items (cleared _ _ c.self.invariant.stands) }

pub returns-clause-group : goal.returns-clause-group
returns-clause-group g c operations stands = rw c.clear.ensures.items (cleared _ operations (c.self.view_is ∙ stands))
