use Rattle.std.proofs.Common.{◌∷◌, ◌∙◌, ap}
use Rattle.err_group.specs.GroupState.{has_room}
use Rattle.err_group.specs.Group.{TryGo}
use Rattle.err_group.proofs.GroupLemmas.{tried, not_tried}
use Rattle.err_group.proofs.group.Group.try_go.Goals as goal

pub invariant_of-self : goal.invariant_of-self
invariant_of-self g c = record { operations = TryGo ∷ c.self.invariant.operations; stands = tried _ _ c.self.invariant.stands c.if-room.true }

pub returns-then-room-clause-group : goal.returns-then-room-clause-group
returns-then-room-clause-group g c operations stands =
    let stood = c.self.view_is ∙ stands in
    (ap has_room stood, tried _ operations stood c.if-room.true)

pub returns-else-room-clause-group : goal.returns-else-room-clause-group
returns-else-room-clause-group g c operations stands =
    (ap has_room (c.self.view_is ∙ stands), not_tried _ operations stands (rw (← c.self.view_is) c.if-room.false))
