use Rattle.std.proofs.Common.{◌≡◌, ◌∷◌, ◌++◌, ◌∙◌, [], refl, rules}
use Rattle.err_group.specs.Group.{Go}
use Rattle.err_group.proofs.GroupLemmas.{started, queued, room_after, no_room_after}
use Rattle.err_group.proofs.group.Group.go.Goals as goal

pub invariant_of-self : goal.invariant_of-self
invariant_of-self g c = record { operations = Go c.args.task ∷ c.self.invariant.operations; stands = started _ _ _ c.self.invariant.stands c.if-self.true }

pub returns-then-self-clause-group : goal.returns-then-self-clause-group
returns-then-self-clause-group g c operations stands =
    let stood = c.self.view_is ∙ stands in
    (rw (room_after _ operations stood c.if-self.true) refl, started _ _ operations stood c.if-self.true)

pub invariant_of-self-2 : goal.invariant_of-self-2
invariant_of-self-2 g c =
    let items : c.push_back.new.self.items ≡ c.self.inside.queue.items ++ c.args.task ∷ [] = search rules in
    record { operations = Go c.args.task ∷ c.self.invariant.operations; stands = rw items (queued _ _ _ c.self.invariant.stands c.if-self.false) }

pub returns-clause-group : goal.returns-clause-group
returns-clause-group g c operations stands =
    let stood = c.self.view_is ∙ stands in
    let items : c.push_back.new.self.items ≡ c.self.inside.queue.items ++ c.args.task ∷ [] = search rules in
    (rw (no_room_after _ operations stood c.if-self.false) refl, rw items (queued _ _ operations stood c.if-self.false))
