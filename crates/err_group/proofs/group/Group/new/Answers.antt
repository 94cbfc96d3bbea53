use Rattle.std.proofs.Common.{[], refl}
use Rattle.err_group.specs.Group.{group_of}
use Rattle.err_group.proofs.group.Group.new.Goals as goal

pub invariant_of-result : goal.invariant_of-result
unfolding group_of
invariant_of-result g c = record { operations = []; stands = rw c.new.ensures.items refl }

pub returns-clause-group : goal.returns-clause-group
unfolding group_of
returns-clause-group g c = rw c.new.ensures.items refl
