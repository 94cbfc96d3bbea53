use Rattle.std.proofs.Common.{◌≡◌}
use Rattle.memory_ends.proofs.room.make_room.Given as goal

abbrev pub invariant-loop : goal.invariant-loop
invariant-loop g l =
    (goal.iterator-loop g).can_next l.iterator' × (goal.iterator-loop g).is_finite l.iterator' × (l.list.items ≡ l.initial.list.items)
