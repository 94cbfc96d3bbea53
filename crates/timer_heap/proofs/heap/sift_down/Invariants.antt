use Rattle.std.proofs.Common.{length, ◌-◌}
use Rattle.std.specs.Ordering.{nat_cmp}
use Rattle.std.specs.BTreeMap as tree
use Rattle.timer_heap.proofs.Sifts.{Sinking}
use Rattle.timer_heap.proofs.heap.sift_down.Given as goal

abbrev pub invariant-loop-child : goal.invariant-loop-child
invariant-loop-child l = Sinking l.place l.initial.heap l.heap (tree.get nat_cmp l.places) l.at l.moves

abbrev pub decreases-loop-child : goal.decreases-loop-child
decreases-loop-child l = length l.initial.heap - l.at
