use Rattle.std.specs.Ordering.{nat_cmp}
use Rattle.std.specs.BTreeMap as tree
use Rattle.timer_heap.proofs.Sifts.{Rising}
use Rattle.timer_heap.proofs.heap.sift_up.Given as goal

abbrev pub invariant-loop-parent : goal.invariant-loop-parent
invariant-loop-parent l = Rising l.place l.initial.heap l.heap (tree.get nat_cmp l.places) l.at l.moves

abbrev pub decreases-loop-parent : goal.decreases-loop-parent
decreases-loop-parent l = l.at
