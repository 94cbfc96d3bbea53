use Rattle.std.proofs.Common.{◌≡◌, List}
use Rattle.context_tree.specs.Context.{TreeOp, line, nearest}
use Rattle.context_tree.specs.Tree.{Keeps}
use Rattle.context_tree.proofs.Walking.{NextKept, bound, values_on}
use Rattle.context_tree.proofs.walk.value.Given as goal

-- what is still to come has the value
abbrev pub invariant-loop-next : goal.invariant-loop-next
invariant-loop-next g l = record {
  kept : NextKept l.nodes.slots l.next;
  same_value : (past : List (TreeOp _ _)) → Keeps l.nodes.slots past → nearest l.key (line l.fn.id past) ≡ values_on l.key past l.next;
}

abbrev pub decreases-loop-next : goal.decreases-loop-next
decreases-loop-next g l = bound l.next
