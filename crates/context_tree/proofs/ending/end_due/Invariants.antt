use Rattle.std.proofs.Common.{ℕ, List, length}
use Rattle.timer_heap.specs.Timers.{timing}
use Rattle.context_tree.specs.Context.{TreeOp}
use Rattle.context_tree.specs.Tree.{StandsFor}
use Rattle.context_tree.specs.Walks.{IsReady}
use Rattle.context_tree.proofs.Expiring.{IsMoment}
use Rattle.context_tree.proofs.ending.end_due.Given as goal

-- the walks of some timers are over
abbrev pub invariant-loop-key : goal.invariant-loop-key
invariant-loop-key g l = record {
  ready : IsReady l.nodes.slots l.done.items l.done.room;
  moment : (made visits : ℕ) (past : List (TreeOp _ _)) → StandsFor (record { slots = l.fn.nodes.slots; done = l.fn.done.items; timers = timing l.fn.timers; made = made; visits = visits }) past
      → IsMoment l.now past l.nodes.slots l.done.items l.fn.done.items (timing l.timers);
}

abbrev pub decreases-loop-key : goal.decreases-loop-key
decreases-loop-key g l = length l.timers.entries
