use Rattle.std.proofs.Common.{[], arith}
use Rattle.timer_heap.specs.Timers.{timing}
use Rattle.context_tree.proofs.Slots.{empty_linked}
use Rattle.context_tree.proofs.Whole.{new_stands, no_room}
use Rattle.context_tree.proofs.tree.Tree.new.Goals as goal

pub invariant_of-result : goal.invariant_of-result
invariant_of-result g c = record {
  reached = ([], rw (c.new.ensures.empty, c.new-2.ensures) (new_stands (timing c.new-3.result) c.new-3.ensures.waiting_is c.new-3.ensures.sets_is));
  linked = rw c.new.ensures.empty (empty_linked g.row.C.Denot g.row.V.Denot);
  few = omega arith;
  room = rw c.new.ensures.empty (no_room g.row.C.Denot g.row.V.Denot _);
}

pub returns : goal.returns
returns g c = rw (c.new.ensures.empty, c.new-2.ensures) (new_stands (timing c.new-3.result) c.new-3.ensures.waiting_is c.new-3.ensures.sets_is)
