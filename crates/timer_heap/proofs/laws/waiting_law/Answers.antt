use Rattle.timer_heap.specs.Timers.{waiting}
use Rattle.timer_heap.proofs.FirstDue.{set_waits, without_it, popped_waits_not}
use Rattle.timer_heap.proofs.laws.waiting_law.Goals as goal

pub returns-clause-set : goal.returns-clause-set
returns-clause-set c = set_waits

pub returns-clause-stopped : goal.returns-clause-stopped
returns-clause-stopped c = λ id past. without_it id (waiting past)

pub returns-clause-popped : goal.returns-clause-popped
returns-clause-popped c = popped_waits_not
