use Rattle.timer_heap.proofs.FirstDue.{popped_found, popped_only, popped_none}
use Rattle.timer_heap.proofs.laws.first_due_law.Goals as goal

pub returns-clause-found : goal.returns-clause-found
returns-clause-found c = popped_found

pub returns-clause-only : goal.returns-clause-only
returns-clause-only c = popped_only

pub returns-clause-none : goal.returns-clause-none
returns-clause-none c = popped_none
