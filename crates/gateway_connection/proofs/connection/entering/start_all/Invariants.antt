use Rattle.gateway_connection.specs.lemmas.Names.{◌≡◌, ◌+◌, ◌++◌, List, length, map, job_at, TaskValue}
use Rattle.gateway_connection.proofs.connection.entering.start_all.Given as goal

-- those before the first that is left were queued
pub record Started (l : goal.Live-loop-task) : Type 0 where
  pub done : List TaskValue
  pub first_is : l.fn.first.items ≡ done ++ l.first.items
  pub jobs_are : l.jobs.jobs ≡ l.fn.jobs.jobs ++ map (job_at l.moment) done
  pub waits : l.jobs.waiting + length done ≡ l.fn.jobs.waiting

abbrev pub invariant-loop-task : goal.invariant-loop-task
invariant-loop-task l = Started l

abbrev pub decreases-loop-task : goal.decreases-loop-task
decreases-loop-task l = length l.first.items
