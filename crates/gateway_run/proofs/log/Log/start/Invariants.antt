use Rattle.gateway_run.proofs.Names.{◌≡◌, ◌++◌, map, length, HandedJob, start_at}
use Rattle.gateway_run.proofs.Starting.{Started}
use Rattle.gateway_run.proofs.log.Log.start.Given as goal

abbrev pub invariant-loop-job : goal.invariant-loop-job
invariant-loop-job g l = record {
  started : Started l.initial.core l.core;
  opened_is : l.self-inside.opened ≡ l.initial.self-inside.opened;
  queued_is : l.self-inside.queued ≡ l.initial.self-inside.queued;
  broke_is : l.self-inside.broke ≡ l.initial.self-inside.broke;
  starts_are : l.self-inside.starts.items ++ map (start_at l.event) l.core.jobs ≡ l.initial.self-inside.starts.items ++ map (start_at l.event) l.initial.core.jobs;
  jobs_are : map (λ (j : HandedJob). j.job) l.self-inside.jobs.items ++ l.core.jobs ≡ map (λ (j : HandedJob). j.job) l.initial.self-inside.jobs.items ++ l.initial.core.jobs;
}

abbrev pub decreases-loop-job : goal.decreases-loop-job
decreases-loop-job g l = length l.core.jobs
