-- A job that starts, and the place of the event at which it does.
use Rattle.std.specs.Prelude.{ℕ}
use Rattle.gateway_model.specs.Job.{JobValue}

abbrev pub StartedJob : Type 0
StartedJob = ℕ × JobValue

abbrev pub start : ℕ → JobValue → StartedJob
start place job = (place, job)

abbrev pub job_started : StartedJob → JobValue
job_started s = s.1
