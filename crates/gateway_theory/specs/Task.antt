-- A branch of a call that waits for its start, and a job as it is handed out.
use Rattle.std.specs.Prelude.{ℕ, ◌-◌, Bool, Option, option_map}
use Rattle.gateway_model.specs.declared.id.CallId.{CallId}
use Rattle.gateway_model.specs.Past.{ArrivedCall}
use Rattle.gateway_model.specs.Job.{JobValue, job_of}
use Rattle.gateway_theory.specs.Values.{TaskValue}

abbrev pub task_of : CallId → ArrivedCall → ℕ → TaskValue
task_of call asked i = record { call = call; branch = i; asked = asked }

-- its job, where it starts at this moment
abbrev pub job_at : ℕ → TaskValue → JobValue
job_at moment t = job_of t.call t.branch t.asked moment

-- what is left of the time until the deadline (Go `time.Until`)
abbrev pub left_at : ℕ → Option ℕ → Option ℕ
left_at moment deadline = option_map (λ d. d - moment) deadline

-- a job as it is handed out, and whether its answer was still wanted then
pub record HandedJob : Type 0 where
  pub job : JobValue
  pub wanted : Bool
