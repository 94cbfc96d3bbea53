-- The jobs that wait to be taken.
use Rattle.std.specs.Prelude.{ℕ, List}
use Rattle.gateway_model.specs.Job.{JobValue}

pub record JobsValue : Type 0 where
  -- in order of start
  pub jobs : List JobValue
  -- how many branches wait for their start
  pub waiting : ℕ

abbrev pub jobs_value : List JobValue → ℕ → JobsValue
jobs_value jobs waiting = record { jobs = jobs; waiting = waiting }
