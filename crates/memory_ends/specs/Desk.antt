-- A desk in memory.
use Rattle.std.specs.Prelude.{ℕ, List}
use Rattle.gateway_theory.specs.Task.{HandedJob}
use Rattle.backend_pool.specs.Work.{Told}
use Rattle.backend_pool.specs.declared.working.DeskRecord.{DeskRecord}

-- a desk in memory: what it tells, and how many jobs it gave
pub record DeskValue : Type 0 where
  pub told : Told
  pub given : ℕ

abbrev pub desk_value : List HandedJob → List DeskRecord → ℕ → DeskValue
desk_value waiting records given = record { told = record { waiting = waiting; records = records }; given = given }
