-- A loop with its thread, and what a drain asks of it.
use Rattle.std.specs.Prelude.{◌≡◌, ℕ, Bool, true, false, All, List, Ok}
use Rattle.admin.specs.declared.drain.Stage.{Stage}
use Rattle.admin.specs.declared.drain.Stage.TheVariants as stage
use Rattle.call_plan.specs.Plan.{PlanRecord}
use Rattle.call_plan.specs.PlanFile.{plans_in}
use Rattle.loop_model.specs.Whole.{WholeLoop}

-- the plans that it serves, and whether its calls were ended by a drain
pub record LoopingValue : Type 0 where
  pub plans : List PlanRecord
  pub drained : Bool

abbrev pub looping_value : WholeLoop → LoopingValue
looping_value w = record { plans = w.side.core.plans; drained = w.side.drained }

-- each of these plans are those of the file's text; or each of these loops serves those
abbrev pub AreOfFile : List ℕ → List (List PlanRecord) → Type 0
AreOfFile file plans = All (λ (p : List PlanRecord). plans_in file ≡ Ok p) plans

abbrev pub ServeFile : List ℕ → List LoopingValue → Type 0
ServeFile file loops = All (λ (l : LoopingValue). plans_in file ≡ Ok l.plans) loops

-- at that stage the calls that are left are to be ended
abbrev pub ends_calls : Stage → Bool
ends_calls stage.Serves = false
ends_calls stage.Accepts = false
ends_calls stage.Closes = false
ends_calls stage.Ends = true
ends_calls stage.Cuts = true

-- at that stage connections are to be closed as soon as nothing is owed to them
abbrev pub closes_idle : Stage → Bool
closes_idle stage.Serves = false
closes_idle stage.Accepts = false
closes_idle stage.Closes = true
closes_idle stage.Ends = true
closes_idle stage.Cuts = true
