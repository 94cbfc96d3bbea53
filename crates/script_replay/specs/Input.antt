-- What reading a script or a plan file comes to, and running a script.
use Rattle.std.specs.Prelude.{◌≡◌, ◌≤◌, ◌⊎◌, ℕ, List, length, map, Option, Ok}
use Rattle.std.specs.Io.KnownBytes.{Appends, Consumes, IsAtEnd}
use Rattle.call_plan.specs.Plan.{PlanRecord}
use Rattle.call_plan.specs.PlanFile.{plans_in}
use Rattle.gateway_run.specs.Running.{IsRun}
use Rattle.gateway_model.specs.Run.{newest_first}
use Rattle.gateway_run.specs.RunText.{run_text}
use Rattle.gateway_run.specs.Script.{script_in}
use Rattle.gateway_model.specs.declared.event.Event.{Event}
use Rattle.gateway_run.specs.declared.outcome.Run.{Run}

-- the whole text was read, and is no longer than it may be
abbrev pub ReadsWhole : Option (List ℕ) → Option (List ℕ) → List ℕ → Type 0
ReadsWhole old new text = (length text ≤ 16777216) × Consumes old new text × IsAtEnd new

-- a byte more was read than a text may have
abbrev pub ReadsTooMuch : Option (List ℕ) → Option (List ℕ) → Type 0
ReadsTooMuch old new = (text : List ℕ) × (length text ≡ 16777217) × Consumes old new text

-- a whole text was read, which is a plan file of these plans
abbrev pub ReadsPlans : Option (List ℕ) → Option (List ℕ) → List PlanRecord → Type 0
ReadsPlans old new plans = (text : List ℕ) × ReadsWhole old new text × (plans_in text ≡ Ok plans)

-- what was read is longer than a text may be, or a whole text that is no plan file
abbrev pub ReadsNoPlans : Option (List ℕ) → Option (List ℕ) → Type 0
ReadsNoPlans old new =
    ReadsTooMuch old new ⊎ ((text : List ℕ) × ReadsWhole old new text × ((plans : List PlanRecord) → plans_in text ≡ Ok plans → ⊥))

-- a whole text was read, which is a script of these plans and events
abbrev pub ReadsScript : Option (List ℕ) → Option (List ℕ) → List PlanRecord → List Event → Type 0
ReadsScript old new plans events = (text : List ℕ) × ReadsWhole old new text × (script_in text ≡ Ok (plans, events))

-- what was read is longer than a text may be, or a whole text that is no script
abbrev pub ReadsNoScript : Option (List ℕ) → Option (List ℕ) → Type 0
ReadsNoScript old new =
    ReadsTooMuch old new
    ⊎ ((text : List ℕ) × ReadsWhole old new text × ((plans : List PlanRecord) (events : List Event) → script_in text ≡ Ok (plans, events) → ⊥))

-- A whole script was read, and the text of a run of it was written.
pub record Replays (given left held now : Option (List ℕ)) : Type 0 where
  pub plans : List PlanRecord
  pub events : List Event
  pub run : Run
  pub read : ReadsScript given left plans events
  pub ran : IsRun plans (newest_first events) run.opened.items run.queued.items run.starts.items (map (λ j. j.job) run.jobs.items) run.broken.items
  pub written : Appends held now (run_text run)
