-- What checking a script or a plan file comes to.
use Rattle.std.specs.Prelude.{ℕ, List, Option}
use Rattle.command_line.specs.declared.task.CheckedFile.{CheckedFile}
use Rattle.command_line.specs.declared.task.CheckedFile.TheVariants.{Plans, Script}
use Rattle.input_check.specs.Report.{IsApproval, IsRefusal, Warns}
use Rattle.script_replay.specs.Fault.{IsOfInput, IsOfPlanInput}
use Rattle.script_replay.specs.declared.fault.Fault.{Fault}
use Rattle.std.specs.Io.KnownBytes.{Appends}
use Rattle.call_plan.specs.Plan.{PlanRecord}
use Rattle.gateway_model.specs.declared.event.Event.{Event}
use Rattle.script_replay.specs.Input.{ReadsPlans, ReadsScript}

-- a whole text was read, which is a plan file
abbrev pub FindsPlans : Option (List ℕ) → Option (List ℕ) → Type 0
FindsPlans old new = (plans : List PlanRecord) × ReadsPlans old new plans

-- a whole text was read, which is a script
abbrev pub FindsScript : Option (List ℕ) → Option (List ℕ) → Type 0
FindsScript old new = (script : List PlanRecord × List Event) × ReadsScript old new script.0 script.1

-- a text was written that says first that the file is fine
abbrev pub WritesApproval : Option (List ℕ) → Option (List ℕ) → Type 0
WritesApproval held now = (text : List ℕ) × IsApproval text × Appends held now text

-- a text was written that says first that the file is refused
abbrev pub WritesRefusal : Option (List ℕ) → Option (List ℕ) → Type 0
WritesRefusal held now = (text : List ℕ) × IsRefusal text × Appends held now text

-- a text was written that has a warning
abbrev pub WritesWarning : Option (List ℕ) → Option (List ℕ) → Type 0
WritesWarning held now = (text : List ℕ) × Warns text × Appends held now text

-- the faults that checking a file may give
abbrev pub IsOfChecked : CheckedFile → Fault → Type 0
IsOfChecked (Plans path) fault = IsOfPlanInput fault
IsOfChecked (Script path) fault = IsOfInput fault
