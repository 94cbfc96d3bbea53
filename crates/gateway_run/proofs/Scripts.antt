-- A script's shape and its parts.
use Rattle.gateway_run.proofs.Names.{◌≡◌, ◌≢◌, List, Some, None, Ok, Err, PlanRecord, Event, IsOfPlans, plan_list_of, entries_of, events_from}
use Rattle.gateway_run.specs.Script.{script_of}
use Rattle.serde_json.specs.Data.{Data, Items}
use Rattle.call_plan.specs.PlanFile.{plans_of}
use Rattle.call_plan.specs.declared.error.PlanError.{PlanError}
use Rattle.gateway_run.specs.declared.fault.ScriptError.{ScriptError}
use Rattle.gateway_run.specs.declared.fault.ScriptError.TheVariants.{Memory, NotAScript, Plans}
use Rattle.call_plan.specs.declared.error.PlanError.TheVariants as plan

-- ---- the shape and the parts

pub no_plans : (d : Data) → None ≡ plan_list_of d → script_of d ≡ Err NotAScript
unfolding script_of
no_plans d none = rw (← none)

pub no_entries : (d plans : Data) → Some plans ≡ plan_list_of d → None ≡ entries_of d → script_of d ≡ Err NotAScript
unfolding script_of
no_entries d plans some none = rw (← some, ← none)

bad_plans : (d plans : Data) (entries : Items) (fault : PlanError)
    → Some plans ≡ plan_list_of d → Some entries ≡ entries_of d
    → plans_of plans ≡ Err fault → script_of d ≡ Err (Plans fault)
unfolding script_of
bad_plans d plans entries fault some array bad = rw (← some, ← array, bad)

-- the plans' fault is the script's, unless it is want of memory
pub refused_plans : (d plans : Data) (entries : Items) (fault : PlanError) (e : ScriptError)
    → Some plans ≡ plan_list_of d → Some entries ≡ entries_of d
    → IsOfPlans fault e → (fault ≢ plan.Memory → plans_of plans ≡ Err fault) → e ≢ Memory → script_of d ≡ Err e
refused_plans d plans entries fault e some array of bad other =
    let kept : fault ≢ plan.Memory = λ memory. other (of.memory memory) in
    rw (of.plans kept) (bad_plans d plans entries fault some array (bad kept))

pub bad_event : (d plans : Data) (entries : Items) (list : List PlanRecord) (fault : ScriptError)
    → Some plans ≡ plan_list_of d → Some entries ≡ entries_of d
    → plans_of plans ≡ Ok list → events_from 0 entries ≡ Err fault → script_of d ≡ Err fault
unfolding script_of
bad_event d plans entries list fault some array good bad = rw (← some, ← array, good, bad)

pub good_script : (d plans : Data) (entries : Items) (list : List PlanRecord) (events : List Event)
    → Some plans ≡ plan_list_of d → Some entries ≡ entries_of d
    → plans_of plans ≡ Ok list → events_from 0 entries ≡ Ok events → script_of d ≡ Ok (list, events)
unfolding script_of
good_script d plans entries list events some array good all = rw (← some, ← array, good, all)
