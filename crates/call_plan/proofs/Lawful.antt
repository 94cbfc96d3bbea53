-- A plan with no fault is lawful.
use Rattle.std.proofs.Common.{◌≡◌, None, arith}
use Rattle.call_plan.specs.Plan.{PlanRecord, IsLawful, plan_fault}

pub lawful-from_no_fault : (p : PlanRecord) → plan_fault p ≡ None → IsLawful p
unfolding plan_fault
lawful-from_no_fault p none = record {
  well_formed = grind arith;
  named = grind arith;
  some = grind arith;
  few = grind arith;
  limited = grind arith;
  distinct = grind arith;
}
