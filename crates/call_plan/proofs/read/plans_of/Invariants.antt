use Rattle.std.proofs.Common.{◌≡◌}
use Rattle.std.specs.Vec.Iter.{into_iter_items}
use Rattle.serde_json.specs.View.{view}
use Rattle.call_plan.specs.PlanFile.{plans_of, take_plans}
use Rattle.call_plan.proofs.read.plans_of.Given as goal

-- what is left to take decides the answer
abbrev pub invariant-loop-draft : goal.invariant-loop-draft
invariant-loop-draft l = plans_of (view l.fn.value) ≡ take_plans l.plans (into_iter_items l.draft-iterator)
