use Rattle.std.proofs.Common.{rules}
use Rattle.call_plan.proofs.Lawful.{lawful-from_no_fault}
use Rattle.call_plan.proofs.plan.Plan.new.Goals as goal

pub invariant_of-result : goal.invariant_of-result
invariant_of-result c = lawful-from_no_fault _ (search rules)
