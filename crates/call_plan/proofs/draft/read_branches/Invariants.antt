use Rattle.std.proofs.Common.{◌≡◌}
use Rattle.serde_json.specs.View.{view}
use Rattle.call_plan.specs.PlanFile.{branch_of, branches_of}
use Rattle.call_plan.proofs.Shapes.{with_rest}
use Rattle.call_plan.proofs.draft.read_branches.Given as goal

abbrev pub invariant-loop-entry : goal.invariant-loop-entry
invariant-loop-entry l = branches_of (view l.fn.entry) ≡ with_rest branch_of l.branches.items l.entry-items l.entry-index
