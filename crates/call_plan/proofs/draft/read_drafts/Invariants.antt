use Rattle.std.proofs.Common.{◌≡◌}
use Rattle.serde_json.specs.View.{view}
use Rattle.call_plan.specs.PlanFile.{plan_of, entries_of}
use Rattle.call_plan.proofs.Shapes.{with_rest}
use Rattle.call_plan.proofs.draft.read_drafts.Given as goal

abbrev pub invariant-loop-entry : goal.invariant-loop-entry
invariant-loop-entry l = entries_of (view l.fn.value) ≡ with_rest plan_of l.drafts.items l.entry-items l.entry-index
