use Rattle.std.proofs.Common.{◌≡◌}
use Rattle.serde_json.specs.View.{view}
use Rattle.serde_json.specs.Find.{as_str}
use Rattle.call_plan.specs.PlanFile.{texts_of}
use Rattle.call_plan.proofs.Shapes.{with_rest}
use Rattle.call_plan.proofs.draft.read_texts.Given as goal

abbrev pub invariant-loop-entry : goal.invariant-loop-entry
invariant-loop-entry l = texts_of (view l.fn.value) ≡ with_rest as_str l.texts.items l.entry-items l.entry-index
