use Rattle.std.proofs.Common.{◌∙◌, ap, sym, is_some}
use Rattle.call_plan.proofs.Repeats.{is_some-map}
use Rattle.call_plan.proofs.plans.Plans.holds.Goals as goal

pub returns : goal.returns
returns c = c.is_some.ensures ∙ sym (is_some-map _ c.find.result) ∙ ap is_some (rw c.as_bytes.ensures.value at c.find.ensures.found)
