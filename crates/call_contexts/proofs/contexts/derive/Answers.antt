use Rattle.std.proofs.lemmas.Result.{IfOk-weaker}
use Rattle.call_contexts.proofs.contexts.derive.Goals as goal

pub returns-in-None-clause-made : goal.returns-in-None-clause-made
returns-in-None-clause-made g c = rw c.in-None.is (IfOk-weaker c.with_cancel.result _ _ (λ id m past st. (m past st).1) c.with_cancel.ensures.made)

pub returns-in-None-clause-unchanged : goal.returns-in-None-clause-unchanged
returns-in-None-clause-unchanged g c = c.with_cancel.ensures.unchanged

pub returns-in-Some-clause-made : goal.returns-in-Some-clause-made
returns-in-Some-clause-made g c = rw c.in-Some.is (IfOk-weaker c.with_deadline.result _ _ (λ id m past st. (m past st).1) c.with_deadline.ensures.made)

pub returns-in-Some-clause-unchanged : goal.returns-in-Some-clause-unchanged
returns-in-Some-clause-unchanged g c = c.with_deadline.ensures.unchanged
