use Rattle.std.proofs.Common.{refl}
use Rattle.http_pieces.specs.Fields.{same_without_case}
use Rattle.call_plan.specs.Plan.{join_text}
use Rattle.gateway_model.specs.Arrival.{refusal_reply}
use Rattle.gateway_tests.proofs.rows_branches.answered_just_before.Goals as goal

pub returns-clause-answered : goal.returns-clause-answered
unfolding same_without_case join_text refusal_reply
returns-clause-answered c = refl

pub returns-clause-joined : goal.returns-clause-joined
unfolding same_without_case join_text refusal_reply
returns-clause-joined c = refl

pub returns-clause-failed : goal.returns-clause-failed
unfolding same_without_case join_text refusal_reply
returns-clause-failed c = refl
