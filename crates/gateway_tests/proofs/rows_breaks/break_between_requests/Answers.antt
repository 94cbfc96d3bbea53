use Rattle.std.proofs.Common.{refl}
use Rattle.http_pieces.specs.Fields.{same_without_case}
use Rattle.call_plan.specs.Plan.{join_text}
use Rattle.gateway_model.specs.Arrival.{refusal_reply}
use Rattle.gateway_tests.proofs.rows_breaks.break_between_requests.Goals as goal

pub returns-clause-answered : goal.returns-clause-answered
unfolding same_without_case join_text refusal_reply
returns-clause-answered c = refl

pub returns-clause-one : goal.returns-clause-one
unfolding same_without_case join_text refusal_reply
returns-clause-one c = refl

pub returns-clause-others : goal.returns-clause-others
unfolding same_without_case join_text refusal_reply
returns-clause-others c = refl

pub returns-clause-whole : goal.returns-clause-whole
unfolding same_without_case join_text refusal_reply
returns-clause-whole c = refl

pub returns-clause-broken : goal.returns-clause-broken
unfolding same_without_case join_text refusal_reply
returns-clause-broken c = refl
