use Rattle.std.proofs.Common.{refl}
use Rattle.http_pieces.specs.Fields.{same_without_case}
use Rattle.call_plan.specs.Plan.{join_text}
use Rattle.gateway_model.specs.Arrival.{refusal_reply}
use Rattle.gateway_tests.proofs.rows_corners.unlawful_failures.Goals as goal

pub returns-clause-not_started : goal.returns-clause-not_started
unfolding same_without_case join_text refusal_reply
returns-clause-not_started c = refl

pub returns-clause-answered : goal.returns-clause-answered
unfolding same_without_case join_text refusal_reply
returns-clause-answered c = refl
