use Rattle.std.proofs.Common.{refl}
use Rattle.http_pieces.specs.Fields.{same_without_case}
use Rattle.call_plan.specs.Plan.{join_text}
use Rattle.gateway_model.specs.Arrival.{refusal_reply}
use Rattle.gateway_tests.proofs.rows_corners.great_moments.Goals as goal

pub returns-clause-cut : goal.returns-clause-cut
unfolding same_without_case join_text refusal_reply
returns-clause-cut c = refl

pub returns-clause-below : goal.returns-clause-below
unfolding same_without_case join_text refusal_reply
returns-clause-below c = refl

pub returns-clause-never : goal.returns-clause-never
unfolding same_without_case join_text refusal_reply
returns-clause-never c = refl

pub returns-clause-expired : goal.returns-clause-expired
unfolding same_without_case join_text refusal_reply
returns-clause-expired c = refl
