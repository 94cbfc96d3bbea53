use Rattle.std.proofs.Common.{refl}
use Rattle.http_pieces.specs.Fields.{same_without_case}
use Rattle.call_plan.specs.Plan.{join_text}
use Rattle.gateway_model.specs.Arrival.{refusal_reply}
use Rattle.gateway_tests.proofs.rows_corners.ninth_call.Goals as goal

pub returns-clause-crowded : goal.returns-clause-crowded
unfolding same_without_case join_text refusal_reply
returns-clause-crowded c = refl

pub returns-clause-after_one : goal.returns-clause-after_one
unfolding same_without_case join_text refusal_reply
returns-clause-after_one c = refl
