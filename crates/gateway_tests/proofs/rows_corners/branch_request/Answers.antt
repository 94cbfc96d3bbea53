use Rattle.std.proofs.Common.{refl}
use Rattle.http_pieces.specs.Fields.{same_without_case}
use Rattle.call_plan.specs.Plan.{join_text}
use Rattle.gateway_model.specs.Arrival.{refusal_reply}
use Rattle.gateway_tests.proofs.rows_corners.branch_request.Goals as goal

pub returns : goal.returns
unfolding same_without_case join_text refusal_reply
returns c = refl
