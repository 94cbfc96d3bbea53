use Rattle.std.proofs.Common.{refl}
use Rattle.http_pieces.specs.Fields.{same_without_case}
use Rattle.call_plan.specs.Plan.{join_text}
use Rattle.gateway_model.specs.Arrival.{refusal_reply}
use Rattle.gateway_tests.proofs.rows_corners.other_connection.Goals as goal

pub returns-clause-hang_up : goal.returns-clause-hang_up
unfolding same_without_case join_text refusal_reply
returns-clause-hang_up c = refl

pub returns-clause-hung_up : goal.returns-clause-hung_up
unfolding same_without_case join_text refusal_reply
returns-clause-hung_up c = refl

pub returns-clause-closing : goal.returns-clause-closing
unfolding same_without_case join_text refusal_reply
returns-clause-closing c = refl

pub returns-clause-calls : goal.returns-clause-calls
unfolding same_without_case join_text refusal_reply
returns-clause-calls c = refl
