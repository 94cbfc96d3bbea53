use Rattle.std.proofs.Common.{refl}
use Rattle.http_pieces.specs.Fields.{same_without_case}
use Rattle.call_plan.specs.Plan.{join_text}
use Rattle.gateway_model.specs.Arrival.{refusal_reply}
use Rattle.gateway_tests.proofs.rows_branches.time_left.Goals as goal

pub returns-clause-longer : goal.returns-clause-longer
unfolding same_without_case join_text refusal_reply
returns-clause-longer c = refl

pub returns-clause-call : goal.returns-clause-call
unfolding same_without_case join_text refusal_reply
returns-clause-call c = refl

pub returns-clause-shorter : goal.returns-clause-shorter
unfolding same_without_case join_text refusal_reply
returns-clause-shorter c = refl
