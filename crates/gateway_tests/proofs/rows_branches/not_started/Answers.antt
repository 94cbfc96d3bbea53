use Rattle.std.proofs.Common.{refl}
use Rattle.http_pieces.specs.Fields.{same_without_case}
use Rattle.call_plan.specs.Plan.{join_text}
use Rattle.gateway_model.specs.Arrival.{refusal_reply}
use Rattle.gateway_tests.proofs.rows_branches.not_started.Goals as goal

pub returns-clause-waits : goal.returns-clause-waits
unfolding same_without_case join_text refusal_reply
returns-clause-waits c = refl

pub returns-clause-call : goal.returns-clause-call
unfolding same_without_case join_text refusal_reply
returns-clause-call c = refl

pub returns-clause-start : goal.returns-clause-start
unfolding same_without_case join_text refusal_reply
returns-clause-start c = refl

pub returns-clause-next : goal.returns-clause-next
unfolding same_without_case join_text refusal_reply
returns-clause-next c = refl
