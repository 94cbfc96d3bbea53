use Rattle.std.proofs.Common.{refl}
use Rattle.http_pieces.specs.Fields.{same_without_case}
use Rattle.call_plan.specs.Plan.{join_text}
use Rattle.gateway_model.specs.Arrival.{refusal_reply}
use Rattle.gateway_tests.proofs.rows_branches.one_at_a_time.Goals as goal

pub returns-clause-joined : goal.returns-clause-joined
unfolding same_without_case join_text refusal_reply
returns-clause-joined c = refl

pub returns-clause-expired : goal.returns-clause-expired
unfolding same_without_case join_text refusal_reply
returns-clause-expired c = refl
