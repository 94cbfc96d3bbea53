use Rattle.std.proofs.Common.{refl}
use Rattle.http_pieces.specs.Fields.{same_without_case}
use Rattle.call_plan.specs.Plan.{join_text}
use Rattle.gateway_model.specs.Arrival.{refusal_reply}
use Rattle.gateway_tests.proofs.OnLiterals.{replies_on_literals}
use Rattle.gateway_tests.proofs.rows.zero_timeout_and_drained.Goals as goal

pub returns-clause-replies : goal.returns-clause-replies
unfolding same_without_case join_text refusal_reply
returns-clause-replies c = refl

pub returns-clause-starts : goal.returns-clause-starts
unfolding same_without_case join_text refusal_reply
returns-clause-starts c = refl

pub returns-clause-drained : goal.returns-clause-drained
unfolding same_without_case join_text refusal_reply
returns-clause-drained c = refl

pub returns-clause-drained_starts : goal.returns-clause-drained_starts
unfolding same_without_case join_text refusal_reply
returns-clause-drained_starts c = refl

pub returns-clause-bytes : goal.returns-clause-bytes
unfolding replies_on_literals
returns-clause-bytes c = refl

pub returns-clause-drained_body : goal.returns-clause-drained_body
unfolding replies_on_literals
returns-clause-drained_body c = refl

pub returns-clause-drained_body_bytes : goal.returns-clause-drained_body_bytes
unfolding replies_on_literals
returns-clause-drained_body_bytes c = refl

pub returns-clause-drained_bytes : goal.returns-clause-drained_bytes
unfolding replies_on_literals
returns-clause-drained_bytes c = refl
