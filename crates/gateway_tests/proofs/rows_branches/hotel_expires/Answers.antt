use Rattle.std.proofs.Common.{refl}
use Rattle.http_pieces.specs.Fields.{same_without_case}
use Rattle.call_plan.specs.Plan.{join_text}
use Rattle.gateway_model.specs.Arrival.{refusal_reply}
use Rattle.gateway_tests.proofs.OnLiterals.{replies_on_literals}
use Rattle.gateway_tests.proofs.rows_branches.hotel_expires.Goals as goal

pub returns-clause-before : goal.returns-clause-before
unfolding same_without_case join_text refusal_reply
returns-clause-before c = refl

pub returns-clause-replies : goal.returns-clause-replies
unfolding same_without_case join_text refusal_reply
returns-clause-replies c = refl

pub returns-clause-late : goal.returns-clause-late
unfolding same_without_case join_text refusal_reply
returns-clause-late c = refl

pub returns-clause-unknown : goal.returns-clause-unknown
unfolding same_without_case join_text refusal_reply
returns-clause-unknown c = refl

pub returns-clause-body : goal.returns-clause-body
unfolding replies_on_literals
returns-clause-body c = refl

pub returns-clause-body_bytes : goal.returns-clause-body_bytes
unfolding replies_on_literals
returns-clause-body_bytes c = refl

pub returns-clause-bytes : goal.returns-clause-bytes
unfolding replies_on_literals
returns-clause-bytes c = refl

pub returns-clause-lawful : goal.returns-clause-lawful
unfolding same_without_case join_text refusal_reply
returns-clause-lawful c = refl
