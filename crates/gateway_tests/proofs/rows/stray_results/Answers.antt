use Rattle.std.proofs.Common.{refl}
use Rattle.http_pieces.specs.Fields.{same_without_case}
use Rattle.call_plan.specs.Plan.{join_text}
use Rattle.gateway_model.specs.Arrival.{refusal_reply}
use Rattle.gateway_tests.proofs.OnLiterals.{replies_on_literals}
use Rattle.gateway_tests.proofs.rows.stray_results.Goals as goal

pub returns-clause-not_started : goal.returns-clause-not_started
unfolding same_without_case join_text refusal_reply
returns-clause-not_started c = refl

pub returns-clause-counted : goal.returns-clause-counted
unfolding same_without_case join_text refusal_reply
returns-clause-counted c = refl

pub returns-clause-again : goal.returns-clause-again
unfolding same_without_case join_text refusal_reply
returns-clause-again c = refl

pub returns-clause-failure : goal.returns-clause-failure
unfolding same_without_case join_text refusal_reply
returns-clause-failure c = refl

pub returns-clause-late : goal.returns-clause-late
unfolding same_without_case join_text refusal_reply
returns-clause-late c = refl

pub returns-clause-late_again : goal.returns-clause-late_again
unfolding same_without_case join_text refusal_reply
returns-clause-late_again c = refl

pub returns-clause-replies : goal.returns-clause-replies
unfolding same_without_case join_text refusal_reply
returns-clause-replies c = refl

pub returns-clause-body : goal.returns-clause-body
unfolding replies_on_literals
returns-clause-body c = refl

pub returns-clause-body_bytes : goal.returns-clause-body_bytes
unfolding replies_on_literals
returns-clause-body_bytes c = refl

pub returns-clause-bytes : goal.returns-clause-bytes
unfolding replies_on_literals
returns-clause-bytes c = refl
