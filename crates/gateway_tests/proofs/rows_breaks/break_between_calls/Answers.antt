use Rattle.std.proofs.Common.{refl}
use Rattle.http_pieces.specs.Fields.{same_without_case}
use Rattle.call_plan.specs.Plan.{join_text}
use Rattle.gateway_model.specs.Arrival.{refusal_reply}
use Rattle.gateway_tests.proofs.rows_breaks.break_between_calls.Goals as goal

pub returns-clause-late : goal.returns-clause-late
unfolding same_without_case join_text refusal_reply
returns-clause-late c = refl

pub returns-clause-never : goal.returns-clause-never
unfolding same_without_case join_text refusal_reply
returns-clause-never c = refl

pub returns-clause-other : goal.returns-clause-other
unfolding same_without_case join_text refusal_reply
returns-clause-other c = refl

pub returns-clause-out : goal.returns-clause-out
unfolding same_without_case join_text refusal_reply
returns-clause-out c = refl

pub returns-clause-back : goal.returns-clause-back
unfolding same_without_case join_text refusal_reply
returns-clause-back c = refl

pub returns-clause-starts : goal.returns-clause-starts
unfolding same_without_case join_text refusal_reply
returns-clause-starts c = refl
