use Rattle.std.proofs.Common.{refl}
use Rattle.http_pieces.specs.Fields.{same_without_case}
use Rattle.call_plan.specs.Plan.{join_text}
use Rattle.gateway_model.specs.Arrival.{refusal_reply}
use Rattle.gateway_tests.proofs.rows_breaks.break_behind_a_call.Goals as goal

pub returns-clause-starts : goal.returns-clause-starts
unfolding same_without_case join_text refusal_reply
returns-clause-starts c = refl

pub returns-clause-undecided : goal.returns-clause-undecided
unfolding same_without_case join_text refusal_reply
returns-clause-undecided c = refl

pub returns-clause-queued : goal.returns-clause-queued
unfolding same_without_case join_text refusal_reply
returns-clause-queued c = refl

pub returns-clause-unbroken : goal.returns-clause-unbroken
unfolding same_without_case join_text refusal_reply
returns-clause-unbroken c = refl
