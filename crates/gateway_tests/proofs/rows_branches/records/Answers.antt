use Rattle.std.proofs.Common.{refl}
use Rattle.http_pieces.specs.Fields.{same_without_case}
use Rattle.call_plan.specs.Plan.{join_text}
use Rattle.gateway_model.specs.Arrival.{refusal_reply}
use Rattle.gateway_tests.proofs.rows_branches.records.Goals as goal

pub returns-clause-lawful : goal.returns-clause-lawful
unfolding same_without_case join_text refusal_reply
returns-clause-lawful c = refl

pub returns-clause-decided : goal.returns-clause-decided
unfolding same_without_case join_text refusal_reply
returns-clause-decided c = refl

pub returns-clause-early : goal.returns-clause-early
unfolding same_without_case join_text refusal_reply
returns-clause-early c = refl

pub returns-clause-not_started : goal.returns-clause-not_started
unfolding same_without_case join_text refusal_reply
returns-clause-not_started c = refl

pub returns-clause-answered : goal.returns-clause-answered
unfolding same_without_case join_text refusal_reply
returns-clause-answered c = refl

pub returns-clause-without_a_time : goal.returns-clause-without_a_time
unfolding same_without_case join_text refusal_reply
returns-clause-without_a_time c = refl

pub returns-clause-behind_the_end : goal.returns-clause-behind_the_end
unfolding same_without_case join_text refusal_reply
returns-clause-behind_the_end c = refl

pub returns-clause-other_lawful : goal.returns-clause-other_lawful
unfolding same_without_case join_text refusal_reply
returns-clause-other_lawful c = refl
