use Rattle.std.proofs.Common.{refl}
use Rattle.http_pieces.specs.Fields.{same_without_case}
use Rattle.call_plan.specs.Plan.{join_text}
use Rattle.gateway_model.specs.Arrival.{refusal_reply}
use Rattle.gateway_tests.proofs.rows_branches.nothing_after.Goals as goal

pub returns-clause-replies : goal.returns-clause-replies
unfolding same_without_case join_text refusal_reply
returns-clause-replies c = refl

pub returns-clause-drained : goal.returns-clause-drained
unfolding same_without_case join_text refusal_reply
returns-clause-drained c = refl

pub returns-clause-closed : goal.returns-clause-closed
unfolding same_without_case join_text refusal_reply
returns-clause-closed c = refl

pub returns-clause-frozen : goal.returns-clause-frozen
unfolding same_without_case join_text refusal_reply
returns-clause-frozen c = refl

pub returns-clause-at_arrival : goal.returns-clause-at_arrival
unfolding same_without_case join_text refusal_reply
returns-clause-at_arrival c = refl
