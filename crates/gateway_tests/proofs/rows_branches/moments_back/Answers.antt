use Rattle.std.proofs.Common.{refl}
use Rattle.http_pieces.specs.Fields.{same_without_case}
use Rattle.call_plan.specs.Plan.{join_text}
use Rattle.gateway_model.specs.Arrival.{refusal_reply}
use Rattle.gateway_tests.proofs.rows_branches.moments_back.Goals as goal

pub returns-clause-before : goal.returns-clause-before
unfolding same_without_case join_text refusal_reply
returns-clause-before c = refl

pub returns-clause-replies : goal.returns-clause-replies
unfolding same_without_case join_text refusal_reply
returns-clause-replies c = refl

pub returns-clause-last : goal.returns-clause-last
unfolding same_without_case join_text refusal_reply
returns-clause-last c = refl
