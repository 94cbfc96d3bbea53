use Rattle.std.proofs.Common.{refl}
use Rattle.http_pieces.specs.Fields.{same_without_case}
use Rattle.call_plan.specs.Plan.{join_text}
use Rattle.gateway_model.specs.Arrival.{refusal_reply}
use Rattle.gateway_tests.proofs.rows_branches.tie_with_the_call.Goals as goal

pub returns-clause-replies : goal.returns-clause-replies
unfolding same_without_case join_text refusal_reply
returns-clause-replies c = refl

pub returns-clause-sooner_call : goal.returns-clause-sooner_call
unfolding same_without_case join_text refusal_reply
returns-clause-sooner_call c = refl

pub returns-clause-sooner_branch : goal.returns-clause-sooner_branch
unfolding same_without_case join_text refusal_reply
returns-clause-sooner_branch c = refl
