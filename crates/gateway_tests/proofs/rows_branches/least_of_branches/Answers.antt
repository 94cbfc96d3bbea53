use Rattle.std.proofs.Common.{refl}
use Rattle.http_pieces.specs.Fields.{same_without_case}
use Rattle.call_plan.specs.Plan.{join_text}
use Rattle.gateway_model.specs.Arrival.{refusal_reply}
use Rattle.gateway_tests.proofs.OnLiterals.{replies_on_literals}
use Rattle.gateway_tests.proofs.rows_branches.least_of_branches.Goals as goal

pub returns-clause-least : goal.returns-clause-least
unfolding same_without_case join_text refusal_reply
returns-clause-least c = refl

pub returns-clause-tie : goal.returns-clause-tie
unfolding same_without_case join_text refusal_reply
returns-clause-tie c = refl

pub returns-clause-tie_bytes : goal.returns-clause-tie_bytes
unfolding replies_on_literals
returns-clause-tie_bytes c = refl
