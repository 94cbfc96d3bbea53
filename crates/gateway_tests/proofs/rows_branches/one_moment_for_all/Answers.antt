use Rattle.std.proofs.Common.{refl}
use Rattle.http_pieces.specs.Fields.{same_without_case}
use Rattle.call_plan.specs.Plan.{join_text}
use Rattle.gateway_model.specs.Arrival.{refusal_reply}
use Rattle.gateway_tests.proofs.rows_branches.one_moment_for_all.Goals as goal

pub returns-clause-call : goal.returns-clause-call
unfolding same_without_case join_text refusal_reply
returns-clause-call c = refl

pub returns-clause-branch : goal.returns-clause-branch
unfolding same_without_case join_text refusal_reply
returns-clause-branch c = refl

pub returns-clause-neither : goal.returns-clause-neither
unfolding same_without_case join_text refusal_reply
returns-clause-neither c = refl

pub returns-clause-held : goal.returns-clause-held
unfolding same_without_case join_text refusal_reply
returns-clause-held c = refl

pub returns-clause-in_order : goal.returns-clause-in_order
unfolding same_without_case join_text refusal_reply
returns-clause-in_order c = refl
