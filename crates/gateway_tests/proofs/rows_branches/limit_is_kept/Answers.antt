use Rattle.std.proofs.Common.{refl}
use Rattle.http_pieces.specs.Fields.{same_without_case}
use Rattle.call_plan.specs.Plan.{join_text}
use Rattle.gateway_model.specs.Arrival.{refusal_reply}
use Rattle.gateway_tests.proofs.rows_branches.limit_is_kept.Goals as goal

pub returns-clause-both : goal.returns-clause-both
unfolding same_without_case join_text refusal_reply
returns-clause-both c = refl

pub returns-clause-starts : goal.returns-clause-starts
unfolding same_without_case join_text refusal_reply
returns-clause-starts c = refl

pub returns-clause-none : goal.returns-clause-none
unfolding same_without_case join_text refusal_reply
returns-clause-none c = refl
