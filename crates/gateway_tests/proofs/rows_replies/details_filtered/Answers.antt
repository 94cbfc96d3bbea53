use Rattle.std.proofs.Common.{refl}
use Rattle.http_pieces.specs.Fields.{same_without_case}
use Rattle.gateway_tests.proofs.OnLiterals.{outcomes_on_literals, replies_on_literals}
use Rattle.gateway_tests.proofs.rows_replies.details_filtered.Goals as goal

pub returns-clause-outcome : goal.returns-clause-outcome
unfolding outcomes_on_literals
returns-clause-outcome c = refl

pub returns-clause-replies : goal.returns-clause-replies
unfolding same_without_case
returns-clause-replies c = refl

pub returns-clause-body : goal.returns-clause-body
unfolding replies_on_literals
returns-clause-body c = refl

pub returns-clause-body_bytes : goal.returns-clause-body_bytes
unfolding replies_on_literals
returns-clause-body_bytes c = refl

pub returns-clause-bytes : goal.returns-clause-bytes
unfolding replies_on_literals
returns-clause-bytes c = refl
