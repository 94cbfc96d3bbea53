use Rattle.std.proofs.Common.{refl}
use Rattle.gateway_tests.proofs.OnLiterals.{outcomes_on_literals}
use Rattle.gateway_tests.proofs.rows_replies.outcomes_of_calls.Goals as goal

pub returns-clause-answer : goal.returns-clause-answer
unfolding outcomes_on_literals
returns-clause-answer c = refl

pub returns-clause-number : goal.returns-clause-number
unfolding outcomes_on_literals
returns-clause-number c = refl

pub returns-clause-lost : goal.returns-clause-lost
unfolding outcomes_on_literals
returns-clause-lost c = refl

pub returns-clause-exhausted : goal.returns-clause-exhausted
unfolding outcomes_on_literals
returns-clause-exhausted c = refl

pub returns-clause-empty : goal.returns-clause-empty
unfolding outcomes_on_literals
returns-clause-empty c = refl
