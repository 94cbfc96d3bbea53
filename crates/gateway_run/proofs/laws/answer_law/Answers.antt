use Rattle.gateway_run.proofs.Names.{occurrences}
use Rattle.gateway_run.proofs.CallAnswers.{has_answered, is_answered}
use Rattle.gateway_run.proofs.laws.answer_law.Goals as goal

pub returns-clause-joined_or_error : goal.returns-clause-joined_or_error
returns-clause-joined_or_error c = λ plans opened events occurred id r o e.
    is_answered (record { found = c.decided_law.ensures.found; lawful = c.record_law.ensures }) id (occurrences occurred) r e

pub returns-clause-from_results : goal.returns-clause-from_results
returns-clause-from_results c = λ plans opened events occurred id branch body o e. has_answered id branch body (occurrences occurred) e
