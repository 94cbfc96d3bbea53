use Rattle.gateway_run.proofs.Names.{refl, marked, occurrences}
use Rattle.gateway_run.proofs.OneReply.{queued_at, queued_until}
use Rattle.gateway_run.proofs.laws.one_reply_law.Goals as goal

pub returns-clause-in_order : goal.returns-clause-in_order
returns-clause-in_order c = λ plans opened events occurred conn k x o e. queued_at conn k (marked (occurrences occurred)) x e

pub returns-clause-up_to : goal.returns-clause-up_to
returns-clause-up_to c = λ plans opened events occurred conn o. queued_until conn (marked (occurrences occurred))

pub returns-clause-bytes : goal.returns-clause-bytes
returns-clause-bytes c = λ plans opened events occurred conn o. refl
