use Rattle.gateway_run.proofs.OneReply.{undecided_waits, waits}
use Rattle.gateway_run.proofs.laws.undecided_law.Goals as goal

pub returns-clause-waits : goal.returns-clause-waits
returns-clause-waits c = waits

pub returns-clause-no_reply : goal.returns-clause-no_reply
returns-clause-no_reply c = undecided_waits
