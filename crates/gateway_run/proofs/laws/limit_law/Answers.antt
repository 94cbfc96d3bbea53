use Rattle.gateway_run.proofs.Names.{occurrences}
use Rattle.gateway_run.proofs.laws.limit_law.Goals as goal

pub returns : goal.returns
returns c = λ plans opened events occurred id called occurs called_is. c.limit_law.ensures id (occurrences occurred) called called_is
