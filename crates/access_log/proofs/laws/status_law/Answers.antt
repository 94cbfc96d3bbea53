use Rattle.access_log.proofs.StatusLemmas.{status_is}
use Rattle.access_log.proofs.laws.status_law.Goals as goal

pub returns : goal.returns
returns c = record { status = status_is }
