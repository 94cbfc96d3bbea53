use Rattle.gateway_run.proofs.Occurring.{queued_later}
use Rattle.gateway_run.proofs.laws.nothing_later_law.Goals as goal

pub returns : goal.returns
returns c = queued_later c.requests_law.ensures.unique c.queue_law.ensures.nothing_later
