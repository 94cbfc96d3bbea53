use Rattle.gateway_run.proofs.Occurring.{nothing_occurs}
use Rattle.gateway_run.proofs.laws.no_effect_law.Goals as goal

pub returns : goal.returns
returns c = nothing_occurs c.requests_law.ensures.unique
