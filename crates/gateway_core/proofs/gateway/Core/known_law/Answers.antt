use Rattle.gateway_core.proofs.Names.{known}
use Rattle.gateway_core.proofs.gateway.Core.known_law.Goals as goal

pub returns : goal.returns
returns g c = record { known = known c.args.self.now }
