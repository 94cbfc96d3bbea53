use Rattle.gateway_loop.proofs.HistoryLemmas.{explained}
use Rattle.gateway_loop.proofs.clients.Clients.explained_law.Goals as goal

pub returns : goal.returns
returns g c = rw (← c.self.view_is) (explained c.loop_laws.ensures c.self.inside.moment _ c.self.invariant)
