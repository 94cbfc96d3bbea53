use Rattle.gateway_loop.proofs.Words.{◌∙◌, sym}
use Rattle.gateway_loop.proofs.CountLemmas.{first_is_there}
use Rattle.gateway_loop.proofs.clients.Clients.first_place.Goals as goal

pub returns-clause-some : goal.returns-clause-some
returns-clause-some g c = rw (← c.self.view_is) (first_is_there c.self.inside.clients.slots _ _ (sym c.iter.ensures.rest ∙ c.in_ok-next.ensures.steps))
