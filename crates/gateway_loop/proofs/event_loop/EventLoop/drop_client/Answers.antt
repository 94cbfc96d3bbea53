use Rattle.gateway_loop.proofs.AskLemmas.{goes_then}
use Rattle.gateway_loop.proofs.event_loop.EventLoop.drop_client.Goals as goal

pub returns : goal.returns
returns g c = record { goes = rw (← c.self.view_is) (goes_then _ _ _ (rw c.take_exchanges-exchanges.ensures at c.let_go.ensures.goes) c.give_up_all.ensures.goes) }
