use Rattle.gateway_loop.proofs.AskLemmas.{goes_then}
use Rattle.gateway_loop.proofs.event_loop.EventLoop.serve_restless.Goals as goal

pub returns : goal.returns
returns g c = record { goes = goes_then _ _ _ c.serve_exchanges.ensures.goes c.serve_clients.ensures.goes }
