use Rattle.gateway_loop.proofs.AskLemmas.{goes_then}
use Rattle.gateway_loop.proofs.event_loop.EventLoop.serve_ready.Goals as goal

pub loop-ready-preserved-in-Client : goal.loop-ready-preserved-in-Client
loop-ready-preserved-in-Client g c = goes_then _ _ _ c.loop-ready.invariant c.serve_client.ensures.goes

pub loop-ready-preserved : goal.loop-ready-preserved
loop-ready-preserved g c = goes_then _ _ _ c.loop-ready.invariant c.serve_exchange.ensures.goes
