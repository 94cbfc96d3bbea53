use Rattle.gateway_loop.proofs.AskLemmas.{goes_then}
use Rattle.gateway_loop.proofs.event_loop.EventLoop.serve_exchanges.Goals as goal
use Rattle.gateway_loop.proofs.event_loop.EventLoop.serve_exchanges.Goals.{then-not-exchange_rests, else-not-exchange_rests}

pub loop-place-preserved : goal.loop-place-preserved
loop-place-preserved g c = elim c.if-not-exchange_rests.branch [
  | then-not-exchange_rests w ↦ rw (w.self-is, w.net-is) (goes_then _ _ _ c.loop-place.invariant w.serve_exchange.ensures.goes)
  | else-not-exchange_rests w ↦ rw (w.self-is, w.net-is) c.loop-place.invariant
]
