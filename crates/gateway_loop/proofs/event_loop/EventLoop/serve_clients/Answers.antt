use Rattle.gateway_loop.proofs.AskLemmas.{goes_then}
use Rattle.gateway_loop.proofs.event_loop.EventLoop.serve_clients.Goals as goal
use Rattle.gateway_loop.proofs.event_loop.EventLoop.serve_clients.Goals.{then-not-rests, else-not-rests}

pub loop-place-preserved : goal.loop-place-preserved
loop-place-preserved g c = elim c.if-not-rests.branch [
  | then-not-rests w ↦ rw (w.self-is, w.net-is) (goes_then _ _ _ c.loop-place.invariant w.serve_client.ensures.goes)
  | else-not-rests w ↦ rw (w.self-is, w.net-is) c.loop-place.invariant
]
