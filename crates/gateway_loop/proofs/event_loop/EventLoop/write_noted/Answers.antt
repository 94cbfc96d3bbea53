use Rattle.gateway_loop.proofs.AskLemmas.{goes_then}
use Rattle.gateway_loop.proofs.event_loop.EventLoop.write_noted.Goals as goal

pub loop-client-preserved : goal.loop-client-preserved
loop-client-preserved g c = goes_then _ _ _ c.loop-client.invariant (rw c.next_noted.ensures at c.write_client.ensures.goes)
