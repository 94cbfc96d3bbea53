use Rattle.gateway_loop.proofs.AskLemmas.{goes_then}
use Rattle.gateway_loop.proofs.event_loop.EventLoop.close_exchanges.Goals as goal

pub loop-place-preserved : goal.loop-place-preserved
loop-place-preserved g c = goes_then _ _ _ c.loop-place.invariant c.record-end.ensures.goes

pub loop-place-preserved-in-Some : goal.loop-place-preserved-in-Some
loop-place-preserved-in-Some g c = goes_then _ _ _ c.loop-place.invariant c.record-end.ensures.goes
