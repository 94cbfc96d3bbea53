use Rattle.gateway_loop.proofs.AskLemmas.{goes_then}
use Rattle.gateway_loop.proofs.event_loop.EventLoop.give_up_places.Goals as goal

pub loop-place-preserved : goal.loop-place-preserved
loop-place-preserved g c = goes_then _ _ _ c.loop-place.invariant c.give_up.ensures.goes

pub returns : goal.returns
returns g c = record { goes = c.loop-place.invariant }
