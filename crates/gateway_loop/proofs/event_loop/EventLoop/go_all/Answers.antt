use Rattle.gateway_loop.proofs.AskLemmas.{goes_same, goes_then, stays_found}
use Rattle.gateway_loop.proofs.event_loop.EventLoop.go_all.Goals as goal

pub loop-place-init : goal.loop-place-init
loop-place-init g c = (goes_same _, c.requires)

pub loop-place-preserved : goal.loop-place-preserved
loop-place-preserved g c = (goes_then _ _ _ c.loop-place.invariant.0 c.go_to.ensures.goes, stays_found _ _ _ c.go_to.ensures.goes c.loop-place.invariant.1)

pub go_to-requires : goal.go_to-requires
go_to-requires g c = c.loop-place.invariant.1

pub returns : goal.returns
returns g c = record { goes = c.loop-place.invariant.0 }
