use Rattle.gateway_loop.proofs.Words.{◌∙◌}
use Rattle.gateway_loop.proofs.AskLemmas.{goes_then}
use Rattle.gateway_loop.proofs.event_loop.EventLoop.close_clients.Goals as goal

pub loop-place-preserved : goal.loop-place-preserved
loop-place-preserved g c = (goes_then _ _ _ c.loop-place.invariant.0 c.let_go.ensures.goes, c.let_go.ensures.others ∙ c.loop-place.invariant.1)
