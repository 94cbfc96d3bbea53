use Rattle.gateway_loop.proofs.AskLemmas.{goes_then}
use Rattle.gateway_loop.proofs.TellLemmas.{left_then}
use Rattle.gateway_loop.proofs.event_loop.EventLoop.hear_kept.Goals as goal

pub loop-index-preserved : goal.loop-index-preserved
loop-index-preserved g c =
    let before = c.loop-index.invariant in
    (left_then _ _ _ before.0 c.look_at_kept-is_heard.ensures.rest, goes_then _ _ _ before.1 c.look_at_kept-is_heard.ensures.goes)
