use Rattle.gateway_loop.proofs.Words.{◌∙◌}
use Rattle.gateway_loop.proofs.AskLemmas.{goes_then}
use Rattle.gateway_loop.proofs.event_loop.EventLoop.close_kept.Goals as goal

pub loop-self-preserved : goal.loop-self-preserved
loop-self-preserved g c =
    let before = c.loop-self.invariant in
    let others = c.close_kept_first.ensures.others in
    (goes_then _ _ _ before.0 c.close_kept_first.ensures.goes, (others.0 ∙ before.1.0, others.1 ∙ before.1.1, others.2 ∙ before.1.2))
