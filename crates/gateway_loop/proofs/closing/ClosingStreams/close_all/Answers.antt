use Rattle.gateway_loop.proofs.ClosingLemmas.{closes_none, closes_then}
use Rattle.gateway_loop.proofs.closing.ClosingStreams.close_all.Goals as goal

pub loop-self-init : goal.loop-self-init
loop-self-init g c = closes_none _ _

pub loop-self-preserved : goal.loop-self-preserved
loop-self-preserved g c = closes_then _ _ _ _ _ _ c.loop-self.invariant c.close_first.ensures.closes
