use Rattle.gateway_loop.proofs.ClosingLemmas.{closes_none, closes_then}
use Rattle.gateway_loop.proofs.closing.ClosingStreams.expire.Goals as goal

pub loop-stream-init : goal.loop-stream-init
loop-stream-init g c = closes_none _ _

pub loop-stream-preserved : goal.loop-stream-preserved
loop-stream-preserved g c = closes_then _ _ _ _ _ _ c.loop-stream.invariant c.close_first.ensures.closes

pub returns-then-is_none_or : goal.returns-then-is_none_or
returns-then-is_none_or g c = c.loop-stream.invariant

pub returns : goal.returns
returns g c = c.loop-stream.invariant
