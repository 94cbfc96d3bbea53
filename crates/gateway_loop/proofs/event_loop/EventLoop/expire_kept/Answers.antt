use Rattle.gateway_loop.proofs.AskLemmas.{goes_same, goes_then}
use Rattle.gateway_loop.proofs.event_loop.EventLoop.expire_kept.Goals as goal

pub loop-stream-preserved : goal.loop-stream-preserved
loop-stream-preserved g c = goes_then _ _ _ c.loop-stream.invariant c.close_kept_due.ensures.goes

pub returns-then-not-close_kept_due : goal.returns-then-not-close_kept_due
returns-then-not-close_kept_due g c = record { goes = goes_then _ _ _ c.loop-stream.invariant c.close_kept_due.ensures.goes }
