use Rattle.gateway_loop.proofs.AskLemmas.{goes_then}
use Rattle.gateway_loop.proofs.event_loop.EventLoop.reuse_any.Goals as goal

pub returns-in-Goes : goal.returns-in-Goes
returns-in-Goes g c = record { goes = rw c.count_kept.ensures (goes_then _ _ _ c.loop-stream.invariant c.reuse.ensures.goes) }

pub returns-in-NoneKept : goal.returns-in-NoneKept
returns-in-NoneKept g c = record { goes = goes_then _ _ _ c.loop-stream.invariant c.reuse.ensures.goes }

pub loop-stream-preserved : goal.loop-stream-preserved
loop-stream-preserved g c = rw c.count_kept-in-Closed.ensures (goes_then _ _ _ c.loop-stream.invariant c.reuse.ensures.goes)
