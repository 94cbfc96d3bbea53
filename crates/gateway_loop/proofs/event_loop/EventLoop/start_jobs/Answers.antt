use Rattle.gateway_loop.proofs.AskLemmas.{goes_then}
use Rattle.gateway_loop.proofs.event_loop.EventLoop.start_jobs.Goals as goal

pub loop-started-preserved : goal.loop-started-preserved
loop-started-preserved g c = goes_then _ _ _ c.loop-started.invariant (goes_then _ _ _ c.make_room.ensures.goes (goes_then _ _ _ (c.begin.ensures.goes _) c.start.ensures.goes))

pub returns-in_default : goal.returns-in_default
returns-in_default g c = record { goes = goes_then _ _ _ c.loop-started.invariant (goes_then _ _ _ c.make_room.ensures.goes (c.begin.ensures.goes _)) }
