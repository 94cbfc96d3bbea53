use Rattle.gateway_loop.proofs.AskLemmas.{goes_then}
use Rattle.gateway_loop.proofs.event_loop.EventLoop.begin_over.Goals as goal

pub returns-in-Ended : goal.returns-in-Ended
returns-in-Ended g c = record { goes = goes_then _ _ _ (c.step.ensures.goes _) c.end.ensures.goes }

pub returns-in-Refused : goal.returns-in-Refused
returns-in-Refused g c = record { goes = goes_then _ _ _ (c.step.ensures.goes _) c.try_next.ensures.goes }

pub returns-in-Waits : goal.returns-in-Waits
returns-in-Waits g c = record { goes = goes_then _ _ _ (c.step.ensures.goes _) c.watch.ensures.goes }
