use Rattle.gateway_loop.proofs.AskLemmas.{goes_then}
use Rattle.gateway_loop.proofs.event_loop.EventLoop.give_up.Goals as goal

pub returns : goal.returns
returns g c = record { goes = goes_then _ _ _ (c.note_loss.ensures.goes _) c.finish-ended.ensures.goes }
