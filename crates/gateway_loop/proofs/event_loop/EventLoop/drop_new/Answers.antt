use Rattle.gateway_loop.proofs.AskLemmas.{goes_then}
use Rattle.gateway_loop.proofs.event_loop.EventLoop.drop_new.Goals as goal

pub returns : goal.returns
returns g c = record { goes = rw c.tell_unasked.ensures (goes_then _ _ _ (c.note_loss.ensures.goes _) c.record-finished.ensures.goes) }
