use Rattle.gateway_loop.proofs.Words.{◌∷◌, []}
use Rattle.gateway_loop.proofs.AskLemmas.{admits_goes}
use Rattle.gateway_loop.proofs.event_loop.EventLoop.take_name.Goals as goal

pub returns-in-Some : goal.returns-in-Some
returns-in-Some g c = record {
  goes = admits_goes 0 (c.args.looked_up.now ∷ []) _ _ _ (c.note_found.ensures.goes _) (rw c.stop_waits.ensures at c.go_all.ensures.goes);
}

pub returns-in_default : goal.returns-in_default
returns-in_default g c = record { goes = c.note_found.ensures.goes _ }
