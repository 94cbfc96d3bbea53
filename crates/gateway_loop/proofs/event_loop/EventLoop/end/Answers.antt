use Rattle.gateway_loop.proofs.AskLemmas.{goes_then}
use Rattle.gateway_loop.proofs.event_loop.EventLoop.end.Goals as goal

pub returns-then-not-is_wanted : goal.returns-then-not-is_wanted
returns-then-not-is_wanted g c = record { goes = goes_then _ _ _ c.tick.ensures.goes (goes_then _ _ _ c.finish.ensures.goes (rw c.note.ensures at c.give_up_unwanted.ensures.goes)) }

pub returns-else-not-is_wanted : goal.returns-else-not-is_wanted
returns-else-not-is_wanted g c = record { goes = rw c.note.ensures (goes_then _ _ _ c.tick.ensures.goes c.finish.ensures.goes) }

pub returns-in_default : goal.returns-in_default
returns-in_default g c = record { goes = goes_then _ _ _ c.tick.ensures.goes c.finish.ensures.goes }
