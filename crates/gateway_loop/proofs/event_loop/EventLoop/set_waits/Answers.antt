use Rattle.gateway_loop.proofs.Words.{sym}
use Rattle.gateway_loop.proofs.Places.{set_same}
use Rattle.gateway_loop.proofs.event_loop.EventLoop.set_waits.Goals as goal
use Rattle.gateway_loop.proofs.event_loop.EventLoop.set_waits.Goals.{in-Some, in_default}

pub invariant_of-self : goal.invariant_of-self
invariant_of-self g c = elim c.match-get_mut.branch [
  | in-Some w ↦ rw w.self-inside-is (rw (set_same _ _ _ (sym w.in-Some.ensures.value)) c.self.invariant)
  | in_default w ↦ rw w.self-inside-is c.self.invariant
]
