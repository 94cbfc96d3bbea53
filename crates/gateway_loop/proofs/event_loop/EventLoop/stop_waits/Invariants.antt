use Rattle.gateway_loop.proofs.Words.{◌≡◌}
use Rattle.gateway_loop.proofs.event_loop.EventLoop.stop_waits.Given as goal

-- it is the same
abbrev pub invariant-loop-place : goal.invariant-loop-place
invariant-loop-place g l = l.self ≡ l.fn.self
