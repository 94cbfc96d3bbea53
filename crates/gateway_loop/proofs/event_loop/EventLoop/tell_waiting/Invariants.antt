use Rattle.gateway_loop.proofs.Words.{◌≡◌}
use Rattle.gateway_loop.proofs.event_loop.EventLoop.tell_waiting.Given as goal

-- nothing changed, and no moment was told
abbrev pub invariant-loop-place : goal.invariant-loop-place
invariant-loop-place g l =
    (l.self ≡ l.fn.self) × (g.N.Network.value l.net ≡ g.N.Network.value l.fn.net)
