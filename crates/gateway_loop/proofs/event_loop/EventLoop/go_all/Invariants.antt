use Rattle.gateway_loop.proofs.Words.{Contains, Goes}
use Rattle.gateway_loop.proofs.event_loop.EventLoop.go_all.Given as goal

-- it only went on, and the name stays found
abbrev pub invariant-loop-place : goal.invariant-loop-place
invariant-loop-place g l =
    Goes (g.N.Network.value l.fn.net) (g.N.Network.value l.net) l.fn.self l.self × Contains l.self.looked_up l.looked_up
