use Rattle.gateway_loop.proofs.Words.{Goes}
use Rattle.gateway_loop.proofs.event_loop.EventLoop.try_next.Given as goal

-- it only went on
abbrev pub invariant-loop-address : goal.invariant-loop-address
invariant-loop-address g l =
    Goes (g.N.Network.value l.fn.net) (g.N.Network.value l.net) l.fn.self l.self
