use Rattle.gateway_loop.proofs.Words.{Goes}
use Rattle.gateway_loop.proofs.event_loop.EventLoop.settle.Given as goal

-- it only went on
abbrev pub invariant-loop-round : goal.invariant-loop-round
invariant-loop-round g l =
    Goes (g.N.Network.value l.fn.net) (g.N.Network.value l.net) l.fn.self l.self
