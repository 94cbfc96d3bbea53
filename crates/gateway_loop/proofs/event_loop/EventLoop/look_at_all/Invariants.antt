use Rattle.gateway_loop.proofs.Words.{Goes}
use Rattle.gateway_loop.proofs.event_loop.EventLoop.look_at_all.Given as goal

-- it only went on
abbrev pub invariant-loop-place : goal.invariant-loop-place
invariant-loop-place g l =
    Goes (g.N.Network.value l.fn.net) (g.N.Network.value l.net) l.fn.self l.self
