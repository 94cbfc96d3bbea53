use Rattle.gateway_loop.proofs.Words.{Goes}
use Rattle.gateway_loop.proofs.event_loop.EventLoop.reuse_any.Given as goal

-- it only went on
abbrev pub invariant-loop-stream : goal.invariant-loop-stream
invariant-loop-stream g l =
    Goes (g.N.Network.value l.fn.net) (g.N.Network.value l.net) l.fn.self l.self
