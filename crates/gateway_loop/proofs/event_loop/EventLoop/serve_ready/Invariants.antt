use Rattle.gateway_loop.proofs.Words.{Goes}
use Rattle.gateway_loop.proofs.event_loop.EventLoop.serve_ready.Given as goal

-- it only went on
abbrev pub invariant-loop-ready : goal.invariant-loop-ready
invariant-loop-ready g l =
    Goes (g.N.Network.value l.fn.net) (g.N.Network.value l.net) l.fn.self l.self
