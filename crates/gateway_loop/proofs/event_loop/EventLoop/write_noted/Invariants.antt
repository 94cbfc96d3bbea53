use Rattle.gateway_loop.proofs.Words.{Goes}
use Rattle.gateway_loop.proofs.event_loop.EventLoop.write_noted.Given as goal

-- it only went on
abbrev pub invariant-loop-client : goal.invariant-loop-client
invariant-loop-client g l =
    Goes (g.N.Network.value l.fn.net) (g.N.Network.value l.net) l.fn.self l.self
