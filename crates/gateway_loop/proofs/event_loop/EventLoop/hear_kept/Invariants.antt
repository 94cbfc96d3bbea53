use Rattle.gateway_loop.proofs.Words.{Goes}
use Rattle.gateway_loop.specs.Loop.{HasLeftMore}
use Rattle.gateway_loop.proofs.event_loop.EventLoop.hear_kept.Given as goal

-- it only went on, and all else is the same
abbrev pub invariant-loop-index : goal.invariant-loop-index
invariant-loop-index g l =
    HasLeftMore l.fn.self l.self × Goes (g.N.Network.value l.fn.net) (g.N.Network.value l.net) l.fn.self l.self
