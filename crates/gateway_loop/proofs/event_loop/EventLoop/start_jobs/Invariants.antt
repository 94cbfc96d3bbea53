use Rattle.gateway_loop.proofs.Words.{Goes}
use Rattle.gateway_loop.proofs.event_loop.EventLoop.start_jobs.Given as goal

-- it only went on
abbrev pub invariant-loop-started : goal.invariant-loop-started
invariant-loop-started g l =
    Goes (g.N.Network.value l.fn.net) (g.N.Network.value l.net) l.fn.self l.self
