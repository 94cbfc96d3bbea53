use Rattle.gateway_loop.specs.Closing.{ClosesFrom}
use Rattle.gateway_loop.proofs.closing.ClosingStreams.expire.Given as goal

-- some were closed
abbrev pub invariant-loop-stream : goal.invariant-loop-stream
invariant-loop-stream g l = ClosesFrom (g.N.Network.value l.fn.net) (g.N.Network.value l.net) l.fn.self l.self
