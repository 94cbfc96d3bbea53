use Rattle.gateway_loop.proofs.Words.{length}
use Rattle.gateway_loop.specs.Closing.{ClosesFrom}
use Rattle.gateway_loop.proofs.closing.ClosingStreams.close_all.Given as goal

-- some were closed
abbrev pub invariant-loop-self : goal.invariant-loop-self
invariant-loop-self g l = ClosesFrom (g.N.Network.value l.fn.net) (g.N.Network.value l.net) l.fn.self l.self

abbrev pub decreases-loop-self : goal.decreases-loop-self
decreases-loop-self g l = length l.self
