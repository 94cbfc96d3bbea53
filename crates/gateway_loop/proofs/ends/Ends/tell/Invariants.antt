use Rattle.gateway_loop.proofs.Words.{◌≡◌}
use Rattle.gateway_loop.proofs.ends.Ends.tell.Given as goal

-- no moment is told
abbrev pub invariant-loop-end : goal.invariant-loop-end
invariant-loop-end g l = g.N.Network.value l.net ≡ g.N.Network.value l.fn.net
