use Rattle.gateway_loop.proofs.Words.{Goes, count_by, is_some}
use Rattle.gateway_loop.proofs.event_loop.EventLoop.close_exchanges.Given as goal

-- it only went on
abbrev pub invariant-loop-place : goal.invariant-loop-place
invariant-loop-place g l = Goes (g.N.Network.value l.fn.net) (g.N.Network.value l.net) l.fn.self l.self

abbrev pub decreases-loop-place : goal.decreases-loop-place
decreases-loop-place g l = count_by is_some l.self.asking
