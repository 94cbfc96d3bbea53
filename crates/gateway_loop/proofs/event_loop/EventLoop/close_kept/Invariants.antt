use Rattle.gateway_loop.proofs.Words.{◌≡◌, Goes, length}
use Rattle.gateway_loop.proofs.event_loop.EventLoop.close_kept.Given as goal

-- it only went on, and all else is the same
abbrev pub invariant-loop-self : goal.invariant-loop-self
invariant-loop-self g l =
    Goes (g.N.Network.value l.fn.net) (g.N.Network.value l.net) l.fn.self l.self
    × ((l.self.asking ≡ l.fn.self.asking) × (l.self.side ≡ l.fn.self.side) × (l.self.closing ≡ l.fn.self.closing))

abbrev pub decreases-loop-self : goal.decreases-loop-self
decreases-loop-self g l = length l.self.kept
