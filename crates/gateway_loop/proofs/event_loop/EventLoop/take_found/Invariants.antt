use Rattle.gateway_loop.proofs.Words.{◌≡◌, ◌++◌, List, length, Admits, FoundValue}
use Rattle.gateway_loop.proofs.event_loop.EventLoop.take_found.Given as goal

-- these were taken, and the others are left
abbrev pub invariant-loop-looked_up : goal.invariant-loop-looked_up
invariant-loop-looked_up g l =
    (done : List FoundValue) × Admits 0 done (g.N.Network.value l.fn.net) (g.N.Network.value l.net) l.fn.self l.self × (l.fn.found.items ≡ done ++ l.found.items)

abbrev pub decreases-loop-looked_up : goal.decreases-loop-looked_up
decreases-loop-looked_up g l = length l.found.items
