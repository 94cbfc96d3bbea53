use Rattle.gateway_loop.proofs.Words.{[], ◌≡◌, ◌+◌, ℕ, length, Admits}
use Rattle.gateway_loop.proofs.event_loop.EventLoop.admit_all.Given as goal

-- so many were dealt, and the others are left
abbrev pub invariant-loop-dealt : goal.invariant-loop-dealt
invariant-loop-dealt g l =
    (done : ℕ) × Admits done [] (g.N.Network.value l.fn.net) (g.N.Network.value l.net) l.fn.self l.self × (length l.fn.streams.items ≡ done + length l.streams.items)

abbrev pub decreases-loop-dealt : goal.decreases-loop-dealt
decreases-loop-dealt g l = length l.streams.items
