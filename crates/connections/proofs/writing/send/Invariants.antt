use Rattle.connections.proofs.Lemmas.{length, take, ◌-◌, ◌≤◌, Appends}
use Rattle.connections.proofs.writing.send.Given as goal

-- the first bytes are written
abbrev pub invariant-loop-sent : goal.invariant-loop-sent
invariant-loop-sent g l =
    (l.sent ≤ length l.bytes) × Appends (g.W.Write.contents l.initial.writer) (g.W.Write.contents l.writer) (take l.sent l.bytes)

abbrev pub decreases-loop-sent : goal.decreases-loop-sent
decreases-loop-sent g l = length l.bytes - l.sent
