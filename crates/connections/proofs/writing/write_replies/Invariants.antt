use Rattle.connections.proofs.Lemmas.{[], Writes, NotYet}
use Rattle.connections.proofs.writing.write_replies.Given as goal

-- what was given so far is written whole, and kept
abbrev pub invariant-loop : goal.invariant-loop
invariant-loop g l =
    (goal.iterator-loop g).can_next l.iterator' × (goal.iterator-loop g).is_finite l.iterator'
    × Writes l.conn 0 (g.W.Write.contents l.initial.writer) (g.W.Write.contents l.writer) (g.Q.ReplyQueue.told l.initial.queue) (g.Q.ReplyQueue.told l.queue) l.written.items NotYet []
