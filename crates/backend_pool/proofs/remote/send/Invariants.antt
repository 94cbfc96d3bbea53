use Rattle.backend_pool.proofs.Lemmas.{SendsOn, ◌≡◌, length}
use Rattle.backend_pool.proofs.remote.send.Given as goal

-- what was written and what is left is the request
abbrev pub invariant-loop-writer : goal.invariant-loop-writer
invariant-loop-writer g l =
    SendsOn (g.W.Write.contents l.fn.writer) (g.W.Write.contents l.writer) l.fn.exchange.left l.exchange.left × (l.exchange.replies ≡ l.fn.exchange.replies)

abbrev pub decreases-loop-writer : goal.decreases-loop-writer
decreases-loop-writer g l = length l.exchange.left
