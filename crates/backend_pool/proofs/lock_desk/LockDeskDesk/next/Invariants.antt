use Rattle.backend_pool.proofs.Lemmas.{◌≡◌}
use Rattle.backend_pool.proofs.lock_desk.LockDeskDesk.next.Given as goal

-- nothing was taken yet
abbrev pub invariant-loop : goal.invariant-loop
invariant-loop g l =
    (goal.iterator-loop g).can_next l.iterator' × (goal.iterator-loop g).is_finite l.iterator'
    × (l.self.shares.jobs.amount ≡ l.initial.self.shares.jobs.amount) × (l.self.shares.results.amount ≡ l.initial.self.shares.results.amount)
