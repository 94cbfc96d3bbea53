use Rattle.backend_pool.proofs.Lemmas.{WorksAt, ◌≡◌, ◌+◌, ◌≤◌}
use Rattle.backend_pool.proofs.working.work.Given as goal

-- each job taken was recorded
abbrev pub invariant-loop : goal.invariant-loop
invariant-loop g l =
    (goal.iterator-loop g).can_next l.iterator' × (goal.iterator-loop g).is_finite l.iterator'
    × WorksAt g.B.Backend.gives 0 (g.D.Desk.told l.initial.desk) (g.D.Desk.told l.desk)
    × (g.D.Desk.gave l.initial.desk ≤ g.D.Desk.gave l.desk)
    × (g.D.Desk.took l.desk + g.D.Desk.gave l.initial.desk ≡ g.D.Desk.took l.initial.desk + g.D.Desk.gave l.desk)
    × (g.D.Desk.took l.initial.desk ≤ g.D.Desk.took l.desk)
