use Rattle.branch_asking.proofs.Words.{refl}
use Rattle.branch_asking.proofs.BegunLemmas.{lost_by, read_asks, read_ends}
use Rattle.branch_asking.proofs.attempt.Attempt.receive.Goals as goal
use Rattle.branch_asking.proofs.attempt.Attempt.receive.Goals.{in-Some-received, in-None}

pub returns-in-End-Some-clause-steps : goal.returns-in-End-Some-clause-steps
returns-in-End-Some-clause-steps g c =
    rw (← c.self.view_is) (rw c.in-Some.is (λ framing request a. lost_by framing request _ _ _ _ _ _ _ c.in-End-Some.ensures.turns refl refl a))

pub returns-in-End-None-clause-steps : goal.returns-in-End-None-clause-steps
returns-in-End-None-clause-steps g c =
    rw (← c.self.view_is) (rw c.in-Some.is (λ framing request a. lost_by framing request _ _ _ _ _ _ _ c.in-End-None.ensures.turns refl refl a))

pub returns-after-received-clause-steps : goal.returns-after-received-clause-steps
returns-after-received-clause-steps g c =
    rw (← c.self.view_is)
    (rw c.in-Some.is (λ framing request a. elim c.match-received.branch [
      | in-Some-received w ↦ rw w.result-is (rw w.own_end.ensures
          (read_ends framing request _ _ _ _ _ _ _ _ _ w.in-Some-received.end c.in-Bytes.ensures.turns c.in-Bytes.ensures.within c.received.ensures.left c.is_used-is_used.ensures
          (w.in-Some-received.ensures.comes _ _ a.reads) a))
      | in-None w ↦ rw w.result-is (read_asks framing request _ _ _ _ _ _ _ _ c.received.ensures.left c.in-Bytes.ensures.turns c.in-Bytes.ensures.within (w.in-None.ensures.comes _ _ a.reads) a)
    ]))
