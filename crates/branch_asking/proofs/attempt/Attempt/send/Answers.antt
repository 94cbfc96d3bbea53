use Rattle.branch_asking.proofs.Words.{refl}
use Rattle.branch_asking.proofs.BegunLemmas.{lost_by, sent_asks}
use Rattle.branch_asking.proofs.attempt.Attempt.send.Goals as goal

pub returns-in-Bytes-clause-steps : goal.returns-in-Bytes-clause-steps
returns-in-Bytes-clause-steps g c =
    rw (← c.self.view_is)
    (rw c.in-Some.is (λ framing request a. sent_asks framing request _ _ _ _ _ _ c.in-Bytes.count _ c.request.ensures c.sent.ensures c.in-Bytes.ensures.turns c.in-Bytes.ensures.within a))

pub returns-in-Failed-clause-steps : goal.returns-in-Failed-clause-steps
returns-in-Failed-clause-steps g c =
    rw (← c.self.view_is) (rw c.in-Some.is (λ framing request a. lost_by framing request _ _ _ _ _ _ _ c.in-Failed.ensures.turns refl refl a))
