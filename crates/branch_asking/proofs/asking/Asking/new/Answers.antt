use Rattle.branch_asking.proofs.Words.{List, ap, inl, inr, subst, ℕ, ◌∙◌, Asks}
use Rattle.branch_asking.proofs.BegunLemmas.{new_begins}
use Rattle.branch_asking.proofs.asking.Asking.new.Goals as goal
use Rattle.branch_asking.proofs.asking.Asking.new.Goals.{in-Ok, in-Err}

pub invariant_of-result : goal.invariant_of-result
invariant_of-result g c =
    let x = c.new-3 in
    new_begins c.args.manner c.args.job c.new-2.result x.result c.match-request_of.request.1 c.new-4.result.items c.new-4.ensures c.new-2.ensures x.ensures.alone x.ensures.untouched
    (elim c.match-request_of.branch [
      | in-Ok w ↦ inr (ap (λ r. r.1) w.request-is, subst (λ (request : List ℕ). Asks c.args.manner.framing request x.result) (ap (λ r. r.0) w.request-is ∙ w.in-Ok.ensures) x.ensures.asks)
      | in-Err w ↦ inl (ap (λ r. r.1) w.request-is)
    ])
