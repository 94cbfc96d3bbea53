use Rattle.backend_pool.proofs.Lemmas.{GatewayValue, [], ◌∷◌, refl, rules, arith, ap, ◌∙◌, hands_jobs}
use Rattle.backend_pool.proofs.book.Book.take_job.Goals as goal

pub returns : goal.returns
returns g c =
    let j = c.in-Some in
    let same = ap (λ (v : GatewayValue). v.tally) c.take_job.ensures.rest in
    rw (← c.self.view_is) record { stands = hands_jobs _ _ (j.job.job ∷ []) j.ensures.stands ([], refl, λ _ e. same ∙ e) (omega arith) (omega arith) (omega arith); gives = record { first = j.ensures.first; none = j.ensures.none; wanted = j.ensures.wanted }; rest = search rules; full = search rules; unchanged = tt; share = search rules; parts = search rules }
