use Rattle.backend_pool.proofs.Lemmas.{[], ◌∷◌, refl, rules, arith, BranchResult, after_event, takes_event}
use Rattle.backend_pool.proofs.book.Book.result.Goals as goal

pub invariant_of-self : goal.invariant_of-self
invariant_of-self g c =
    let e = BranchResult c.args.call.now.conn c.args.call.now.request c.args.branch c.args.outcome in
    (after_event e c.self.invariant.0, takes_event _ _ e c.result.ensures.stands (c.result.result.seen ∷ [], refl, c.result.ensures.keeps.tally_is) (omega arith) (omega arith) (omega arith) _ c.self.invariant.1)

pub returns : goal.returns
returns g c =
    let r = c.result.ensures in
    let e = BranchResult c.args.call.now.conn c.args.call.now.request c.args.branch c.args.outcome in
    rw (← c.self.view_is) record { stands = takes_event _ _ e r.stands (c.result.result.seen ∷ [], refl, r.keeps.tally_is) (omega arith) (omega arith) (omega arith); tells = r.tells; keeps = r.keeps; counts = search rules; full = search rules; unchanged = tt; share = search rules; parts = search rules }
