use Rattle.backend_pool.proofs.Lemmas.{[], ◌∷◌, refl, rules, arith, BranchResult, after_event, takes_event}
use Rattle.connect_codec.specs.declared.answer.Outcome.TheVariants.{Answer}
use Rattle.backend_pool.proofs.book.Book.starved.Goals as goal

pub invariant_of-self : goal.invariant_of-self
invariant_of-self g c =
    let e = BranchResult c.args.call.now.conn c.args.call.now.request c.args.branch (Answer []) in
    (after_event e c.self.invariant.0, takes_event _ _ e (c.starved.ensures.stands (Answer [])) (c.starved.result.seen ∷ [], refl, c.starved.ensures.keeps.tally_is) (omega arith) (omega arith) (omega arith) _ c.self.invariant.1)

pub returns : goal.returns
returns g c =
    let r = c.starved.ensures in
    let e = BranchResult c.args.call.now.conn c.args.call.now.request c.args.branch in
    rw (← c.self.view_is) record { stands = λ outcome. takes_event _ _ (e outcome) (r.stands outcome) (c.starved.result.seen ∷ [], refl, r.keeps.tally_is) (omega arith) (omega arith) (omega arith); tells = r.tells; keeps = r.keeps; counts = search rules; full = search rules; unchanged = tt; share = search rules; parts = search rules }
