use Rattle.backend_pool.proofs.Lemmas.{[], refl, rules, arith, Piece, after_event, takes_event}
use Rattle.backend_pool.proofs.book.Book.piece.Goals as goal

pub invariant_of-self : goal.invariant_of-self
invariant_of-self g c =
    let e = Piece c.args.conn c.args.bytes.now in
    (after_event e c.self.invariant.0, takes_event _ _ e c.deliver.ensures.stands ([], refl, c.deliver.ensures.keeps.tally_is) (omega arith) (omega arith) (omega arith) _ c.self.invariant.1)

pub returns : goal.returns
returns g c =
    let r = c.deliver.ensures in
    rw (← c.self.view_is) record { stands = takes_event _ _ (Piece c.args.conn c.args.bytes.now) r.stands ([], refl, r.keeps.tally_is) (omega arith) (omega arith) (omega arith); tells = record { step = r.tells; begins = r.begins }; counts = search rules; full = search rules; begun = r.counts; keeps = r.keeps; share = search rules; parts = search rules }
