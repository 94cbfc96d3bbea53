use Rattle.backend_pool.proofs.Lemmas.{[], refl, arith, Closing, takes_event}
use Rattle.backend_pool.proofs.book.Book.closing.Goals as goal

pub returns : goal.returns
returns g c =
    let r = c.close.ensures in
    rw (← c.self.view_is) record { stands = takes_event _ _ (Closing c.args.conn) r.stands ([], refl, r.keeps.tally_is) (omega arith) (omega arith) (omega arith); closed = r.closed; counts = refl; keeps = r.keeps }
