use Rattle.backend_pool.proofs.Lemmas.{[], refl, arith, HangUp, takes_event}
use Rattle.backend_pool.proofs.book.Book.hang_up.Goals as goal

pub returns : goal.returns
returns g c =
    let r = c.hang_up.ensures in
    rw (← c.self.view_is) record { stands = takes_event _ _ (HangUp c.args.conn) r.stands ([], refl, r.keeps.tally_is) (omega arith) (omega arith) (omega arith); tells = r.tells; begins = r.begins; counts = refl; keeps = r.keeps }
