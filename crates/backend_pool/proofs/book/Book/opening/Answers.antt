use Rattle.backend_pool.proofs.Lemmas.{[], refl, rules, arith, takes_opening}
use Rattle.backend_pool.proofs.book.Book.opening.Goals as goal

pub returns : goal.returns
returns g c =
    let r = c.open_conn.ensures in
    rw (← c.self.view_is) record { stands = takes_opening _ _ c.open_conn.result r.stands ([], refl, r.keeps.tally_is) (omega arith) (omega arith) (omega arith); few = λ h s. r.few h s.served; number = r.number; refused = r.refused; back = r.back; unchanged = search rules; counts = refl; keeps = r.keeps }
