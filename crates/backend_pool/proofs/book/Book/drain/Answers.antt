use Rattle.backend_pool.proofs.Lemmas.{[], refl, arith, Drain, takes_event}
use Rattle.backend_pool.proofs.book.Book.drain.Goals as goal

pub returns-clause-stands : goal.returns-clause-stands
returns-clause-stands g c =
    rw (← c.self.view_is) (takes_event _ _ Drain c.drain.ensures.stands ([], refl, c.drain.ensures.keeps.tally_is) (omega arith) (omega arith) (omega arith))
