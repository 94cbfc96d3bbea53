use Rattle.backend_pool.proofs.Lemmas.{[], refl, arith, Moment, takes_event}
use Rattle.backend_pool.proofs.book.Book.moment.Goals as goal

pub returns-clause-stands : goal.returns-clause-stands
returns-clause-stands g c =
    rw (← c.self.view_is) (takes_event _ _ (Moment c.args.moment) c.moment.ensures.stands ([], refl, c.moment.ensures.keeps.tally_is) (omega arith) (omega arith) (omega arith))
