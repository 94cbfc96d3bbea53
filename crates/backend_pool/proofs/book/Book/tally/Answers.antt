use Rattle.backend_pool.proofs.Lemmas.{arith, tally_sums}
use Rattle.backend_pool.proofs.book.Book.tally.Goals as goal

pub returns-clause-total : goal.returns-clause-total
returns-clause-total g c = rw (c.tally.ensures, ← c.self.view_is) (tally_sums c.self.inside.core _ (omega arith) c.self.invariant.1.tallied)
