use Rattle.backend_pool.proofs.book.Book.bounds_law.Goals as goal

pub returns-clause-records : goal.returns-clause-records
returns-clause-records g c = λ id kept history occurred. c.calls_law.ensures.records id kept c.args.self.now.core history occurred
