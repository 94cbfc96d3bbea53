use Rattle.backend_pool.proofs.lock_desk.State.record.Goals as goal

pub returns-in-None-clause-stands : goal.returns-in-None-clause-stands
returns-in-None-clause-stands g c = rw (c.in-None.is, ← c.call-call.ensures, ← c.branch-job-in-None.ensures) c.starved.ensures.stands
