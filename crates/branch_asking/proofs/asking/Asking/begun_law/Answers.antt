use Rattle.branch_asking.proofs.BegunLemmas.{begins_request}
use Rattle.branch_asking.proofs.asking.Asking.begun_law.Goals as goal

pub returns-clause-begun : goal.returns-clause-begun
returns-clause-begun g c = rw (← c.self.view_is) (begins_request _ c.self.invariant)
