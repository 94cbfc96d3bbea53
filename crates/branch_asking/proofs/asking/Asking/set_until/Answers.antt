use Rattle.std.proofs.Common.{subst}
use Rattle.branch_asking.proofs.Words.{AttemptValue, HasBegun, asking_state, sym}
use Rattle.branch_asking.proofs.BegunLemmas.{begun_timed}
use Rattle.branch_asking.proofs.asking.Asking.set_until.Goals as goal

pub invariant_of-self : goal.invariant_of-self
invariant_of-self g c =
    let i = c.self.inside in
    subst (λ (x : AttemptValue). HasBegun (asking_state i.manner i.job i.addresses x i.end i.tried.items)) (sym c.set_until.ensures)
    (begun_timed i.manner i.job i.addresses i.attempt c.args.until i.end i.tried.items c.self.invariant)
