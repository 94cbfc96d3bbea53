use Rattle.std.proofs.Common.{subst}
use Rattle.branch_asking.proofs.Words.{AttemptValue, HasBegun, asking_state, sym}
use Rattle.branch_asking.proofs.BegunLemmas.{begun_watched}
use Rattle.branch_asking.proofs.asking.Asking.watch.Goals as goal

pub invariant_of-self : goal.invariant_of-self
invariant_of-self g c =
    let i = c.self.inside in
    subst (λ (x : AttemptValue). HasBegun (asking_state i.manner i.job i.addresses x i.end i.tried.items)) (sym c.watch.ensures.same)
    (begun_watched i.manner i.job i.addresses i.attempt c.watch.new.self.watched i.end i.tried.items c.self.invariant)
