use Rattle.branch_asking.proofs.AddressLemmas.{found_are, found_more}
use Rattle.branch_asking.proofs.BegunLemmas.{asks_found, begun_addresses}
use Rattle.branch_asking.proofs.asking.Asking.find.Goals as goal

pub invariant_of-self : goal.invariant_of-self
invariant_of-self g c =
    let i = c.self.inside in
    begun_addresses i.manner i.job i.addresses c.find.new.self i.attempt i.end i.tried.items
    (λ tried are. found_are i.job.job.address tried i.addresses are c.find.new.self c.args.found.items c.find.ensures) c.self.invariant

pub returns-then-eq-clause-on : goal.returns-then-eq-clause-on
returns-then-eq-clause-on g c =
    let i = c.self.inside in
    rw (← c.self.view_is)
    (asks_found i.manner i.job i.addresses c.find.new.self i.attempt i.end i.tried.items
    (rw c.find.ensures (found_more i.job.job.address _ i.addresses c.args.found.items c.self.invariant.given)))
