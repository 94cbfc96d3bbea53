use Rattle.branch_asking.proofs.AddressLemmas.{parsed_are}
use Rattle.branch_asking.proofs.BegunLemmas.{begun_addresses}
use Rattle.branch_asking.proofs.asking.Asking.has_address.Goals as goal

pub invariant_of-self : goal.invariant_of-self
invariant_of-self g c =
    let i = c.self.inside in
    begun_addresses i.manner i.job i.addresses c.parse.new.self i.attempt i.end i.tried.items
    (λ tried are. parsed_are i.job.job.address tried i.addresses are c.address.result.now c.parse.result c.parse.new.self c.address.ensures c.parse.ensures) c.self.invariant
