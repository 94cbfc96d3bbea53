use Rattle.std.proofs.Common.{ap, not, ◌∙◌}
use Rattle.branch_asking.proofs.BegunLemmas.{begun_lost}
use Rattle.branch_asking.proofs.asking.Asking.lose.Goals as goal

pub invariant_of-self-then-is_none-5 : goal.invariant_of-self-then-is_none-5
invariant_of-self-then-is_none-5 g c =
    let i = c.self.inside in
    begun_lost i.manner i.job i.addresses i.attempt i.end c.map_or.result i.tried.items c.args.loss (c.is_none.ensures ∙ ap not c.if-is_none.true) c.map_or.ensures c.self.invariant
