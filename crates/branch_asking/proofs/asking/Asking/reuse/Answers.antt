use Rattle.std.proofs.Common.{not}
use Rattle.branch_asking.proofs.Words.{ap, sym, ◌∙◌}
use Rattle.branch_asking.proofs.BegunLemmas.{begun_again, none_back}
use Rattle.branch_asking.proofs.asking.Asking.reuse.Goals as goal

pub invariant_of-self : goal.invariant_of-self
invariant_of-self g c =
    let i = c.self.inside in
    begun_again i.manner i.job i.addresses i.attempt c.reuse-back.new.self i.end i.tried.items c.args.stream.stream (rw (← c.self.view_is) at c.requires)
    (c.reuse-back.ensures.kept (none_back c.reuse-back.result (c.is_none.ensures ∙ ap not c.if-is_none.true))) (sym c.is_some.ensures ∙ c.if-is_some.false) c.self.invariant
