use Rattle.std.proofs.Common.{◌≡◌, ◌∷◌, ◌∙◌, sym, ap, true, false, rules}
use Rattle.err_group.specs.GroupState.{is_idle}
use Rattle.err_group.specs.Group.{SetLimit}
use Rattle.err_group.proofs.GroupLemmas.{limit_set, limit_refused}
use Rattle.err_group.proofs.group.Group.set_limit.Goals as goal

pub returns-then-not-is_idle-clause-group : goal.returns-then-not-is_idle-clause-group
returns-then-not-is_idle-clause-group g c operations stands =
    let busy : is_idle c.args.self.now ≡ false = search rules in
    (sym busy ∙ ap is_idle stands, limit_refused _ c.args.limit operations stands busy)

pub invariant_of-self : goal.invariant_of-self
invariant_of-self g c = record {
  operations = SetLimit c.args.limit ∷ c.self.invariant.operations;
  stands = rw c.unwrap_or-self-inside.ensures (limit_set _ c.args.limit _ c.self.invariant.stands (search rules));
}

pub returns-clause-group : goal.returns-clause-group
returns-clause-group g c operations stands =
    let idle : is_idle c.args.self.now ≡ true = search rules in
    let set = limit_set _ c.args.limit operations (c.self.view_is ∙ stands) (ap is_idle c.self.view_is ∙ idle) in
    (sym idle ∙ ap is_idle stands, rw c.unwrap_or-self-inside.ensures set)
