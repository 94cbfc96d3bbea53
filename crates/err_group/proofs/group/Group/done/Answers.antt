use Rattle.std.proofs.Common.{◌∷◌, ◌∙◌, rules}
use Rattle.err_group.specs.Group.{Done}
use Rattle.err_group.proofs.GroupLemmas.{finished, not_finished}
use Rattle.err_group.proofs.group.Group.done.Goals as goal

pub returns-then-self-eq0-clause-group : goal.returns-then-self-eq0-clause-group
returns-then-self-eq0-clause-group g c operations stands =
    (rw (← stands) (search rules), not_finished _ c.args.outcome operations stands (rw (← c.self.view_is) c.if-self-eq0.true))

pub invariant_of-self : goal.invariant_of-self
invariant_of-self g c = record {
  operations = Done c.args.outcome ∷ c.self.invariant.operations;
  stands =
      finished _ _ c.args.outcome c.self.invariant.operations c.self.invariant.stands (search rules)
      (record { active = search rules; limit = search rules; queue = search rules; first_error = search rules });
}

pub returns-clause-group : goal.returns-clause-group
returns-clause-group g c operations stands = (
  rw (← stands) (search rules),
  finished _ _ c.args.outcome operations (c.self.view_is ∙ stands) (search rules)
      (record { active = search rules; limit = search rules; queue = search rules; first_error = search rules }),
)
