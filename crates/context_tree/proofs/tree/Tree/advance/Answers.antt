use Rattle.std.proofs.Common.{◌∷◌, sym, subst}
use Rattle.context_tree.specs.Context.{Advances}
use Rattle.context_tree.specs.Tree.{StandsFor}
use Rattle.context_tree.proofs.Family.{ready_of}
use Rattle.context_tree.proofs.tree.Tree.advance.Goals as goal

pub end_due-requires-clause-ready : goal.end_due-requires-clause-ready
end_due-requires-clause-ready g c = ready_of _ c.self.invariant.reached.0 _ c.self.invariant.reached.1 c.self.invariant.linked c.self.invariant.few c.self.invariant.room

pub invariant_of-self : goal.invariant_of-self
invariant_of-self g c = record {
  reached = (Advances c.args.now ∷ c.self.invariant.reached.0, c.end_due.ensures.stands c.self.inside.made c.self.inside.visits c.self.invariant.reached.0 c.self.invariant.reached.1);
  linked = c.end_due.ensures.ready.linked;
  few = c.self.invariant.few;
  room = c.end_due.ensures.ready.within;
}

pub returns : goal.returns
returns g c = λ past s. c.end_due.ensures.stands c.self.inside.made c.self.inside.visits past (subst (λ t. StandsFor t past) (sym c.self.view_is) s)
