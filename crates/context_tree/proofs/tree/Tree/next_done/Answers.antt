use Rattle.context_tree.proofs.Whole.{popped_first, popped_reached, popped_stands}
use Rattle.context_tree.proofs.tree.Tree.next_done.Goals as goal

pub invariant_of-self : goal.invariant_of-self
invariant_of-self g c = record {
  reached = popped_reached c.pop.result _ c.pop.new.self.items c.pop.ensures.items c.self.invariant.reached;
  linked = c.self.invariant.linked;
  few = c.self.invariant.few;
  room = rw c.pop.ensures.room c.self.invariant.room;
}

pub returns-clause-first : goal.returns-clause-first
returns-clause-first g c = rw (← c.self.view_is) (popped_first c.pop.result _ c.pop.new.self.items c.pop.ensures.items)

pub returns-clause-handed : goal.returns-clause-handed
returns-clause-handed g c = rw (← c.self.view_is) (popped_stands c.pop.result _ c.pop.new.self.items c.pop.ensures.items)
