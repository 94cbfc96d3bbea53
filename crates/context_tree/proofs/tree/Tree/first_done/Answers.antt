use Rattle.context_tree.proofs.Whole.{first_waits}
use Rattle.context_tree.proofs.tree.Tree.first_done.Goals as goal

pub returns-clause-first : goal.returns-clause-first
returns-clause-first g c = rw (← c.self.view_is) (first_waits c.first.result _ c.first.ensures.first)
