use Rattle.std.proofs.Common.{◌≡◌, ◌∙◌, Some, ap, subst, sym}
use Rattle.context_tree.specs.Tree.{StandsFor, TreeValue}
use Rattle.timer_heap.specs.Timers.{next_time}
use Rattle.context_tree.proofs.NextDeadline.{next_first, next_its}
use Rattle.context_tree.proofs.Expiring.{PopLaws}
use Rattle.context_tree.proofs.tree.Tree.next_deadline.Goals as goal

pub returns-clause-first : goal.returns-clause-first
returns-clause-first g c = λ past st.
    let laws : PopLaws = record { found = c.first_due_law.ensures.found; none = c.first_due_law.ensures.none } in
    next_first laws c.args.self.now past st c.next.result (c.next.ensures ∙ ap (λ (t : TreeValue _ _). next_time t.timers.entries) c.self.view_is)

pub returns-clause-its : goal.returns-clause-its
returns-clause-its g c =
    let laws : PopLaws = record { found = c.first_due_law.ensures.found; none = c.first_due_law.ensures.none } in
    next_its laws c.args.self.now c.next.result (c.next.ensures ∙ ap (λ (t : TreeValue _ _). next_time t.timers.entries) c.self.view_is)
