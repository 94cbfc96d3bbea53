use Rattle.std.proofs.Common.{◌∷◌, ◌∙◌, sym, subst}
use Rattle.timer_heap.specs.Timers.{timing}
use Rattle.context_tree.specs.Context.{Cancels}
use Rattle.context_tree.specs.Tree.{StandsFor}
use Rattle.context_tree.proofs.Endings.{cancel_stands}
use Rattle.context_tree.proofs.Family.{ready_of}
use Rattle.context_tree.proofs.tree.Tree.cancel.Goals as goal

pub end-self-inside-requires-clause-ready : goal.end-self-inside-requires-clause-ready
end-self-inside-requires-clause-ready g c = ready_of _ c.self.invariant.reached.0 _ c.self.invariant.reached.1 c.self.invariant.linked c.self.invariant.few c.self.invariant.room

pub invariant_of-self : goal.invariant_of-self
invariant_of-self g c = record {
  reached = (
    Cancels c.args.id c.args.cause ∷ c.self.invariant.reached.0,
    cancel_stands _ c.self.invariant.reached.0 c.self.invariant.reached.1 c.args.id c.in-Some.node.now c.args.cause c.of-how.result (sym c.in-Some.ensures)
        (sym c.can_cancel.ensures ∙ c.if-can_cancel.true) c.of-how.ensures
        c.end-self-inside.new.nodes.slots c.end-self-inside.new.done.items (timing c.end-self-inside.new.timers) c.end-self-inside.result c.end-self-inside.ensures.walked,
  );
  linked = c.end-self-inside.ensures.ready.linked;
  few = c.self.invariant.few;
  room = c.end-self-inside.ensures.ready.within;
}

pub returns-in-Some-clause-cancelled : goal.returns-in-Some-clause-cancelled
returns-in-Some-clause-cancelled g c = λ yes' past s.
    cancel_stands _ past (subst (λ t. StandsFor t past) (sym c.self.view_is) s) c.args.id c.in-Some.node.now c.args.cause c.of-how.result (sym c.in-Some.ensures)
    (sym c.can_cancel.ensures ∙ c.if-can_cancel.true) c.of-how.ensures
    c.end-self-inside.new.nodes.slots c.end-self-inside.new.done.items (timing c.end-self-inside.new.timers) c.end-self-inside.result c.end-self-inside.ensures.walked
