use Rattle.std.proofs.Common.{refl}
use Rattle.timer_heap.proofs.Standing.{first_is, out_sound, out_moves, popped_as, popped_none, popped_empty, pop_timing, pop_stands, stay_timing, stay_stands}
use Rattle.timer_heap.proofs.timers.Timers.pop_due.Goals as goal

pub invariant_of-self : goal.invariant_of-self
invariant_of-self c = out_sound _ c.self.inside.moves _ _ c.self.invariant _ _ _ _ c.take_out-self-inside.ensures

pub returns-in-Some-clause-answer : goal.returns-in-Some-clause-answer
returns-in-Some-clause-answer c =
    rw (← c.self.view_is) (rw (popped_as _ c.self.inside.moves _ _ c.self.invariant c.args.now _ (first_is _ _ _ _ _ c.deref.ensures.value c.first.ensures.value c.copied.ensures c.in-Some.is) c.if-first-now.true) refl)

pub returns-in-Some-clause-left : goal.returns-in-Some-clause-left
returns-in-Some-clause-left c =
    rw (← c.self.view_is) (pop_timing _ c.self.inside.moves _ _ c.self.invariant c.args.now _ _ _ _ (first_is _ _ _ _ _ c.deref.ensures.value c.first.ensures.value c.copied.ensures c.in-Some.is) c.if-first-now.true c.take_out-self-inside.ensures)

pub returns-in-Some-clause-popped : goal.returns-in-Some-clause-popped
returns-in-Some-clause-popped c =
    rw (← c.self.view_is) (pop_stands _ c.self.inside.moves _ _ c.self.invariant c.args.now _ _ _ _ (first_is _ _ _ _ _ c.deref.ensures.value c.first.ensures.value c.copied.ensures c.in-Some.is) c.if-first-now.true c.take_out-self-inside.ensures)

pub returns-in-Some-clause-moves : goal.returns-in-Some-clause-moves
returns-in-Some-clause-moves c = rw (← c.self.view_is) (out_moves _ c.self.inside.moves _ _ c.self.invariant _ _ _ _ c.take_out-self-inside.ensures)

pub returns-in_default-clause-answer : goal.returns-in_default-clause-answer
returns-in_default-clause-answer c = rw (← c.self.view_is) (rw (popped_none _ c.self.inside.moves _ _ c.self.invariant c.args.now _ (first_is _ _ _ _ _ c.deref.ensures.value c.first.ensures.value c.copied.ensures c.in-Some.is) c.if-first-now.false) refl)

pub returns-in_default-clause-left : goal.returns-in_default-clause-left
returns-in_default-clause-left c =
    rw (← c.self.view_is) (stay_timing _ c.self.inside.moves _ _ c.self.invariant c.args.now (popped_none _ c.self.inside.moves _ _ c.self.invariant c.args.now _ (first_is _ _ _ _ _ c.deref.ensures.value c.first.ensures.value c.copied.ensures c.in-Some.is) c.if-first-now.false))

pub returns-in_default-clause-popped : goal.returns-in_default-clause-popped
returns-in_default-clause-popped c =
    rw (← c.self.view_is) (stay_stands _ c.self.inside.moves _ _ c.self.invariant c.args.now (popped_none _ c.self.inside.moves _ _ c.self.invariant c.args.now _ (first_is _ _ _ _ _ c.deref.ensures.value c.first.ensures.value c.copied.ensures c.in-Some.is) c.if-first-now.false))

pub returns-in_default-2-clause-answer : goal.returns-in_default-2-clause-answer
returns-in_default-2-clause-answer c = rw (← c.self.view_is) (rw (popped_empty _ c.self.inside.moves _ _ c.self.invariant c.args.now (first_is _ _ _ _ _ c.deref.ensures.value c.first.ensures.value c.copied.ensures c.in_default.is)) refl)

pub returns-in_default-2-clause-left : goal.returns-in_default-2-clause-left
returns-in_default-2-clause-left c = rw (← c.self.view_is) (stay_timing _ c.self.inside.moves _ _ c.self.invariant c.args.now (popped_empty _ c.self.inside.moves _ _ c.self.invariant c.args.now (first_is _ _ _ _ _ c.deref.ensures.value c.first.ensures.value c.copied.ensures c.in_default.is)))

pub returns-in_default-2-clause-popped : goal.returns-in_default-2-clause-popped
returns-in_default-2-clause-popped c = rw (← c.self.view_is) (stay_stands _ c.self.inside.moves _ _ c.self.invariant c.args.now (popped_empty _ c.self.inside.moves _ _ c.self.invariant c.args.now (first_is _ _ _ _ _ c.deref.ensures.value c.first.ensures.value c.copied.ensures c.in_default.is)))
