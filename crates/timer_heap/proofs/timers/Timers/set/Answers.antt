use Rattle.std.proofs.Common.{refl, sym, ◌∙◌}
use Rattle.timer_heap.proofs.Sound.{same_sound}
use Rattle.timer_heap.proofs.Standing.{waiting_as, exhausted_as, no_fault_as, set_sound, set_timing, set_stands, set_moves}
use Rattle.timer_heap.proofs.timers.Timers.set.Goals as goal

pub returns-then-contains_key-clause-refused : goal.returns-then-contains_key-clause-refused
returns-then-contains_key-clause-refused c = rw (← c.self.view_is) (rw (waiting_as _ c.self.inside.moves _ _ c.self.invariant c.args.id (sym c.contains_key.ensures ∙ c.if-contains_key.true)) refl)

pub returns-then-self-ge-MOST_SETS-clause-refused : goal.returns-then-self-ge-MOST_SETS-clause-refused
returns-then-self-ge-MOST_SETS-clause-refused c =
    rw (← c.self.view_is) (rw (exhausted_as _ c.self.inside.moves _ _ c.self.invariant c.args.id (sym c.contains_key.ensures ∙ c.if-contains_key.false) c.if-self-ge-MOST_SETS.true) refl)

pub invariant_of-self-in-Ok : goal.invariant_of-self-in-Ok
invariant_of-self-in-Ok c = set_sound _ c.self.inside.moves _ _ c.self.invariant _ _ _ _ _ c.in-Ok.ensures.added

pub invariant_of-self-in-Err : goal.invariant_of-self-in-Err
invariant_of-self-in-Err c = same_sound _ _ _ _ _ c.self.invariant c.in-Err.ensures.unchanged

pub returns-in-Ok-clause-added : goal.returns-in-Ok-clause-added
returns-in-Ok-clause-added c = rw (← c.self.view_is) (set_timing _ c.self.inside.moves _ _ c.self.invariant _ _ _ _ _ c.in-Ok.ensures.added)

pub returns-in-Ok-clause-set : goal.returns-in-Ok-clause-set
returns-in-Ok-clause-set c = rw (← c.self.view_is) (set_stands _ c.self.inside.moves _ _ c.self.invariant _ _ _ _ _ c.in-Ok.ensures.added)

pub returns-in-Ok-clause-refused : goal.returns-in-Ok-clause-refused
returns-in-Ok-clause-refused c =
    rw (← c.self.view_is) (rw (no_fault_as _ c.self.inside.moves _ _ c.self.invariant c.args.id (sym c.contains_key.ensures ∙ c.if-contains_key.false) c.if-self-ge-MOST_SETS.false) tt)

pub returns-in-Ok-clause-moves : goal.returns-in-Ok-clause-moves
returns-in-Ok-clause-moves c = rw (← c.self.view_is) (set_moves _ c.self.inside.moves _ _ c.self.invariant _ _ _ _ _ c.in-Ok.ensures.added)

pub returns-in-Err-clause-refused : goal.returns-in-Err-clause-refused
returns-in-Err-clause-refused c =
    rw (← c.self.view_is) (rw (no_fault_as _ c.self.inside.moves _ _ c.self.invariant c.args.id (sym c.contains_key.ensures ∙ c.if-contains_key.false) c.if-self-ge-MOST_SETS.false) refl)
