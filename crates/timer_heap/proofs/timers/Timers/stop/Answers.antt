use Rattle.std.proofs.Common.{sym, ap, ◌∙◌, true, false, is_some}
use Rattle.timer_heap.proofs.Standing.{is_set_as, out_sound, out_moves, stop_timing, stop_stands, keep_timing, keep_stands}
use Rattle.timer_heap.proofs.timers.Timers.stop.Goals as goal

pub take_out-self-inside-requires-clause-within : goal.take_out-self-inside-requires-clause-within
take_out-self-inside-requires-clause-within c = (c.self.invariant.placed.only c.args.id c.in-Some.place (sym c.get.ensures.value ∙ sym c.copied.ensures ∙ c.in-Some.is)).0

pub invariant_of-self : goal.invariant_of-self
invariant_of-self c = out_sound _ c.self.inside.moves _ _ c.self.invariant _ _ _ _ c.take_out-self-inside.ensures

pub returns-in-Some-clause-answer : goal.returns-in-Some-clause-answer
returns-in-Some-clause-answer c =
    rw (← c.self.view_is) (sym (is_set_as _ c.self.inside.moves _ _ c.self.invariant c.args.id true (ap is_some (sym c.get.ensures.value ∙ sym c.copied.ensures ∙ c.in-Some.is))))

pub returns-in-Some-clause-left : goal.returns-in-Some-clause-left
returns-in-Some-clause-left c =
    rw (← c.self.view_is) (stop_timing _ c.self.inside.moves _ _ c.self.invariant _ _ _ _ c.take_out-self-inside.ensures c.args.id (sym c.get.ensures.value ∙ sym c.copied.ensures ∙ c.in-Some.is))

pub returns-in-Some-clause-stopped : goal.returns-in-Some-clause-stopped
returns-in-Some-clause-stopped c =
    rw (← c.self.view_is) (stop_stands _ c.self.inside.moves _ _ c.self.invariant _ _ _ _ c.take_out-self-inside.ensures c.args.id (sym c.get.ensures.value ∙ sym c.copied.ensures ∙ c.in-Some.is))

pub returns-in-Some-clause-moves : goal.returns-in-Some-clause-moves
returns-in-Some-clause-moves c = rw (← c.self.view_is) (out_moves _ c.self.inside.moves _ _ c.self.invariant _ _ _ _ c.take_out-self-inside.ensures)

pub returns-in-None-clause-answer : goal.returns-in-None-clause-answer
returns-in-None-clause-answer c =
    rw (← c.self.view_is) (sym (is_set_as _ c.self.inside.moves _ _ c.self.invariant c.args.id false (ap is_some (sym c.get.ensures.value ∙ sym c.copied.ensures ∙ c.in-None.is))))

pub returns-in-None-clause-left : goal.returns-in-None-clause-left
returns-in-None-clause-left c =
    rw (← c.self.view_is) (keep_timing _ c.self.inside.moves _ _ c.self.invariant c.args.id (sym c.get.ensures.value ∙ sym c.copied.ensures ∙ c.in-None.is))

pub returns-in-None-clause-stopped : goal.returns-in-None-clause-stopped
returns-in-None-clause-stopped c =
    rw (← c.self.view_is) (keep_stands _ c.self.inside.moves _ _ c.self.invariant c.args.id (sym c.get.ensures.value ∙ sym c.copied.ensures ∙ c.in-None.is))
