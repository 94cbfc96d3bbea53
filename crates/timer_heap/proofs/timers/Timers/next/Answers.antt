use Rattle.std.proofs.Common.{◌∙◌, sym, ap, option_map}
use Rattle.std.specs.List.{slice_get}
use Rattle.timer_heap.specs.declared.heap.Entry.{Entry}
use Rattle.timer_heap.proofs.Standing.{next_as}
use Rattle.timer_heap.proofs.timers.Timers.next.Goals as goal

pub returns : goal.returns
returns c =
    let t = c.self.inside in
    rw (← c.self.view_is) (c.first_time.ensures ∙ ap (λ l. option_map (λ (e : Entry). e.at) (slice_get l 0)) c.deref.ensures.value ∙ sym (next_as t.sets t.moves t.heap.items _ c.self.invariant))
