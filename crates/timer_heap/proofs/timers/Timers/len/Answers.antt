use Rattle.std.proofs.Common.{◌∙◌, sym}
use Rattle.timer_heap.proofs.Sound.{length_in_order}
use Rattle.timer_heap.proofs.timers.Timers.len.Goals as goal

pub returns : goal.returns
returns c =
    let t = c.self.inside in
    let long = length_in_order t.sets t.heap.items c.self.invariant.below in
    rw (← c.self.view_is) (c.len.ensures ∙ t.heap.ok.0 ∙ sym long)
