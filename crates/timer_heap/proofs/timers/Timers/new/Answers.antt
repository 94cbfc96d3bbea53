use Rattle.std.proofs.Common.{refl, ap, ◌∙◌}
use Rattle.timer_heap.specs.Heap.{in_order}
use Rattle.timer_heap.proofs.Sound.{none_in_order}
use Rattle.timer_heap.proofs.timers.Timers.new.Goals as goal

pub returns : goal.returns
returns c = record { waiting_is = ap (in_order 0) c.new.ensures.items ∙ none_in_order 0; sets_is = refl }
