use Rattle.std.proofs.Common.{arith, ◌+◌}
use Rattle.timer_heap.proofs.Counting.{all_few, few_fit}
use Rattle.timer_heap.proofs.Sifts.{sinking_start, sinking_more, sinking_end}
use Rattle.timer_heap.proofs.heap.sift_down.Goals as goal

pub loop-child-init : goal.loop-child-init
loop-child-init c = sinking_start _ _ _ c.requires.ordered c.requires.led c.requires.placed c.requires.within

pub overflow_add-moves : goal.overflow_add-moves
overflow_add-moves c =
    let few = all_few _ _ _ c.loop-child.invariant.few in
    let fits = few_fit c.loop-child.moves (c.loop-child.at + 1) few (omega arith) in
    omega (arith, fits)

pub loop-child-preserved : goal.loop-child-preserved
loop-child-preserved c = sinking_more _ _ _ _ _ _ _ _ _ c.loop-child.invariant c.in-Some.ensures c.exchange.ensures

pub returns : goal.returns
returns c = sinking_end _ _ _ _ _ _ c.loop-child.invariant c.in_default.ensures
