use Rattle.std.proofs.Common.{arith, ◌+◌}
use Rattle.timer_heap.proofs.Counting.{all_few, few_fit}
use Rattle.timer_heap.proofs.Sifts.{rising_start, rising_more, rising_end}
use Rattle.timer_heap.proofs.heap.sift_up.Goals as goal

pub loop-parent-init : goal.loop-parent-init
loop-parent-init c = rising_start _ _ _ c.requires.ordered c.requires.placed c.requires.within

pub overflow_add-moves : goal.overflow_add-moves
overflow_add-moves c =
    let few = all_few _ _ _ c.loop-parent.invariant.few in
    let fits = few_fit c.loop-parent.moves (c.args.place + 1) few (omega (arith, c.ranges.place.fits)) in
    omega (arith, fits)

pub loop-parent-preserved : goal.loop-parent-preserved
loop-parent-preserved c = rising_more _ _ _ _ _ _ _ _ _ c.loop-parent.invariant c.in-Some.ensures c.exchange.ensures

pub returns : goal.returns
returns c = rising_end _ _ _ _ _ _ c.loop-parent.invariant c.in_default.ensures
