use Rattle.std.proofs.Common.{◌+◌, ◌∙◌, sym}
use Rattle.call_plan.proofs.Repeats.{has_repeat-at, has_repeat-past, from_place}
use Rattle.call_plan.proofs.plan.repeats_name.Goals as goal

pub returns-then-holds_name : goal.returns-then-holds_name
returns-then-holds_name c =
    let xs = c.args.branches.now in
    let i = c.loop-place.place in
    let found = rw (from_place xs (i + 1)) at c.if-holds_name.ensures in
    rw (c.loop-place.invariant, has_repeat-at xs i c.index-branches-place.result c.loop-place-test.true c.index-branches-place.is, ← found)

pub loop-place-preserved : goal.loop-place-preserved
loop-place-preserved c =
    let xs = c.args.branches.now in
    let i = c.loop-place.place in
    let other = rw (from_place xs (i + 1)) at c.if-holds_name.ensures in
    c.loop-place.invariant ∙ rw (has_repeat-at xs i c.index-branches-place.result c.loop-place-test.true c.index-branches-place.is, ← other)

pub returns : goal.returns
returns c = sym (c.loop-place.invariant ∙ has_repeat-past c.args.branches.now c.loop-place.place c.loop-place-test.false)
