use Rattle.std.proofs.Common.{◌+◌, ◌∙◌, sym}
use Rattle.call_plan.proofs.Repeats.{from_place}
use Rattle.call_plan.proofs.PassLemmas.{same_name-at, same_name-past}
use Rattle.call_plan.proofs.pass.repeats_a_name.Goals as goal

pub returns-then-holds_name : goal.returns-then-holds_name
returns-then-holds_name c =
    let xs = c.args.names.now in
    let i = c.loop-place.place in
    let found = rw (from_place xs (i + 1)) at c.if-holds_name.ensures in
    rw (c.loop-place.invariant, same_name-at xs i c.index-names-place.result c.loop-place-test.true c.index-names-place.is, ← found)

pub loop-place-preserved : goal.loop-place-preserved
loop-place-preserved c =
    let xs = c.args.names.now in
    let i = c.loop-place.place in
    let other = rw (from_place xs (i + 1)) at c.if-holds_name.ensures in
    c.loop-place.invariant ∙ rw (same_name-at xs i c.index-names-place.result c.loop-place-test.true c.index-names-place.is, ← other)

pub returns : goal.returns
returns c = sym (c.loop-place.invariant ∙ same_name-past c.args.names.now c.loop-place.place c.loop-place-test.false)
