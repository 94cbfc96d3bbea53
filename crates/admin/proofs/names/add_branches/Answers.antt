use Rattle.std.proofs.Common.{◌++◌, ◌<◌, ◌≤◌, length, ◌∙◌, ap}
use Rattle.admin.proofs.Naming.{named-all, named-more}
use Rattle.admin.proofs.names.add_branches.Goals as goal

pub loop-place-preserved : goal.loop-place-preserved
loop-place-preserved c =
    let plan = c.args.plan.now in
    let items = c.branches-branch-items.ensures.branches in
    let within : c.loop-place.place < length plan.branches = rw items at c.loop-place-test.true in
    let is = rw items at c.branch-item.is in
    rw (c.in_ok-push.ensures.items, c.in_ok-from_str.ensures, c.path.ensures.path, c.in_ok-from_str-2.ensures, c.as_str.ensures, c.loop-place.invariant)
    (named-more c.args.branches.now.items plan.path plan.branches c.loop-place.place c.branch-item.result within is)

pub returns : goal.returns
returns c =
    let plan = c.args.plan.now in
    let past : length plan.branches ≤ c.loop-place.place = rw c.branches-branch-items.ensures.branches at c.loop-place-test.false in
    c.loop-place.invariant ∙ ap (λ rest. c.args.branches.now.items ++ rest) (named-all plan.path 0 plan.branches c.loop-place.place past)
