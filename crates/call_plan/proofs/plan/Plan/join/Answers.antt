use Rattle.std.proofs.Common.{◌≡◌, ◌<◌, ◌≤◌, length, ◌∙◌, ap, arith}
use Rattle.call_plan.specs.Plan.{PlanRecord}
use Rattle.call_plan.proofs.Joining.{joined-first, joined-more, joined-all}
use Rattle.call_plan.proofs.plan.Plan.join.Goals as goal
use Rattle.call_plan.proofs.plan.Plan.join.Goals.{then-place-gt0+in_ok-extend_from_slice-2, else-place-gt0}

pub loop-place-preserved : goal.loop-place-preserved
loop-place-preserved c =
    let branches = c.args.self.now.branches in
    let answers = c.args.answers.now in
    let i = c.loop-place.place in
    let branch = c.branch-item.result in
    let answer = c.index-answers-place.result in
    let items : c.deref-branch-items.result.now ≡ branches = c.deref-branch-items.ensures.value ∙ ap (λ (p : PlanRecord). p.branches) c.self.view_is in
    let within : i < length branches = rw items at c.loop-place-test.true in
    let answered : i < length answers = omega (arith, within, c.requires) in
    let is = rw items at c.branch-item.is in
    rw (c.in_ok-add_member.ensures, c.as_str.ensures, c.as_slice.ensures)
    (elim c.if-place-gt0.branch [
      | then-place-gt0+in_ok-extend_from_slice-2 w ↦
          rw (w.joined-is, w.in_ok-extend_from_slice-2.ensures.ok, c.loop-place.invariant)
          (joined-more branches answers i branch answer (omega arith) within answered is c.index-answers-place.is)
      | else-place-gt0 w ↦
          rw (w.joined-is, c.loop-place.invariant) (joined-first branches answers i branch answer (omega arith) within answered is c.index-answers-place.is)
    ])

pub returns : goal.returns
returns c =
    let branches = c.args.self.now.branches in
    let items : c.deref-branch-items.result.now ≡ branches = c.deref-branch-items.ensures.value ∙ ap (λ (p : PlanRecord). p.branches) c.self.view_is in
    let past : length branches ≤ c.loop-place.place = rw items at c.loop-place-test.false in
    rw (c.in_ok-extend_from_slice-3.ensures.ok, c.loop-place.invariant) (joined-all branches c.args.answers.now c.loop-place.place past)
