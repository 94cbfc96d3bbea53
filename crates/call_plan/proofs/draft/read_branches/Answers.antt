use Rattle.std.proofs.Common.{sym, ◌∙◌}
use Rattle.std.proofs.lemmas.Result.{err_from_is_err_and}
use Rattle.call_plan.specs.declared.error.PlanError.TheVariants.{NotAPlan}
use Rattle.call_plan.specs.PlanFile.{branch_of, branches_of}
use Rattle.call_plan.proofs.Shapes.{none-from_err, some-from_ok, with_rest-start, with_rest-more, with_rest-bad, with_rest-end}
use Rattle.call_plan.proofs.draft.read_branches.Goals as goal

pub returns-in_err-entries : goal.returns-in_err-entries
unfolding branches_of
returns-in_err-entries c =
    let p = err_from_is_err_and c.from_residual.result c.from_residual.ensures.1 in
    let none = none-from_err c.array_at.result NotAPlan c.in_err-entries.field-0.0 (sym c.ok_or.ensures.value ∙ c.in_err-entries.was) in
    rw (p.1, p.2) (λ fault. (none.0, rw (← c.array_at.ensures, none.1)))

pub loop-entry-init : goal.loop-entry-init
unfolding branches_of
loop-entry-init c =
    let found = some-from_ok c.array_at.result NotAPlan c.in_ok-entries.entries (sym c.ok_or.ensures.value ∙ c.in_ok-entries.was) in
    rw (c.new-branches.ensures.items, c.deref-entry-items.ensures.value, ← c.array_at.ensures, found) (with_rest-start branch_of c.in_ok-entries.entries.now.items)

pub returns-in_err-read_branch : goal.returns-in_err-read_branch
returns-in_err-read_branch c =
    let p = err_from_is_err_and c.from_residual-in_err-read_branch.result c.from_residual-in_err-read_branch.ensures.1 in
    rw (p.1, p.2)
    (λ fault. let shape = c.in_err-read_branch.ensures fault in (
      shape.0,
      c.loop-entry.invariant
          ∙ with_rest-bad branch_of c.loop-entry.branches.items c.deref-entry-items.result.now c.loop-entry.entry-index c.entry-item.result c.loop-entry-test.true c.entry-item.is shape.1,
    ))

pub loop-entry-preserved : goal.loop-entry-preserved
loop-entry-preserved c =
    rw c.in_ok-push.ensures.items
    (c.loop-entry.invariant
    ∙ with_rest-more branch_of c.loop-entry.branches.items c.deref-entry-items.result.now c.loop-entry.entry-index c.entry-item.result c.in_ok-read_branch.field-0
    c.loop-entry-test.true c.entry-item.is c.in_ok-read_branch.ensures)

pub returns : goal.returns
returns c =
    c.loop-entry.invariant ∙ with_rest-end branch_of c.loop-entry.branches.items c.deref-entry-items.result.now c.loop-entry.entry-index c.loop-entry-test.false
