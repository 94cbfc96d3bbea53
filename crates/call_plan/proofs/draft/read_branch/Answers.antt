use Rattle.std.proofs.Common.{sym, ◌∙◌}
use Rattle.std.proofs.lemmas.Result.{err_from_is_err_and}
use Rattle.call_plan.specs.declared.error.PlanError.TheVariants.{NotAPlan}
use Rattle.call_plan.specs.PlanFile.{branch_of}
use Rattle.call_plan.proofs.Shapes.{none-from_err, some-from_ok}
use Rattle.call_plan.proofs.draft.read_branch.Goals as goal

pub returns-in_err-name : goal.returns-in_err-name
unfolding branch_of
returns-in_err-name c =
    let p = err_from_is_err_and c.from_residual.result c.from_residual.ensures.1 in
    rw (p.1, p.2) (λ fault. let shape = c.in_err-name.ensures fault in (shape.0, rw shape.1))

pub returns-in_err-address : goal.returns-in_err-address
unfolding branch_of
returns-in_err-address c =
    let p = err_from_is_err_and c.from_residual-in_err-address.result c.from_residual-in_err-address.ensures.1 in
    rw (p.1, p.2) (λ fault. let shape = c.in_err-address.ensures fault in (shape.0, rw (c.in_ok-name.ensures, shape.1)))

pub returns-in_err-path : goal.returns-in_err-path
unfolding branch_of
returns-in_err-path c =
    let p = err_from_is_err_and c.from_residual-in_err-path.result c.from_residual-in_err-path.ensures.1 in
    rw (p.1, p.2) (λ fault. let shape = c.in_err-path.ensures fault in (shape.0, rw (c.in_ok-name.ensures, c.in_ok-address.ensures, shape.1)))

pub returns-in_err-timeout_ms : goal.returns-in_err-timeout_ms
unfolding branch_of
returns-in_err-timeout_ms c =
    let p = err_from_is_err_and c.from_residual-in_err-timeout_ms.result c.from_residual-in_err-timeout_ms.ensures.1 in
    let none = none-from_err c.branch_timeout_of.result NotAPlan c.in_err-timeout_ms.field-0.0 (sym c.ok_or.ensures.value ∙ c.in_err-timeout_ms.was) in
    rw (p.1, p.2) (λ fault. (none.0, rw (c.in_ok-name.ensures, c.in_ok-address.ensures, c.in_ok-path.ensures, ← c.branch_timeout_of.ensures, none.1)))

pub returns-in_err-pass : goal.returns-in_err-pass
unfolding branch_of
returns-in_err-pass c =
    let p = err_from_is_err_and c.from_residual-in_err-pass.result c.from_residual-in_err-pass.ensures.1 in
    let timeout = some-from_ok c.branch_timeout_of.result NotAPlan c.in_ok-timeout_ms.timeout_ms (sym c.ok_or.ensures.value ∙ c.in_ok-timeout_ms.was) in
    rw (p.1, p.2)
    (λ fault. let shape = c.in_err-pass.ensures fault in
    (shape.0, rw (c.in_ok-name.ensures, c.in_ok-address.ensures, c.in_ok-path.ensures, ← c.branch_timeout_of.ensures, timeout, shape.1)))

pub returns : goal.returns
unfolding branch_of
returns c =
    let timeout = some-from_ok c.branch_timeout_of.result NotAPlan c.in_ok-timeout_ms.timeout_ms (sym c.ok_or.ensures.value ∙ c.in_ok-timeout_ms.was) in
    rw (c.in_ok-name.ensures, c.in_ok-address.ensures, c.in_ok-path.ensures, ← c.branch_timeout_of.ensures, timeout, c.in_ok-pass.ensures)
