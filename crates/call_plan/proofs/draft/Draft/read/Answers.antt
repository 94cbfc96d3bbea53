use Rattle.std.proofs.Common.{sym, ◌∙◌}
use Rattle.std.proofs.lemmas.Result.{err_from_is_err_and}
use Rattle.call_plan.specs.declared.error.PlanError.TheVariants.{NotAPlan}
use Rattle.call_plan.specs.PlanFile.{plan_of}
use Rattle.call_plan.proofs.Shapes.{none-from_err, some-from_ok}
use Rattle.call_plan.proofs.draft.Draft.read.Goals as goal

pub returns-in_err-path : goal.returns-in_err-path
unfolding plan_of
returns-in_err-path c =
    let p = err_from_is_err_and c.from_residual.result c.from_residual.ensures.1 in
    rw (p.1, p.2) (λ fault. let shape = c.in_err-path.ensures fault in (shape.0, rw shape.1))

pub returns-in_err-limit : goal.returns-in_err-limit
unfolding plan_of
returns-in_err-limit c =
    let p = err_from_is_err_and c.from_residual-in_err-limit.result c.from_residual-in_err-limit.ensures.1 in
    let none = none-from_err c.limit_of.result NotAPlan c.in_err-limit.field-0.0 (sym c.ok_or.ensures.value ∙ c.in_err-limit.was) in
    rw (p.1, p.2) (λ fault. (none.0, rw (c.in_ok-path.ensures, ← c.limit_of.ensures, none.1)))

pub returns-in_err-timeout_ms : goal.returns-in_err-timeout_ms
unfolding plan_of
returns-in_err-timeout_ms c =
    let p = err_from_is_err_and c.from_residual-in_err-timeout_ms.result c.from_residual-in_err-timeout_ms.ensures.1 in
    let limit = some-from_ok c.limit_of.result NotAPlan c.in_ok-limit.limit (sym c.ok_or.ensures.value ∙ c.in_ok-limit.was) in
    let none = none-from_err c.timeout_of.result NotAPlan c.in_err-timeout_ms.field-0.0 (sym c.ok_or-2.ensures.value ∙ c.in_err-timeout_ms.was) in
    rw (p.1, p.2) (λ fault. (none.0, rw (c.in_ok-path.ensures, ← c.limit_of.ensures, limit, ← c.timeout_of.ensures, none.1)))

pub returns-in_err-branches : goal.returns-in_err-branches
unfolding plan_of
returns-in_err-branches c =
    let p = err_from_is_err_and c.from_residual-in_err-branches.result c.from_residual-in_err-branches.ensures.1 in
    let limit = some-from_ok c.limit_of.result NotAPlan c.in_ok-limit.limit (sym c.ok_or.ensures.value ∙ c.in_ok-limit.was) in
    let timeout = some-from_ok c.timeout_of.result NotAPlan c.in_ok-timeout_ms.timeout_ms (sym c.ok_or-2.ensures.value ∙ c.in_ok-timeout_ms.was) in
    rw (p.1, p.2)
    (λ fault. let shape = c.in_err-branches.ensures fault in
    (shape.0, rw (c.in_ok-path.ensures, ← c.limit_of.ensures, limit, ← c.timeout_of.ensures, timeout, shape.1)))

pub returns : goal.returns
unfolding plan_of
returns c =
    let limit = some-from_ok c.limit_of.result NotAPlan c.in_ok-limit.limit (sym c.ok_or.ensures.value ∙ c.in_ok-limit.was) in
    let timeout = some-from_ok c.timeout_of.result NotAPlan c.in_ok-timeout_ms.timeout_ms (sym c.ok_or-2.ensures.value ∙ c.in_ok-timeout_ms.was) in
    rw (c.in_ok-path.ensures, ← c.limit_of.ensures, limit, ← c.timeout_of.ensures, timeout, c.in_ok-branches.ensures)
