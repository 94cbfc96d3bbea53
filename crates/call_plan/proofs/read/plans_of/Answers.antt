use Rattle.std.proofs.lemmas.Result.{err_from_is_err_and}
use Rattle.call_plan.specs.PlanFile.{plans_of}
use Rattle.call_plan.proofs.read.plans_of.Goals as goal

pub returns-in_err-drafts-clause-refused : goal.returns-in_err-drafts-clause-refused
unfolding plans_of
returns-in_err-drafts-clause-refused c =
    let p = err_from_is_err_and c.from_residual.result c.from_residual.ensures.1 in
    rw (p.1, p.2) (λ fault. let shape = c.in_err-drafts.ensures fault in rw (shape.0, shape.1))

pub loop-draft-init : goal.loop-draft-init
unfolding plans_of
loop-draft-init c = rw (c.new-plans.ensures, c.in_ok-drafts.ensures, c.into_iter-draft-iterator.ensures.into_iter_gives.0)
