use Rattle.std.proofs.Common.{ap, sym, ◌∙◌, Some}
use Rattle.std.proofs.lemmas.Result.{err_from_is_err_and}
use Rattle.call_plan.specs.PlanFile.{pass_of}
use Rattle.call_plan.proofs.draft.read_pass.Goals as goal

pub returns-in_err-read_texts-in-Some : goal.returns-in_err-read_texts-in-Some
unfolding pass_of
returns-in_err-read_texts-in-Some c =
    let p = err_from_is_err_and c.from_residual.result c.from_residual.ensures.1 in
    rw (p.1, p.2) (λ fault. let shape = c.in_err-read_texts-in-Some.ensures fault in (shape.0, rw (← c.get.ensures, c.in-Some.is) shape.1))

pub returns-in-None : goal.returns-in-None
unfolding pass_of
returns-in-None c = rw (← c.get.ensures, c.in-None.is, c.from_vec.ensures, c.new.ensures.items)

pub returns-in_ok-read_texts-in-Some : goal.returns-in_ok-read_texts-in-Some
unfolding pass_of
returns-in_ok-read_texts-in-Some c = rw (← c.get.ensures, c.in-Some.is, c.from_vec-in-Some.ensures) c.in_ok-read_texts-in-Some.ensures
