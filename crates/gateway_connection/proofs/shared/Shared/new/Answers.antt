use Rattle.gateway_connection.proofs.ResultLemmas.{none_ok}
use Rattle.gateway_connection.proofs.shared.Shared.new.Goals as goal

pub returns-in_err-made-clause-begun : goal.returns-in_err-made-clause-begun
returns-in_err-made-clause-begun g c = none_ok _ _ c.from_residual.result c.from_residual.ensures.1

pub returns-in_err-made-clause-contexts : goal.returns-in_err-made-clause-contexts
returns-in_err-made-clause-contexts g c = none_ok _ _ c.from_residual.result c.from_residual.ensures.1

pub returns-in_err-made-clause-jobs : goal.returns-in_err-made-clause-jobs
returns-in_err-made-clause-jobs g c = none_ok _ _ c.from_residual.result c.from_residual.ensures.1

pub returns-in_err-made-clause-made : goal.returns-in_err-made-clause-made
returns-in_err-made-clause-made g c = none_ok _ _ c.from_residual.result c.from_residual.ensures.1

pub returns-in_err-made-clause-moment : goal.returns-in_err-made-clause-moment
returns-in_err-made-clause-moment g c = none_ok _ _ c.from_residual.result c.from_residual.ensures.1

pub returns-in_err-made-clause-plans : goal.returns-in_err-made-clause-plans
returns-in_err-made-clause-plans g c = none_ok _ _ c.from_residual.result c.from_residual.ensures.1

pub returns-in_err-new-clause-begun : goal.returns-in_err-new-clause-begun
returns-in_err-new-clause-begun g c = none_ok _ _ c.from_residual-in_err-new.result c.from_residual-in_err-new.ensures.1

pub returns-in_err-new-clause-contexts : goal.returns-in_err-new-clause-contexts
returns-in_err-new-clause-contexts g c = none_ok _ _ c.from_residual-in_err-new.result c.from_residual-in_err-new.ensures.1

pub returns-in_err-new-clause-jobs : goal.returns-in_err-new-clause-jobs
returns-in_err-new-clause-jobs g c = none_ok _ _ c.from_residual-in_err-new.result c.from_residual-in_err-new.ensures.1

pub returns-in_err-new-clause-made : goal.returns-in_err-new-clause-made
returns-in_err-new-clause-made g c = none_ok _ _ c.from_residual-in_err-new.result c.from_residual-in_err-new.ensures.1

pub returns-in_err-new-clause-moment : goal.returns-in_err-new-clause-moment
returns-in_err-new-clause-moment g c = none_ok _ _ c.from_residual-in_err-new.result c.from_residual-in_err-new.ensures.1

pub returns-in_err-new-clause-plans : goal.returns-in_err-new-clause-plans
returns-in_err-new-clause-plans g c = none_ok _ _ c.from_residual-in_err-new.result c.from_residual-in_err-new.ensures.1

pub invariant_of-result : goal.invariant_of-result
invariant_of-result g c = c.plans.invariant

pub returns-clause-plans : goal.returns-clause-plans
returns-clause-plans g c = c.plans.view_is
