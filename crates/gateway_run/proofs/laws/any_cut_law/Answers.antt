use Rattle.gateway_run.proofs.Names.{ap, sym, ◌∙◌, marked, queued, jobs}
use Rattle.gateway_run.proofs.Shifts.{is_shifted}
use Rattle.gateway_run.proofs.laws.any_cut_law.Goals as goal

pub returns-clause-same : goal.returns-clause-same
returns-clause-same c = c.pieces_law.ensures

pub returns-clause-queued : goal.returns-clause-queued
returns-clause-queued c = λ a b conn e. ap (λ os. queued conn (marked os)) e

pub returns-clause-starts : goal.returns-clause-starts
returns-clause-starts c = λ a b e. c.starts_law.ensures a ∙ ap (λ os. jobs (marked os)) e ∙ sym (c.starts_law.ensures b)

pub returns-clause-shifts : goal.returns-clause-shifts
returns-clause-shifts c = is_shifted
