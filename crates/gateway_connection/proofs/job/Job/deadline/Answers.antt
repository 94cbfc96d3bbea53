use Rattle.gateway_connection.specs.lemmas.Names.{ap, sym, HandedJob}
use Rattle.gateway_connection.proofs.job.Job.deadline.Goals as goal

pub returns-clause-left : goal.returns-clause-left
returns-clause-left g = (g.self.inside.start, sym (ap (λ (h : HandedJob). h.job.remaining) g.self.view_is))
