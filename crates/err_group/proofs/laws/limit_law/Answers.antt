use Rattle.err_group.proofs.GroupLemmas.{finishes-le-starts}
use Rattle.err_group.proofs.LawLemmas.{active-le-limit, active-full, reached-limited, active-zero}
use Rattle.err_group.proofs.laws.limit_law.Goals as goal

pub returns-clause-within : goal.returns-clause-within
returns-clause-within g c = active-le-limit

pub returns-clause-full : goal.returns-clause-full
returns-clause-full g c = active-full

pub returns-clause-each_group : goal.returns-clause-each_group
returns-clause-each_group g c = reached-limited

pub returns-clause-zero : goal.returns-clause-zero
returns-clause-zero g c = active-zero

pub returns-clause-finishes : goal.returns-clause-finishes
returns-clause-finishes g c = finishes-le-starts
