use Rattle.std.proofs.Common.{arith}
use Rattle.context_tree.proofs.Framing.{new_id, unmade_unheld, unmade_unended, new_childless}
use Rattle.context_tree.proofs.Queueing.{not_handed}
use Rattle.context_tree.proofs.laws.new_law.Goals as goal

pub returns-clause-never_given : goal.returns-clause-never_given
returns-clause-never_given g c = new_id

pub returns-clause-unheld : goal.returns-clause-unheld
returns-clause-unheld g c = λ past id kind now lawful. unmade_unheld past id (new_id past id kind now lawful)

pub returns-clause-unended : goal.returns-clause-unended
returns-clause-unended g c = λ past id kind now lawful. unmade_unended past id (new_id past id kind now lawful)

pub returns-clause-not_handed : goal.returns-clause-not_handed
returns-clause-not_handed g c = λ past id kind now lawful. not_handed past lawful.2 id (λ lt. omega (arith, lt, lawful.0))

pub returns-clause-childless : goal.returns-clause-childless
returns-clause-childless g c = new_childless
