use Rattle.std.proofs.Common.{refl}
use Rattle.err_group.specs.Group.{group_of, past_of}
use Rattle.err_group.proofs.LawLemmas.{left_and_waiting, fates-done}
use Rattle.err_group.proofs.laws.queue_law.Goals as goal

pub returns-clause-once : goal.returns-clause-once
unfolding group_of
returns-clause-once g c operations = left_and_waiting (past_of operations)

pub returns-clause-started : goal.returns-clause-started
returns-clause-started g c operations outcome = fates-done (past_of operations) outcome _ refl

pub returns-clause-removed : goal.returns-clause-removed
unfolding group_of
returns-clause-removed g c operations = refl
