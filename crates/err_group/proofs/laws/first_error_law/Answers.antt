use Rattle.std.proofs.Common.{refl}
use Rattle.err_group.specs.Group.{past_of}
use Rattle.err_group.proofs.LawLemmas.{first_error_stays, first-done}
use Rattle.err_group.proofs.laws.first_error_law.Goals as goal

pub returns-clause-stays : goal.returns-clause-stays
returns-clause-stays g c = first_error_stays

pub returns-clause-first : goal.returns-clause-first
returns-clause-first g c operations outcome = first-done (past_of operations) outcome _ refl
