use Rattle.context_tree.proofs.LawLemmas.{deadline_low}
use Rattle.context_tree.proofs.laws.deadline_law.Goals as goal

pub returns : goal.returns
returns g c = deadline_low
