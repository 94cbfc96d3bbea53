use Rattle.context_tree.proofs.LawLemmas.{first_end}
use Rattle.context_tree.proofs.laws.first_end_law.Goals as goal

pub returns : goal.returns
returns g c = first_end
