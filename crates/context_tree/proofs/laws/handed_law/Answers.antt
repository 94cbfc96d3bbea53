use Rattle.context_tree.proofs.Queueing.{handed_ended}
use Rattle.context_tree.proofs.laws.handed_law.Goals as goal

pub returns : goal.returns
returns g c = λ past x lawful is. (handed_ended past lawful x is).1
