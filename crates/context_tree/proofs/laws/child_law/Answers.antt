use Rattle.std.proofs.Common.{refl}
use Rattle.context_tree.proofs.LawLemmas.{child_ends}
use Rattle.context_tree.proofs.Framing.{chain_ended}
use Rattle.context_tree.proofs.laws.child_law.Goals as goal

pub returns-clause-parent : goal.returns-clause-parent
returns-clause-parent g c = λ past x p kind e lawful is f end. child_ends past x p kind lawful is f (rw end refl)

pub returns-clause-chain : goal.returns-clause-chain
returns-clause-chain g c = chain_ended
