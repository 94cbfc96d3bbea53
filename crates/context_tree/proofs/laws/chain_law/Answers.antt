use Rattle.context_tree.proofs.Lineage.{born}
use Rattle.context_tree.proofs.laws.chain_law.Goals as goal

pub returns-clause-line : goal.returns-clause-line
returns-clause-line g c = λ past x kind lawful is. (born past lawful x kind is).line_is

pub returns-clause-chain : goal.returns-clause-chain
returns-clause-chain g c = λ past x kind lawful is. (born past lawful x kind is).chain_is

pub returns-clause-parent : goal.returns-clause-parent
returns-clause-parent g c = λ past x p kind lawful is derives.
    let b = born past lawful x kind is in
    let parent = b.parent_held p derives in
    (parent.0, parent.1, b.parent_low p derives)
