use Rattle.context_tree.proofs.Lineage.{same_true, same_refl}
use Rattle.context_tree.proofs.Framing.{made_low, made_apart, held_made}
use Rattle.context_tree.proofs.laws.number_law.Goals as goal

pub returns-clause-below : goal.returns-clause-below
returns-clause-below g c = made_low

pub returns-clause-apart : goal.returns-clause-apart
returns-clause-apart g c = made_apart

pub returns-clause-held : goal.returns-clause-held
returns-clause-held g c = held_made

pub returns-clause-same : goal.returns-clause-same
returns-clause-same g c = same_true

pub returns-clause-itself : goal.returns-clause-itself
returns-clause-itself g c = same_refl
