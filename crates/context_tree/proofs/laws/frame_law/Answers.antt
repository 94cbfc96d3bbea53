use Rattle.std.proofs.Common.{ap}
use Rattle.context_tree.specs.Context.{least, nearest}
use Rattle.context_tree.proofs.Framing.{held_stays, held_on, chain_on, line_on, ending_on}
use Rattle.context_tree.proofs.laws.frame_law.Goals as goal

pub returns-clause-held : goal.returns-clause-held
returns-clause-held g c = held_stays

pub returns-clause-stays : goal.returns-clause-stays
returns-clause-stays g c = held_on

pub returns-clause-deadline : goal.returns-clause-deadline
returns-clause-deadline g c = λ op past x kind lawful is. ap least (chain_on op past x kind lawful is)

pub returns-clause-value : goal.returns-clause-value
returns-clause-value g c = λ op past x kind key lawful is. ap (nearest key) (line_on op past x kind lawful is)

pub returns-clause-ending : goal.returns-clause-ending
returns-clause-ending g c = ending_on
