use Rattle.gateway_theory.specs.lemmas.PastLemmas.{decided_stays, entry_stays}
use Rattle.gateway_theory.proofs.laws.entry_law.Goals as goal

pub returns-clause-decided_stays : goal.returns-clause-decided_stays
returns-clause-decided_stays c = decided_stays

pub returns-clause-entry_stays : goal.returns-clause-entry_stays
returns-clause-entry_stays c = entry_stays
