use Rattle.gateway_theory.specs.lemmas.Places.{decided_found, decided_only}
use Rattle.gateway_theory.proofs.laws.decided_law.Goals as goal

pub returns-clause-found : goal.returns-clause-found
returns-clause-found c = decided_found

pub returns-clause-only : goal.returns-clause-only
returns-clause-only c = decided_only
