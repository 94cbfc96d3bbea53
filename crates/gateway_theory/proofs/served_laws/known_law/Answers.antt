use Rattle.gateway_theory.specs.lemmas.Laws.{known}
use Rattle.gateway_theory.proofs.served_laws.known_law.Goals as goal

pub returns : goal.returns
returns c = known
