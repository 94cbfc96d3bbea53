use Rattle.gateway_theory.specs.lemmas.RecordLemmas.{entry_lawful}
use Rattle.gateway_theory.proofs.laws.record_law.Goals as goal

pub returns : goal.returns
returns c = entry_lawful
