use Rattle.gateway_theory.specs.lemmas.CutLemmas.{jobs_of_starts}
use Rattle.gateway_theory.proofs.laws.starts_law.Goals as goal

pub returns : goal.returns
returns c = jobs_of_starts
