use Rattle.gateway_theory.specs.lemmas.Laws.{known}
use Rattle.gateway_theory.proofs.served_laws.calls_law.Goals as goal

pub returns : goal.returns
returns c = record {
  records = λ id kept v h occurred s o whole kept_is. (known v h occurred s o).records id kept kept_is;
  limit = λ id a v h occurred s o a_is. (known v h occurred s o).limit id a a_is;
}
