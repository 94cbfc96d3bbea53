use Rattle.gateway_theory.specs.lemmas.PrefixLemmas.{bytes_begin, taken_begin}
use Rattle.gateway_theory.proofs.served_laws.begins_law.Goals as goal

pub returns : goal.returns
returns c = record { taken = taken_begin; bytes = bytes_begin }
