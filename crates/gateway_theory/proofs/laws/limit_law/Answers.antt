use Rattle.gateway_theory.specs.lemmas.LimitLemmas.{outs_limit}
use Rattle.gateway_theory.proofs.laws.limit_law.Goals as goal

pub returns : goal.returns
returns c = outs_limit
