use Rattle.gateway_theory.specs.lemmas.Names.{refl}
use Rattle.gateway_theory.specs.lemmas.CallsAdd.{opens_adds, unopens_adds}
use Rattle.gateway_theory.proofs.served_laws.opening_law.Goals as goal

pub returns : goal.returns
returns c = record {
  opened = λ number v w h serving o. opens_adds c.fresh_law.ensures.requests v w number h o serving;
  refused = λ v h serving. unopens_adds v v h refl;
}
