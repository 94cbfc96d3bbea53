use Rattle.gateway_connection.specs.lemmas.Names.{◌∙◌, ap, nat_lt, list_any, KeptValue}
use Rattle.gateway_connection.proofs.KeptLemmas.{any_out}
use Rattle.gateway_connection.proofs.kept.Kept.is_any_out.Goals as goal

pub returns : goal.returns
returns c = ap (nat_lt 0) (c.active.ensures.active ∙ c.self.invariant.active_is) ∙ any_out c.self.inside.out.items ∙ ap (λ (k : KeptValue). list_any (λ b. b) k.call.out) c.self.view_is
