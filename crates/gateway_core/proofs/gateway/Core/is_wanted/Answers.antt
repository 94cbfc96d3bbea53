use Rattle.gateway_core.proofs.Names.{sym, subst, ap, ◌∙◌, is_some, IsWanted, gateway_of, wanted_is}
use Rattle.gateway_core.proofs.TakenLemmas.{kept_is}
use Rattle.gateway_core.proofs.gateway.Core.is_wanted.Goals as goal

pub returns : goal.returns
returns g c = subst (λ x. IsWanted c.args.call.now x c.is_live.result) c.self.view_is (subst (λ b. IsWanted c.args.call.now (gateway_of c.self.inside.shared c.self.inside.conns.entries c.self.inside.opened c.self.inside.tally) b) (sym (c.is_live.ensures ∙ ap (λ k. is_some k.live) (kept_is c.args.call.now (gateway_of c.self.inside.shared c.self.inside.conns.entries c.self.inside.opened c.self.inside.tally)))) (wanted_is c.args.call.now (gateway_of c.self.inside.shared c.self.inside.conns.entries c.self.inside.opened c.self.inside.tally) c.self.invariant.serving))
