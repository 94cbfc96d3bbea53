use Rattle.gateway_replies.proofs.Names.{◌≡◌, false, subst, sym, true, arc_value, list_any, IfNone, IfSome, WithHooks, IsTied, has_ended, is_over, HookedContexts, peer_ties}
use Rattle.gateway_replies.proofs.ContextLemmas.{none_over, over_found}
use Rattle.gateway_replies.proofs.contexts.Contexts.first_ended.Goals as goal

pub invariant_of-self : goal.invariant_of-self
invariant_of-self g c = subst (λ (v : WithHooks _ _ _). IsTied (peer_ties c.self.inside.peers.items) v.standing) (sym c.first_ended.ensures.same) c.self.invariant

pub returns-clause-its : goal.returns-clause-its
returns-clause-its g c = subst (λ (u : HookedContexts _). IfSome c.first_ended.result (λ id. list_any (has_ended id) u.standing.calls ≡ true)) c.self.view_is
    (over_found arc_value c.self.inside.contexts.standing.calls c.first_ended.result c.first_ended.ensures.its)

pub returns-clause-none : goal.returns-clause-none
returns-clause-none g c = subst (λ (u : HookedContexts _). IfNone c.first_ended.result (list_any is_over u.standing.calls ≡ false)) c.self.view_is
    (none_over arc_value c.self.inside.contexts.standing.calls c.first_ended.result c.first_ended.ensures.none)
