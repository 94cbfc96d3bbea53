use Rattle.gateway_replies.proofs.Names.{◌≡◌, ap, subst, arc_value, ContextsValue, HookedContexts}
use Rattle.gateway_replies.specs.Least.{first_deadline}
use Rattle.gateway_replies.proofs.LeastLemmas.{first_is}
use Rattle.gateway_replies.proofs.contexts.Contexts.next_deadline.Goals as goal

pub returns : goal.returns
returns g c = subst (λ (v : ContextsValue). c.next_deadline.result ≡ first_deadline v.calls) (ap (λ (u : HookedContexts _). u.standing) c.self.view_is)
    (first_is arc_value c.self.inside.contexts.standing.calls c.next_deadline.result
    c.next_deadline.ensures.calls c.next_deadline.ensures.branches c.next_deadline.ensures.its)
