use Rattle.gateway_replies.proofs.Names.{subst, arc_value, LivesApart, HookedContexts}
use Rattle.gateway_replies.proofs.ContextLemmas.{lives_apart}
use Rattle.gateway_replies.proofs.contexts.Contexts.apart_law.Goals as goal

pub returns : goal.returns
returns g c = subst (λ (u : HookedContexts _). LivesApart u.standing.calls) c.self.view_is (lives_apart arc_value c.self.inside.contexts.standing.calls c.self.invariant.calls_apart)
