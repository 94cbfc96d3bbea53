use Rattle.gateway_replies.proofs.Names.{◌≡◌, Some, None, false, subst, ap, All, nat_le, list_any, arc_value, ContextsValue, IsNotDue, has_due, HookedContexts}
use Rattle.gateway_replies.proofs.ToldLemmas.{due_is, none_due}
use Rattle.gateway_replies.proofs.contexts.Contexts.is_due.Goals as goal

pub returns-in-Some-clause-exact : goal.returns-in-Some-clause-exact
returns-in-Some-clause-exact g c = subst (λ (v : ContextsValue). nat_le c.in-Some.deadline c.args.moment ≡ list_any (has_due c.args.moment) v.calls) (ap (λ (u : HookedContexts _). u.standing) c.self.view_is)
    (due_is arc_value c.self.inside.contexts.standing.calls c.args.moment (Some c.in-Some.deadline)
    c.in-Some.ensures.calls c.in-Some.ensures.branches c.in-Some.ensures.its)

pub returns-in-Some-clause-not_due : goal.returns-in-Some-clause-not_due
returns-in-Some-clause-not_due g c = λ low. subst (λ (v : ContextsValue). All (IsNotDue c.args.moment) v.calls) (ap (λ (u : HookedContexts _). u.standing) c.self.view_is)
    (none_due arc_value c.self.inside.contexts.standing.calls c.args.moment (Some c.in-Some.deadline)
    low c.in-Some.ensures.calls c.in-Some.ensures.branches)

pub returns-in-None-clause-exact : goal.returns-in-None-clause-exact
returns-in-None-clause-exact g c = subst (λ (v : ContextsValue). false ≡ list_any (has_due c.args.moment) v.calls) (ap (λ (u : HookedContexts _). u.standing) c.self.view_is)
    (due_is arc_value c.self.inside.contexts.standing.calls c.args.moment None
    c.in-None.ensures.calls c.in-None.ensures.branches c.in-None.ensures.its)

pub returns-in-None-clause-not_due : goal.returns-in-None-clause-not_due
returns-in-None-clause-not_due g c = λ low. subst (λ (v : ContextsValue). All (IsNotDue c.args.moment) v.calls) (ap (λ (u : HookedContexts _). u.standing) c.self.view_is)
    (none_due arc_value c.self.inside.contexts.standing.calls c.args.moment None
    low c.in-None.ensures.calls c.in-None.ensures.branches)
