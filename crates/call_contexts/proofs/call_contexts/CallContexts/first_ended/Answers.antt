use Rattle.call_contexts.proofs.Names.{◌≡◌, ◌∙◌, ap, subst, sym, true, false, IfNone, IfSome, list_any, WithHooks, has_ended, is_over, FindsEnded, IsSound}
use Rattle.call_contexts.proofs.Hooking.{pair_is}
use Rattle.call_contexts.proofs.call_contexts.CallContexts.first_ended.Goals as goal

pub invariant_of-self : goal.invariant_of-self
invariant_of-self g c =
    let s = c.self.inside in
    record {
      sound = subst (IsSound c.first_ended.new.tree s.hooks s.base s.conns.items) c.deref.ensures.value
          (c.first_ended.ensures s.base s.conns.items (subst (IsSound s.tree s.hooks s.base s.conns.items) (sym c.deref.ensures.value) c.self.invariant.sound)).sound;
      rising = c.self.invariant.rising;
      indexed = c.self.invariant.indexed;
    }

pub returns : goal.returns
returns g c =
    let s = c.self.inside in
    let go = subst (FindsEnded c.first_ended.result s.tree c.first_ended.new.tree s.hooks s.base s.conns.items) c.deref.ensures.value
    (c.first_ended.ensures s.base s.conns.items (subst (IsSound s.tree s.hooks s.base s.conns.items) (sym c.deref.ensures.value) c.self.invariant.sound)) in
    record {
      same = pair_is _ _ (go.seen_is ∙ ap (λ (v : WithHooks _ _ _). v.standing) c.self.view_is) (ap (λ (v : WithHooks _ _ _). v.hooks) c.self.view_is);
      its = subst (λ (v : WithHooks _ _ _). IfSome c.first_ended.result (λ id. list_any (has_ended id) v.standing.calls ≡ true)) c.self.view_is go.its;
      none = subst (λ (v : WithHooks _ _ _). IfNone c.first_ended.result (list_any is_over v.standing.calls ≡ false)) c.self.view_is go.none;
    }
