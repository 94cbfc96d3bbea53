use Rattle.gateway_replies.proofs.Names.{◌≡◌, ◌∙◌, [], None, Some, ap, append-nil, sym, arc_value, WithHooks, ctx_for, HookedContexts, peer_ties, stock_ties}
use Rattle.gateway_replies.proofs.ContextLemmas.{agree, left_tied, left_value, no_life, without_none}
use Rattle.gateway_replies.proofs.HookLemmas.{drops_none, drops_one}
use Rattle.gateway_replies.proofs.contexts.Contexts.abandon.Goals as goal

pub returns-in_default : goal.returns-in_default
returns-in_default g c =
    let s = c.self.inside in
    let none : ctx_for c.args.id.now s.contexts.standing.calls ≡ None = sym c.ctx_for.ensures ∙ c.in_default.is in
    record {
      gone =
          without_none c.args.id.now c.args.self.now.standing
          (no_life arc_value (peer_ties s.peers.items) s.contexts.standing c.args.self.now.standing c.args.id.now (ap (λ (u : HookedContexts _). u.standing) c.self.view_is) none);
      hooks = drops_none c.args.self.now _ (stock_ties s.peers.items) s.contexts.standing.calls s.contexts.hooks c.args.id.now c.self.view_is none;
    }

pub invariant_of-self : goal.invariant_of-self
invariant_of-self g c =
    left_tied (peer_ties c.self.inside.peers.items) c.self.inside.contexts.standing c.abandon.new.self.standing c.in-Some.ctx (ap (λ (v : WithHooks _ _ _). v.standing) c.abandon.ensures) c.self.invariant

pub returns : goal.returns
returns g c =
    let s = c.self.inside in
    let at : ctx_for c.args.id.now s.contexts.standing.calls ≡ Some c.in-Some.ctx = sym c.ctx_for.ensures ∙ c.in-Some.is in
    let all = agree s.contexts.standing.calls c.args.id.now c.in-Some.ctx c.apart_law.ensures.apart c.self.invariant.calls_apart at in
    record {
      gone =
          left_value arc_value (peer_ties s.peers.items) s.contexts.standing c.abandon.new.self.standing c.args.self.now.standing c.args.id.now c.in-Some.ctx
          (ap (λ (v : WithHooks _ _ _). v.standing) c.abandon.ensures) all (ap (λ (u : HookedContexts _). u.standing) c.self.view_is);
      hooks = drops_one [] c.args.self.now _ _ s.peers.items s.contexts.standing.calls c.abandon.new.self.standing.calls s.contexts.hooks c.abandon.new.self.hooks c.args.id.now c.in-Some.ctx
          c.self.view_is c.apart_law.ensures.hooked all (ap (λ (v : WithHooks _ _ _). v.standing.calls) c.abandon.ensures) (ap (λ (v : WithHooks _ _ _). v.hooks) c.abandon.ensures) (sym (append-nil _));
    }
