use Rattle.gateway_replies.proofs.Names.{◌≡◌, ◌∙◌, None, Some, ap, refl, sym, arc_value, WithHooks, ctx_for, drop_branch, names_in, CallContext, LifeValue, HookedContexts, peer_ties}
use Rattle.gateway_replies.proofs.HookLemmas.{keeps}
use Rattle.gateway_replies.proofs.ContextLemmas.{agree, no_life}
use Rattle.gateway_replies.proofs.BranchLemmas.{branched_lives, branched_tied, branched_value, on_none}
use Rattle.gateway_replies.proofs.contexts.Contexts.finish.Goals as goal

pub returns-in_default : goal.returns-in_default
returns-in_default g c =
    let s = c.self.inside in
    let none : ctx_for c.args.id.now s.contexts.standing.calls ≡ None = sym c.ctx_for.ensures ∙ c.in_default.is in
    record {
      finished =
          on_none c.args.id.now (λ (l : LifeValue). drop_branch c.args.branch l.branches) c.args.self.now.standing
          (no_life arc_value (peer_ties s.peers.items) s.contexts.standing c.args.self.now.standing c.args.id.now (ap (λ (u : HookedContexts _). u.standing) c.self.view_is) none);
      hooks = record { stocks_are = refl; hooks_are = refl; called_are = refl };
    }

pub invariant_of-self : goal.invariant_of-self
invariant_of-self g c =
    branched_tied (peer_ties c.self.inside.peers.items) c.self.inside.contexts.standing c.let_branch_go.new.self.standing c.in-Some.ctx
    (λ (d : CallContext _). drop_branch c.args.branch d.branches) (ap (λ (v : WithHooks _ _ _). v.standing) c.let_branch_go.ensures) c.self.invariant

pub returns : goal.returns
returns g c =
    let s = c.self.inside in
    let at : ctx_for c.args.id.now s.contexts.standing.calls ≡ Some c.in-Some.ctx = sym c.ctx_for.ensures ∙ c.in-Some.is in
    record {
      finished =
          branched_value arc_value (peer_ties s.peers.items) s.contexts.standing c.let_branch_go.new.self.standing c.args.self.now.standing
          c.args.id.now c.in-Some.ctx (λ (d : CallContext _). drop_branch c.args.branch d.branches) (λ (l : LifeValue). drop_branch c.args.branch l.branches) (λ d. refl)
          (ap (λ (v : WithHooks _ _ _). v.standing) c.let_branch_go.ensures) (agree s.contexts.standing.calls c.args.id.now c.in-Some.ctx c.apart_law.ensures.apart c.self.invariant.calls_apart at)
          (ap (λ (u : HookedContexts _). u.standing) c.self.view_is);
      hooks = keeps c.args.self.now _ _ s.peers.items (names_in s.contexts.standing.calls) (names_in c.let_branch_go.new.self.standing.calls) s.contexts.hooks c.let_branch_go.new.self.hooks c.self.view_is
          (branched_lives s.contexts.standing c.let_branch_go.new.self.standing c.in-Some.ctx (λ (d : CallContext _). drop_branch c.args.branch d.branches) (ap (λ (v : WithHooks _ _ _). v.standing) c.let_branch_go.ensures))
          (ap (λ (v : WithHooks _ _ _). v.hooks) c.let_branch_go.ensures);
    }
