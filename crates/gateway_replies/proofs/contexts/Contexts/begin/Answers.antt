use Rattle.gateway_replies.proofs.Names.{◌≡◌, ℕ, option_map, ◌∙◌, ◌∷◌, Some, None, true, false, ap, err_if, inl, refl, subst, sym, map_push, arc_value, WithHooks, ArrivedCall, names_in, CallContext, ContextsValue, ctx_of, HookedContexts, stock_in, stock_of, Takes, peer_ties, stock_ties}
use Rattle.gateway_replies.proofs.ContextLemmas.{begun_tied, begun_value, known_conn, not_begun, not_known}
use Rattle.gateway_replies.proofs.HookLemmas.{has_its_stock, keeps_others, loses_first, takes_most, takes_one}
use Rattle.gateway_replies.proofs.contexts.Contexts.begin.Goals as goal

pub begin-requires : goal.begin-requires
begin-requires g c =
    let at : ctx_of c.args.id.now.conn (peer_ties c.self.inside.peers.items) ≡ Some c.in-Some.taken.0 =
    ap (λ n. ctx_of n (peer_ties c.self.inside.peers.items)) (sym c.number.ensures) ∙ c.in-Some.ensures.ctx in
    record {
      known = known_conn (peer_ties c.self.inside.peers.items) c.self.inside.contexts.standing c.args.id.now.conn c.in-Some.taken.0 c.self.invariant at;
      named = not_begun arc_value (peer_ties c.self.inside.peers.items) c.self.inside.contexts.standing c.args.self.now.standing c.args.id.now (ap (λ (u : HookedContexts _). u.standing) c.self.view_is) c.requires.fresh;
    }

pub invariant_of-self-2 : goal.invariant_of-self-2
invariant_of-self-2 g c =
    let s = c.self.inside in
    let at : ctx_of c.args.id.now.conn (peer_ties s.peers.items) ≡ Some c.in-Some.taken.0 =
    ap (λ n. ctx_of n (peer_ties c.self.inside.peers.items)) (sym c.number.ensures) ∙ c.in-Some.ensures.ctx in
    begun_tied arc_value (peer_ties s.peers.items) (peer_ties c.take_hook.new.peers.items) s.contexts.standing c.begin.new.self.standing c.args.self.now.standing c.args.id.now c.in-Ok.field-0 c.in-Some.taken.0 _ _ _
    c.take_hook.ensures.ties (ap (λ (v : WithHooks _ _ _). v.standing) c.in-Ok.ensures.stands) c.self.invariant at (ap (λ (u : HookedContexts _). u.standing) c.self.view_is) c.requires.fresh

pub returns-clause-ok : goal.returns-clause-ok
returns-clause-ok g c =
    let s = c.self.inside in
    let at : ctx_of c.args.id.now.conn (peer_ties s.peers.items) ≡ Some c.in-Some.taken.0 =
    ap (λ n. ctx_of n (peer_ties c.self.inside.peers.items)) (sym c.number.ensures) ∙ c.in-Some.ensures.ctx in
    begun_value arc_value (peer_ties s.peers.items) (peer_ties c.take_hook.new.peers.items) s.contexts.standing c.begin.new.self.standing c.args.self.now.standing c.args.asked.now c.args.id.now c.in-Ok.field-0 c.in-Some.taken.0 _ _ _
    c.take_hook.ensures.ties (ap (λ (v : WithHooks _ _ _). v.standing) c.in-Ok.ensures.stands) c.self.invariant at (ap (λ (u : HookedContexts _). u.standing) c.self.view_is)
    (ap (λ (a : ArrivedCall). a.deadline) c.asked.view_is)
    (c.in_ok-request_id.ensures ∙ ap (λ (a : ArrivedCall). a.request_id) c.asked.view_is)

pub returns-clause-hook : goal.returns-clause-hook
returns-clause-hook g c =
    let s = c.self.inside in
    takes_one c.args.self.now _ _ s.peers.items c.take_hook.new.peers.items s.contexts.standing.calls (names_in c.begin.new.self.standing.calls) s.contexts.hooks c.begin.new.self.hooks
    (c.args.id.now, c.in-Ok.field-0) c.in-Some.taken.1 c.self.view_is
    (subst (λ n. stock_of n (stock_ties s.peers.items) ≡ c.in-Some.taken.1 ∷ stock_of n (stock_ties c.take_hook.new.peers.items)) c.number.ensures c.in-Some.ensures.taken.0)
    c.apart_law.ensures.hooked
    (ap (λ (v : WithHooks _ _ _). names_in v.standing.calls) c.in-Ok.ensures.stands ∙ map_push (λ (d : CallContext _). d.name) s.contexts.standing.calls _)
    (ap (λ (v : WithHooks _ _ _). v.hooks) c.in-Ok.ensures.stands)

pub unreachable-requires : goal.unreachable-requires
unreachable-requires g c =
    let ps = c.self.inside.peers.items in
    let qs = c.take_hook.new.peers.items in
    let known : ctx_of c.args.id.now.conn (peer_ties ps) ≡ None → ⊥ = λ at.
    let clash : true ≡ false = sym c.requires.known ∙ not_known c.args.id.now.conn c.args.self.now.standing (peer_ties ps) c.self.inside.contexts.standing.conns (ap (λ (v : ContextsValue). v.conns) (ap (λ (u : HookedContexts _). u.standing) c.self.view_is)) at in
    cc in
    let none : Takes c.args.id.now.conn None (stock_ties ps) (stock_ties qs) =
    subst (λ r. Takes c.args.id.now.conn (option_map (λ t. t.1) r) (stock_ties ps) (stock_ties qs)) c.in_default.is
    (subst (λ n. Takes n (option_map (λ t. t.1) c.take_hook.result) (stock_ties ps) (stock_ties qs)) c.number.ensures c.take_hook.ensures.taken) in
    c.requires.stocked (ap (λ (u : HookedContexts _). stock_in c.args.id.now.conn u.stocks) (sym c.self.view_is) ∙ has_its_stock c.args.id.now.conn ps known ∙ ap Some none.0)

pub invariant_of-self : goal.invariant_of-self
invariant_of-self g c = rw (c.take_hook.ensures.ties, c.in_default-begin.ensures.unchanged) c.self.invariant

pub returns-in_default-begin : goal.returns-in_default-begin
returns-in_default-begin g c =
    let ps = c.self.inside.peers.items in
    let qs = c.take_hook.new.peers.items in
    let n : ℕ = c.args.id.now.conn in
    let hook = c.in-Some.taken.1 in
    let takes : Takes n (Some hook) (stock_ties ps) (stock_ties qs) = subst (λ m. Takes m (Some hook) (stock_ties ps) (stock_ties qs)) c.number.ensures c.in-Some.ensures.taken in
    record {
      ok = tt;
      hook = tt;
      others = keeps_others c.args.self.now _ ps qs _ n c.self.view_is takes.1;
      err = rw (c.take_hook.ensures.ties, c.in_default-begin.ensures.unchanged) (ap (λ (u : HookedContexts _). u.standing) c.self.view_is);
      lost = rw c.in_default-begin.ensures.unchanged (loses_first c.args.self.now _ _ ps qs _ n hook c.self.view_is takes.0);
      takes = takes_most c.args.self.now _ ps qs _ n (Some hook) c.self.view_is c.take_hook.ensures.ties takes;
    }

pub returns-in_err-request_id-clause-others : goal.returns-in_err-request_id-clause-others
returns-in_err-request_id-clause-others g c = λ other ne. refl

pub returns-in_err-request_id-clause-err : goal.returns-in_err-request_id-clause-err
returns-in_err-request_id-clause-err g c = err_if c.from_residual.result refl

pub returns-in_err-request_id-clause-lost : goal.returns-in_err-request_id-clause-lost
returns-in_err-request_id-clause-lost g c = err_if c.from_residual.result (record { hooks_are = refl; called_are = refl; stock_is = inl refl })

pub returns-in_err-request_id-clause-takes : goal.returns-in_err-request_id-clause-takes
returns-in_err-request_id-clause-takes g c = λ other stock is. inl is

pub returns-clause-takes : goal.returns-clause-takes
returns-clause-takes g c =
    takes_most c.args.self.now _ c.self.inside.peers.items c.take_hook.new.peers.items _ c.args.id.now.conn (Some c.in-Some.taken.1) c.self.view_is c.take_hook.ensures.ties
    (subst (λ n. Takes n (Some c.in-Some.taken.1) (stock_ties c.self.inside.peers.items) (stock_ties c.take_hook.new.peers.items)) c.number.ensures c.in-Some.ensures.taken)

pub returns-clause-others : goal.returns-clause-others
returns-clause-others g c =
    keeps_others c.args.self.now _ c.self.inside.peers.items c.take_hook.new.peers.items _ c.args.id.now.conn c.self.view_is
    (subst (λ n. Takes n (Some c.in-Some.taken.1) (stock_ties c.self.inside.peers.items) (stock_ties c.take_hook.new.peers.items)) c.number.ensures c.in-Some.ensures.taken).1

pub returns-clause-err : goal.returns-clause-err
returns-clause-err g c = tt

pub returns-clause-lost : goal.returns-clause-lost
returns-clause-lost g c = tt
