use Rattle.gateway_replies.proofs.Names.{◌≡◌, ◌∙◌, ◌∷◌, [], None, Some, true, false, ap, sym, is_some, arc_value, WithHooks, ctx_for, HookedContexts, peer_ties, stock_ties}
use Rattle.gateway_replies.proofs.ContextLemmas.{agree, left_tied, left_value, no_life, stands_in}
use Rattle.gateway_replies.proofs.HookLemmas.{calls_hook, drops_one}
use Rattle.std.proofs.lemmas.Result.{IfOk-weaker}
use Rattle.gateway_model.specs.Duty.{MeetsDuty}
use Rattle.gateway_replies.proofs.contexts.Contexts.end.Goals as goal

pub invariant_of-self : goal.invariant_of-self
invariant_of-self g c =
    left_tied (peer_ties c.self.inside.peers.items) c.self.inside.contexts.standing c.end.new.self.standing c.in-Some.ctx (ap (λ (v : WithHooks _ _ _). v.standing) c.end.ensures.left) c.self.invariant

pub unreachable-requires : goal.unreachable-requires
unreachable-requires g c =
    let s = c.self.inside in
    let none : ctx_for c.args.id.now s.contexts.standing.calls ≡ None = sym c.ctx_for.ensures ∙ c.in_default.is in
    let clash : true ≡ false = sym c.requires
    ∙ no_life arc_value (peer_ties s.peers.items) s.contexts.standing c.args.self.now.standing c.args.id.now (ap (λ (u : HookedContexts _). u.standing) c.self.view_is) none in
    cc

pub unreachable-requires-in-None : goal.unreachable-requires-in-None
unreachable-requires-in-None g c =
    let at : ctx_for c.args.id.now c.self.inside.contexts.standing.calls ≡ Some c.in-Some.ctx = sym c.ctx_for.ensures ∙ c.in-Some.is in
    let stands = stands_in c.self.inside.contexts.standing.calls c.args.id.now c.in-Some.ctx at in
    let clash : true ≡ false = sym stands ∙ sym c.end.ensures.ran ∙ ap is_some c.in-None.is in
    cc

pub returns-clause-gone : goal.returns-clause-gone
returns-clause-gone g c =
    let s = c.self.inside in
    let at : ctx_for c.args.id.now s.contexts.standing.calls ≡ Some c.in-Some.ctx = sym c.ctx_for.ensures ∙ c.in-Some.is in
    left_value arc_value (peer_ties s.peers.items) s.contexts.standing c.end.new.self.standing c.args.self.now.standing c.args.id.now c.in-Some.ctx
    (ap (λ (v : WithHooks _ _ _). v.standing) c.end.ensures.left) (agree s.contexts.standing.calls c.args.id.now c.in-Some.ctx c.apart_law.ensures.apart c.self.invariant.calls_apart at)
    (ap (λ (u : HookedContexts _). u.standing) c.self.view_is)

pub returns-clause-hooks : goal.returns-clause-hooks
returns-clause-hooks g c =
    let s = c.self.inside in
    let at : ctx_for c.args.id.now s.contexts.standing.calls ≡ Some c.in-Some.ctx = sym c.ctx_for.ensures ∙ c.in-Some.is in
    drops_one ((c.args.id.now, c.args.ending) ∷ []) c.args.self.now _ _ s.peers.items s.contexts.standing.calls c.end.new.self.standing.calls s.contexts.hooks c.end.new.self.hooks c.args.id.now c.in-Some.ctx
    c.self.view_is c.apart_law.ensures.hooked (agree s.contexts.standing.calls c.args.id.now c.in-Some.ctx c.apart_law.ensures.apart c.self.invariant.calls_apart at)
    (ap (λ (v : WithHooks _ _ _). v.standing.calls) c.end.ensures.left) (ap (λ (v : WithHooks _ _ _). v.hooks) c.end.ensures.left) c.and-self-inside.ensures

pub returns-clause-called : goal.returns-clause-called
returns-clause-called g c = λ hook its.
    let s = c.self.inside in
    let at : ctx_for c.args.id.now s.contexts.standing.calls ≡ Some c.in-Some.ctx = sym c.ctx_for.ensures ∙ c.in-Some.is in
    c.in-Some-end.ensures.called hook
    (calls_hook c.args.self.now _ (stock_ties s.peers.items) s.contexts.standing.calls s.contexts.hooks c.args.id.now c.in-Some.ctx hook c.self.view_is c.apart_law.ensures.hooked
    (agree s.contexts.standing.calls c.args.id.now c.in-Some.ctx c.apart_law.ensures.apart c.self.invariant.calls_apart at) its)

pub returns-clause-duty : goal.returns-clause-duty
returns-clause-duty g c = IfOk-weaker c.in-Some-end.answer (g.H.Hook.meets c.args.ending) (MeetsDuty c.args.ending) (g.met.H.ReplyHook.exact c.args.ending) c.in-Some-end.ensures.duty
