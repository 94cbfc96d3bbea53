use Rattle.gateway_replies.proofs.Names.{◌≡◌, ◌∙◌, None, ap, append-nil, arith, eq-eqb, length, sym, arc_value, ContextsValue, first_life, HookedContexts, hooks_of_others, peer_ties}
use Rattle.gateway_replies.proofs.ContextLemmas.{drops_all, drops_one, fewer_gone, first_in, has_life}
use Rattle.gateway_replies.proofs.HookLemmas.{same_hooks}
use Rattle.gateway_replies.proofs.contexts.Contexts.abandon_all.Goals as goal

pub loop-id-preserved : goal.loop-id-preserved
loop-id-preserved g c =
    let its = eq-eqb c.in-Some.id.conn c.args.number c.in-Some.ensures.its.0 in (
      drops_one c.args.number c.in-Some.id c.args.self.now.standing c.loop-id.self.standing c.abandon.new.self.standing c.loop-id.invariant.0 its c.abandon.ensures.gone,
      c.abandon.ensures.hooks.stocks_are ∙ c.loop-id.invariant.1,
      ap (hooks_of_others c.args.number) c.abandon.ensures.hooks.hooks_are ∙ same_hooks c.args.number c.in-Some.id c.loop-id.self.hooks its ∙ c.loop-id.invariant.2,
      c.abandon.ensures.hooks.called_are ∙ append-nil c.loop-id.self.called ∙ c.loop-id.invariant.3,
    )

pub loop-id-smaller : goal.loop-id-smaller
loop-id-smaller g c =
    let is = has_life arc_value (peer_ties c.self.inside.peers.items) c.self.inside.contexts.standing c.loop-id.self.standing c.in-Some.id (ap (λ (u : HookedContexts _). u.standing) c.self.view_is) c.in-Some.ensures.its.1 in
    let less = fewer_gone c.in-Some.id c.loop-id.self.standing.calls is in
    omega (arith, less, ap (λ (v : ContextsValue). length v.calls) c.abandon.ensures.gone)

pub returns-clause-gone : goal.returns-clause-gone
returns-clause-gone g c =
    let none : first_life c.args.number c.loop-id.self.standing.calls ≡ None = ap (λ (u : HookedContexts _). first_life c.args.number u.standing.calls) (sym c.self.view_is)
    ∙ first_in arc_value c.self.inside.contexts.standing.calls c.args.number ∙ c.in_default.ensures.none in
    drops_all c.args.number c.args.self.now.standing c.loop-id.self.standing c.loop-id.invariant.0 none

pub returns-clause-none : goal.returns-clause-none
returns-clause-none g c =
    ap (λ (u : HookedContexts _). first_life c.args.number u.standing.calls) (sym c.self.view_is)
    ∙ first_in arc_value c.self.inside.contexts.standing.calls c.args.number ∙ c.in_default.ensures.none
