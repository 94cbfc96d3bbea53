use Rattle.call_contexts.proofs.Names.{◌∙◌, ap, sym, ◌≡◌, None, Some, option_and_then, option_map, WithHooks, cause_in, ended_call, life_for}
use Rattle.call_contexts.proofs.Leaving.{call_known, ended_told}
use Rattle.call_contexts.proofs.Seeing.{asked}
use Rattle.call_contexts.proofs.call_contexts.CallContexts.ended.Goals as goal

pub returns-in-Some : goal.returns-in-Some
returns-in-Some g c =
    let s = c.self.invariant.sound in
    let at : life_for c.args.id.now c.self.inside.calls.items ≡ Some c.in-Some.life.now = ap (life_for c.args.id.now) (sym c.deref.ensures.value) ∙ sym c.named.ensures ∙ ap (option_map (λ l. l.now)) c.in-Some.is in
    c.cause_of.ensures s.past s.tree_is (call_known s c.args.id.now c.in-Some.life.now at)
    ∙ ended_told s c.args.id.now c.in-Some.life.now at
    ∙ ap (λ (v : WithHooks _ _ _). ended_call c.args.id.now v.standing.calls) c.self.view_is

pub returns-in-None : goal.returns-in-None
returns-in-None g c =
    let none : life_for c.args.id.now c.self.inside.calls.items ≡ None = ap (life_for c.args.id.now) (sym c.deref.ensures.value) ∙ sym c.named.ensures ∙ ap (option_map (λ l. l.now)) c.in-None.is in
    sym (asked c.self.inside.tree.slots (λ d. d.ended) c.args.id.now c.self.inside.calls.items ∙ ap (option_and_then (λ l. cause_in c.self.inside.tree.slots l.ctx)) none)
    ∙ ap (λ (v : WithHooks _ _ _). ended_call c.args.id.now v.standing.calls) c.self.view_is

pub named-requires : goal.named-requires
named-requires g c = rw c.deref.ensures.value (record { rising = c.self.invariant.rising; indexed = c.self.invariant.indexed })
