use Rattle.call_contexts.proofs.Names.{◌∙◌, ◌∷◌, ap, sym, subst, ◌≡◌, false, not, filter, list_any, same, WithHooks, without, Stop}
use Rattle.after_funcs.specs.Stands.{StandsFor as HooksStand}
use Rattle.call_contexts.proofs.Distinct.{calls_apart}
use Rattle.call_contexts.proofs.Lists.{none_found}
use Rattle.call_contexts.proofs.Leaving.{none_gone}
use Rattle.call_contexts.proofs.Hooking.{pair_is, stopped_waits, stopped_hooks, no_hook_gone}
use Rattle.call_contexts.proofs.call_contexts.CallContexts.abandon.Goals as goal

pub returns-in_default : goal.returns-in_default
returns-in_default g c =
    let s = c.self.invariant.sound in
    let none : list_any (λ l. same l.ctx c.args.ctx) c.self.inside.calls.items ≡ false = none_found c.args.ctx c.self.inside.calls.items c.in_default.ensures.none in
    rw (c.in_default.ensures.same_tree, c.in_default.ensures.same_calls)
    (pair_is _ _ (none_gone s c.args.ctx none ∙ ap (λ (v : WithHooks _ _ _). without c.args.ctx v.standing) c.self.view_is)
    (no_hook_gone c.self.inside.hooks s.hooks s.hooks_are c.args.ctx c.self.inside.calls.items s.hook_waits none ∙ ap (λ (v : WithHooks _ _ _). filter (λ p. not (same p.0 c.args.ctx)) v.hooks) c.self.view_is))

pub invariant_of-self : goal.invariant_of-self
invariant_of-self g c = rw (c.in_default.ensures.same_tree, c.in_default.ensures.same_calls, c.in_default.ensures.same_index) c.self.invariant

pub invariant_of-self-2 : goal.invariant_of-self-2
invariant_of-self-2 g c =
    let t = c.in-Some.ensures.left c.self.inside.base c.self.inside.conns.items c.self.invariant.sound in
    let s = t.gone.sound in
    let apart = calls_apart s.root c.self.inside.base c.self.inside.conns.items t.bare s.distinct in
    let stopped = subst (λ n. HooksStand c.stop.new.self (Stop n ∷ s.hooks)) (sym t.hook_is) (c.stop.ensures.stands s.hooks s.hooks_are) in
    record {
      sound = t.sound c.stop.new.self _ stopped (rw t.left_is (stopped_waits c.args.ctx t.life s.hooks t.bare (c.order_law.ensures.registered s.hooks) s.hook_waits apart t.its)) s.none_due;
      rising = t.rising;
      indexed = t.indexed c.self.invariant.indexed;
    }

pub returns : goal.returns
returns g c =
    let t = c.in-Some.ensures.left c.self.inside.base c.self.inside.conns.items c.self.invariant.sound in
    let s = t.gone.sound in
    let apart = calls_apart s.root c.self.inside.base c.self.inside.conns.items t.bare s.distinct in
    let stopped = subst (λ n. HooksStand c.stop.new.self (Stop n ∷ s.hooks)) (sym t.hook_is) (c.stop.ensures.stands s.hooks s.hooks_are) in
    pair_is _ _ (t.seen_is ∙ ap (λ (v : WithHooks _ _ _). without c.args.ctx v.standing) c.self.view_is)
    (stopped_hooks c.args.ctx t.life s.hooks t.bare (c.order_law.ensures.registered s.hooks) s.hook_waits apart t.its c.self.inside.hooks c.stop.new.self s.hooks_are stopped
    ∙ ap (λ (v : WithHooks _ _ _). filter (λ p. not (same p.0 c.args.ctx)) v.hooks) c.self.view_is)
