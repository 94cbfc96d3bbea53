use Rattle.call_contexts.proofs.Names.{◌∙◌, ap, sym, [], ◌≡◌, true, false, is_some, map, not, filter, IfOk, IfSome, list_any, same, Standing, WithHooks, without, is_call, seen_call, hook_for}
use Rattle.call_contexts.proofs.Distinct.{calls_apart}
use Rattle.call_contexts.proofs.Lists.{any_map, none_found, found_any}
use Rattle.call_contexts.proofs.Leaving.{none_gone}
use Rattle.call_contexts.proofs.Branches.{turned_call}
use Rattle.call_contexts.proofs.Hooking.{pair_is, fired_waits, fired_due, fired_answer, fewer_hooks, no_hook_gone, fired_gives}
use Rattle.call_contexts.proofs.call_contexts.CallContexts.end.Goals.{in-Some-ran, in-None}
use Rattle.call_contexts.proofs.Trees.{none_held as not_none}
use Rattle.call_contexts.proofs.call_contexts.CallContexts.end.Goals as goal

pub returns-in_default-clause-ran : goal.returns-in_default-clause-ran
returns-in_default-clause-ran g c =
    let none : list_any (λ l. same l.ctx c.args.ctx) c.self.inside.calls.items ≡ false = none_found c.args.ctx c.self.inside.calls.items c.in_default.ensures.none in
    sym none ∙ sym (any_map (λ d. same d.id c.args.ctx) (seen_call c.self.inside.tree.slots) c.self.inside.calls.items) ∙ ap (λ (v : WithHooks _ _ _). is_call c.args.ctx v.standing.calls) c.self.view_is

pub returns-in_default-clause-left : goal.returns-in_default-clause-left
returns-in_default-clause-left g c =
    let s = c.self.invariant.sound in
    let none : list_any (λ l. same l.ctx c.args.ctx) c.self.inside.calls.items ≡ false = none_found c.args.ctx c.self.inside.calls.items c.in_default.ensures.none in
    rw (c.in_default.ensures.same_tree, c.in_default.ensures.same_calls)
    (pair_is _ _ (none_gone s c.args.ctx none ∙ ap (λ (v : WithHooks _ _ _). without c.args.ctx v.standing) c.self.view_is)
    (no_hook_gone c.self.inside.hooks s.hooks s.hooks_are c.args.ctx c.self.inside.calls.items s.hook_waits none ∙ ap (λ (v : WithHooks _ _ _). filter (λ p. not (same p.0 c.args.ctx)) v.hooks) c.self.view_is))

pub returns-in_default-clause-duty : goal.returns-in_default-clause-duty
returns-in_default-clause-duty g c = tt

pub returns-in_default-clause-called : goal.returns-in_default-clause-called
returns-in_default-clause-called g c = λ h is. tt

pub invariant_of-self : goal.invariant_of-self
invariant_of-self g c = rw (c.in_default.ensures.same_tree, c.in_default.ensures.same_calls, c.in_default.ensures.same_index) c.self.invariant

pub invariant_of-self-2 : goal.invariant_of-self-2
invariant_of-self-2 g c =
    let t = c.in-Some.ensures.left c.self.inside.base c.self.inside.conns.items c.self.invariant.sound in
    let s = t.gone.sound in
    let apart = calls_apart s.root c.self.inside.base c.self.inside.conns.items t.bare s.distinct in
    record {
      sound = t.sound c.run_next-ran.new.self _ (c.run_next-ran.ensures.stands _ (c.fire.ensures s.hooks s.hooks_are)) (rw t.left_is (fired_waits c.args.ctx s.hooks t.bare s.hook_waits s.none_due apart)) (fired_due c.args.ctx s.hooks t.bare s.hook_waits s.none_due apart);
      rising = t.rising;
      indexed = t.indexed c.self.invariant.indexed;
    }

pub returns-clause-duty : goal.returns-clause-duty
returns-clause-duty g c =
    let duty : IfSome c.run_next-ran.result (λ ran. IfOk ran.1 (λ answer. g.H.Hook.meets c.args.event answer)) = c.run_next-ran.ensures.duty in
    elim c.match-ran.branch [ in-Some-ran w ↦ rw w.result-is (rw w.in-Some-ran.is at duty) | in-None w ↦ rw w.result-is tt ]

pub returns-clause-called : goal.returns-clause-called
returns-clause-called g c = λ h is.
    let s = c.self.invariant.sound in
    let gives : IfSome c.run_next-ran.result (λ ran. g.H.Hook.gives h c.args.event ran.1) =
    fired_gives g.H.Hook.gives c.args.event c.args.ctx h c.self.inside.hooks s.hooks s.hooks_are s.none_due c.run_next-ran.result (ap (λ (v : WithHooks _ _ _). hook_for c.args.ctx v.hooks) c.self.view_is ∙ is) (c.run_next-ran.ensures.called _ (c.fire.ensures s.hooks s.hooks_are)) in
    elim c.match-ran.branch [ in-Some-ran w ↦ rw w.result-is (rw w.in-Some-ran.is at gives) | in-None w ↦ rw w.result-is tt ]

pub returns-clause-ran : goal.returns-clause-ran
returns-clause-ran g c =
    let t = c.in-Some.ensures.left c.self.inside.base c.self.inside.conns.items c.self.invariant.sound in
    let s = t.gone.sound in
    let any : list_any (λ l. same l.ctx c.args.ctx) t.bare ≡ true = found_any c.args.ctx t.life t.bare t.its in
    let ran : is_some c.run_next-ran.result ≡ true = fired_answer c.args.ctx s.hooks t.bare s.hook_waits s.none_due (calls_apart s.root c.self.inside.base c.self.inside.conns.items t.bare s.distinct) g.H.Hook.gives c.args.event c.run_next-ran.result (c.run_next-ran.ensures.called _ (c.fire.ensures s.hooks s.hooks_are)) any in
    let known : true ≡ is_call c.args.ctx c.args.self.now.standing.calls = sym any ∙ sym (any_map (λ d. same d.id c.args.ctx) (seen_call t.between.slots) t.bare) ∙ ap (λ (v : Standing _ _). is_call c.args.ctx v.calls) t.gone.seen_is
    ∙ turned_call c.args.ctx c.args.ctx (λ d. []) (map (seen_call c.self.inside.tree.slots) c.self.inside.calls.items) ∙ ap (λ (v : WithHooks _ _ _). is_call c.args.ctx v.standing.calls) c.self.view_is in
    elim c.match-ran.branch [ in-Some-ran w ↦ rw w.result-is known | in-None w ↦ absurd (not_none c.run_next-ran.result w.in-None.is ran) ]

pub returns-clause-left : goal.returns-clause-left
returns-clause-left g c =
    let s = c.self.invariant.sound in
    let t = c.in-Some.ensures.left c.self.inside.base c.self.inside.conns.items s in
    pair_is _ _ (t.seen_is ∙ ap (λ (v : WithHooks _ _ _). without c.args.ctx v.standing) c.self.view_is)
    (fewer_hooks c.self.inside.hooks c.run_next-ran.new.self s.hooks s.hooks_are c.args.ctx (c.run_next-ran.ensures.stands _ (c.fire.ensures s.hooks s.hooks_are))
    ∙ ap (λ (v : WithHooks _ _ _). filter (λ p. not (same p.0 c.args.ctx)) v.hooks) c.self.view_is)
