use Rattle.call_contexts.proofs.Names.{◌∙◌, ap, sym, ◌≡◌, None, Some, true, false, is_some, if◌then◌else◌, option_and_then, option_map, WithHooks, cause_in, ended_branch, if_before, life_for, soonest_of}
use Rattle.call_contexts.proofs.Sooner.{ended_found, kept_before, soonest_held, soonest_told}
use Rattle.call_contexts.proofs.call_contexts.CallContexts.ended_branch.Goals as goal

pub returns-in_err-life : goal.returns-in_err-life
returns-in_err-life g c =
    let slots = c.self.inside.tree.slots in
    let none : life_for c.args.id.now c.self.inside.calls.items ≡ None = ap (life_for c.args.id.now) (sym c.deref.ensures.value) ∙ sym c.named.ensures ∙ ap (option_map (λ l. l.now)) c.in_err-life.was in
    c.from_residual.ensures
    ∙ sym (ended_found slots c.args.id.now c.self.inside.calls.items ∙ ap (option_and_then (λ l. kept_before slots l.deadline (soonest_of l.twigs))) none)
    ∙ ap (λ (v : WithHooks _ _ _). ended_branch c.args.id.now v.standing.calls) c.self.view_is

pub returns-in_err-twig : goal.returns-in_err-twig
returns-in_err-twig g c =
    let slots = c.self.inside.tree.slots in
    let l = c.in_ok-life.life.now in
    let at : life_for c.args.id.now c.self.inside.calls.items ≡ Some l = ap (life_for c.args.id.now) (sym c.deref.ensures.value) ∙ sym c.named.ensures ∙ ap (option_map (λ l. l.now)) c.in_ok-life.was in
    let none : soonest_of l.twigs ≡ None = sym c.soonest.ensures ∙ c.in_err-twig.was in
    c.from_residual-in_err-twig.ensures
    ∙ sym (ended_found slots c.args.id.now c.self.inside.calls.items ∙ ap (option_and_then (λ l. kept_before slots l.deadline (soonest_of l.twigs))) at
    ∙ ap (kept_before slots l.deadline) none)
    ∙ ap (λ (v : WithHooks _ _ _). ended_branch c.args.id.now v.standing.calls) c.self.view_is

pub returns-then-is_some : goal.returns-then-is_some
returns-then-is_some g c =
    let s = c.self.invariant.sound in
    let slots = c.self.inside.tree.slots in
    let l = c.in_ok-life.life.now in
    let t = c.in_ok-twig.twig in
    let at : life_for c.args.id.now c.self.inside.calls.items ≡ Some l = ap (life_for c.args.id.now) (sym c.deref.ensures.value) ∙ sym c.named.ensures ∙ ap (option_map (λ l. l.now)) c.in_ok-life.was in
    let found : soonest_of l.twigs ≡ Some t = sym c.soonest.ensures ∙ c.in_ok-twig.was in
    let cause : c.cause_of.result ≡ cause_in slots t.ctx = c.cause_of.ensures s.past s.tree_is (soonest_held s c.args.id.now l at t found) ∙ soonest_told s c.args.id.now l at t found in
    let some : is_some (cause_in slots t.ctx) ≡ true = ap is_some (sym cause) ∙ sym c.is_some.ensures ∙ c.if-is_some.true in
    c.if_before.ensures
    ∙ sym (ended_found slots c.args.id.now c.self.inside.calls.items ∙ ap (option_and_then (λ l. kept_before slots l.deadline (soonest_of l.twigs))) at
    ∙ ap (kept_before slots l.deadline) found ∙ ap (λ b. if b then if_before l.deadline t.at t.branch else None) some)
    ∙ ap (λ (v : WithHooks _ _ _). ended_branch c.args.id.now v.standing.calls) c.self.view_is

pub returns-else-is_some : goal.returns-else-is_some
returns-else-is_some g c =
    let s = c.self.invariant.sound in
    let slots = c.self.inside.tree.slots in
    let l = c.in_ok-life.life.now in
    let t = c.in_ok-twig.twig in
    let at : life_for c.args.id.now c.self.inside.calls.items ≡ Some l = ap (life_for c.args.id.now) (sym c.deref.ensures.value) ∙ sym c.named.ensures ∙ ap (option_map (λ l. l.now)) c.in_ok-life.was in
    let found : soonest_of l.twigs ≡ Some t = sym c.soonest.ensures ∙ c.in_ok-twig.was in
    let cause : c.cause_of.result ≡ cause_in slots t.ctx = c.cause_of.ensures s.past s.tree_is (soonest_held s c.args.id.now l at t found) ∙ soonest_told s c.args.id.now l at t found in
    let some : is_some (cause_in slots t.ctx) ≡ false = ap is_some (sym cause) ∙ sym c.is_some.ensures ∙ c.if-is_some.false in
    sym (ended_found slots c.args.id.now c.self.inside.calls.items ∙ ap (option_and_then (λ l. kept_before slots l.deadline (soonest_of l.twigs))) at
    ∙ ap (kept_before slots l.deadline) found ∙ ap (λ b. if b then if_before l.deadline t.at t.branch else None) some)
    ∙ ap (λ (v : WithHooks _ _ _). ended_branch c.args.id.now v.standing.calls) c.self.view_is

pub named-requires : goal.named-requires
named-requires g c = rw c.deref.ensures.value (record { rising = c.self.invariant.rising; indexed = c.self.invariant.indexed })
