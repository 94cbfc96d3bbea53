use Rattle.call_contexts.proofs.Names.{◌∙◌, ap, sym, ◌≡◌, None, true, is_some, option_and_then, same_Some, subst, option_copied, held, line, nearest, WithHooks, request_for, value_in, life_for}
use Rattle.call_contexts.proofs.Indexing.{call_at, none_indexed}
use Rattle.call_contexts.proofs.Leaving.{call_known, request_told, asked_held, none_is_some}
use Rattle.call_contexts.proofs.Seeing.{asked}
use Rattle.call_contexts.proofs.call_contexts.CallContexts.request_id.Goals as goal

pub returns-in_default : goal.returns-in_default
returns-in_default g c =
    let none : life_for c.args.id.now c.self.inside.calls.items ≡ None = none_indexed c.args.id.now c.self.inside.calls.items c.self.invariant.indexed (sym c.find.ensures ∙ c.in_default.is) in
    sym (asked c.self.inside.tree.slots (λ d. d.request_id) c.args.id.now c.self.inside.calls.items ∙ ap (option_and_then (λ l. option_and_then (value_in c.self.inside.tree.slots) l.holder)) none)
    ∙ ap (λ (v : WithHooks _ _ _). request_for c.args.id.now v.standing.calls) c.self.view_is

pub unreachable-requires : goal.unreachable-requires
unreachable-requires g c =
    let s = c.self.invariant.sound in
    let x = c.in-Some.ctx in
    let its = call_at c.args.id.now c.self.inside.calls.items c.self.invariant.indexed x (sym c.find.ensures ∙ c.in-Some.is) in
    let known : is_some (held x s.past) ≡ true = subst (λ y. is_some (held y s.past) ≡ true) its.2 (call_known s c.args.id.now its.0 its.1) in
    none_is_some (c.in-Err.ensures s.past s.tree_is ∙ asked_held (held x s.past) (nearest 0 (line x s.past)) known)

pub returns : goal.returns
returns g c =
    let s = c.self.invariant.sound in
    let x = c.in-Some.ctx in
    let its = call_at c.args.id.now c.self.inside.calls.items c.self.invariant.indexed x (sym c.find.ensures ∙ c.in-Some.is) in
    let known : is_some (held x s.past) ≡ true = subst (λ y. is_some (held y s.past) ≡ true) its.2 (call_known s c.args.id.now its.0 its.1) in
    same_Some (option_copied c.in-Ok.request_id) (nearest 0 (line x s.past))
    (c.in-Ok.ensures s.past s.tree_is ∙ asked_held (held x s.past) (nearest 0 (line x s.past)) known)
    ∙ ap (λ y. nearest 0 (line y s.past)) (sym its.2) ∙ request_told s c.args.id.now its.0 its.1 ∙ ap (λ (v : WithHooks _ _ _). request_for c.args.id.now v.standing.calls) c.self.view_is
