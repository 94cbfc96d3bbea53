use Rattle.call_contexts.proofs.Names.{ap, sym, ◌∙◌, first_of, IfSome_then, WithHooks, call_for, is_some}
use Rattle.call_contexts.proofs.Indexing.{call_indexed, none_of_conn, none_then}
use Rattle.call_contexts.proofs.call_contexts.CallContexts.first_call.Goals as goal

pub returns-clause-its : goal.returns-clause-its
returns-clause-its g c =
    let s = c.self.inside in
    IfSome_then c.first.result c.first.ensures.its (λ id is. (is.0, ap (λ (v : WithHooks _ _ _). is_some (call_for id v.standing.calls)) (sym c.self.view_is) ∙ call_indexed id s.calls.items c.self.invariant.indexed s.tree.slots is.1))

pub returns-clause-none : goal.returns-clause-none
returns-clause-none g c =
    let s = c.self.inside in
    none_then c.first.result c.first.ensures.none (λ none. ap (λ (v : WithHooks _ _ _). first_of c.args.number v.standing.calls) (sym c.self.view_is) ∙ none_of_conn s.tree.slots c.args.number s.calls.items c.self.invariant.indexed none)
