use Rattle.call_contexts.proofs.Names.{◌≡◌, subst, true, All, IfSome, list_any, IfSome_then, IsNoSooner, AreNoSooner, WithHooks, has_deadline}
use Rattle.call_contexts.proofs.Seeing.{no_sooner, branches_no_sooner}
use Rattle.call_contexts.proofs.Deadlines.{has_first}
use Rattle.call_contexts.proofs.call_contexts.CallContexts.next_deadline.Goals as goal

pub returns-clause-calls : goal.returns-clause-calls
returns-clause-calls g c =
    let s = c.self.invariant.sound in
    subst (λ (v : WithHooks _ _ _). All (IsNoSooner c.next_deadline.result) v.standing.calls) c.self.view_is
    (no_sooner s.laws s c.next_deadline.result (c.next_deadline.ensures.first s.past s.tree_is))

pub returns-clause-branches : goal.returns-clause-branches
returns-clause-branches g c =
    let s = c.self.invariant.sound in
    subst (λ (v : WithHooks _ _ _). All (AreNoSooner c.next_deadline.result) v.standing.calls) c.self.view_is
    (branches_no_sooner s.laws s c.next_deadline.result (c.next_deadline.ensures.first s.past s.tree_is))

pub returns-clause-its : goal.returns-clause-its
returns-clause-its g c =
    let s = c.self.invariant.sound in
    subst (λ (v : WithHooks _ _ _). IfSome c.next_deadline.result (λ first. list_any (has_deadline first) v.standing.calls ≡ true)) c.self.view_is
    (IfSome_then c.next_deadline.result c.next_deadline.ensures.its (λ first its. has_first s.laws s first (its s.past s.tree_is)))
