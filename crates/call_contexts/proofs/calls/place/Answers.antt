use Rattle.call_contexts.proofs.Names.{◌∙◌, sym, rules, subst, Err, Ok, Life}
use Rattle.std.specs.List.Sorted.{IsBinarySearchResult}
use Rattle.std.specs.Ordering.{nat_cmp}
use Rattle.std.proofs.lemmas.List.Sorted.{answers_always}
use Rattle.call_contexts.proofs.Order.{another, missed}
use Rattle.call_contexts.proofs.calls.place.Goals as goal

pub returns-in_default-clause-none : goal.returns-in_default-clause-none
returns-in_default-clause-none c =
    missed c.args.ctx c.args.calls.now c.requires c.in_default.field-0
    (subst (λ n. IsBinarySearchResult (λ (l : Life). nat_cmp l.ctx.0 n) c.args.calls.now (Err c.in_default.field-0)) c.number-number.ensures
    (c.in_default.ensures.position (λ (l : Life). l.ctx.0) (answers_always _ _ _ (λ f a r g called. search rules))))

pub returns-else-eq-clause-none : goal.returns-else-eq-clause-none
returns-else-eq-clause-none c =
    another c.args.ctx c.args.calls.now c.requires c.in-Ok.place c.index-calls-place.result c.in-Ok.ensures.bound
    (subst (λ n. IsBinarySearchResult (λ (l : Life). nat_cmp l.ctx.0 n) c.args.calls.now (Ok c.in-Ok.place)) c.number-number.ensures
    (c.in-Ok.ensures.position (λ (l : Life). l.ctx.0) (answers_always _ _ _ (λ f a r g called. search rules))))
    (sym c.eq.ensures ∙ c.if-eq.false)

pub returns-else-eq-clause-some : goal.returns-else-eq-clause-some
returns-else-eq-clause-some c = tt

pub returns-else-eq-clause-its : goal.returns-else-eq-clause-its
returns-else-eq-clause-its c = tt

pub returns-in_default-clause-some : goal.returns-in_default-clause-some
returns-in_default-clause-some c = tt

pub returns-in_default-clause-its : goal.returns-in_default-clause-its
returns-in_default-clause-its c = tt

pub returns-then-eq-clause-some : goal.returns-then-eq-clause-some
returns-then-eq-clause-some c = c.in-Ok.ensures.bound

pub returns-then-eq-clause-none : goal.returns-then-eq-clause-none
returns-then-eq-clause-none c = tt
