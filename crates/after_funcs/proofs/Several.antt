-- What several fires leave waiting.
use Rattle.std.proofs.Common.{◌≡◌, Bool, true, false, not, ◌||◌, List, [], ◌∷◌, ◌++◌, map, refl, sym, ap, ◌∙◌, ⊎_elim}
use Rattle.std.specs.List.{filter, list_any}
use Rattle.std.proofs.lemmas.Bool.{cases_Bool}
use Rattle.context_tree.specs.declared.id.CtxId.{CtxId}
use Rattle.after_funcs.specs.Hooks.{Operation, Fire, is_on, waiting}

-- a filter that loses nothing
loses_none : {A : Type 0} (xs : List A) → filter (λ x. true) xs ≡ xs
loses_none [] = refl
loses_none (x ∷ xs) = ap (λ l. x ∷ l) (loses_none xs)

-- two filters, one after the other
both_filters : {A : Type 0} (p q : A → Bool) (xs : List A) → filter (λ x. not (p x)) (filter (λ x. not (q x)) xs) ≡ filter (λ x. not (p x || q x)) xs
both_filters p q [] = refl
both_filters p q (x ∷ xs) =
    let rest = both_filters p q xs in
    ⊎_elim
    (λ (here : q x ≡ true). ⊎_elim (λ (also : p x ≡ true). rw (here, also) rest) (λ (not_p : p x ≡ false). rw (here, not_p) rest) (cases_Bool (p x)))
    (λ (not_q : q x ≡ false). ⊎_elim (λ (also : p x ≡ true). rw (not_q, also) rest) (λ (not_p : p x ≡ false). rw (not_q, not_p) (ap (λ l. x ∷ l) rest)) (cases_Bool (p x)))
    (cases_Bool (q x))

pub after_fires : {H : Type 0} (past : List (Operation H)) (ended : List CtxId)
    → waiting (map Fire ended ++ past) ≡ filter (λ r. not (list_any (λ ctx. is_on ctx r) ended)) (waiting past)
after_fires past [] = sym (loses_none (waiting past))
after_fires past (ctx ∷ ended) =
    ap (filter (λ r. not (is_on ctx r))) (after_fires past ended)
    ∙ both_filters (is_on ctx) (λ r. list_any (λ c. is_on c r) ended) (waiting past)
