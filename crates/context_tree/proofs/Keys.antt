-- Lists of keys, none of which stands twice.
use Rattle.std.proofs.Common.{◌≡◌, refl, sym, ◌∙◌, arith, rules, ℕ, ◌<◌, ◌≤◌, List, [], ◌∷◌, ◌++◌, length, true, false, ⊎_elim}
use Rattle.std.specs.Prelude.{◌||◌, ◌==◌}
use Rattle.std.specs.List.{IsDistinct, AllByRecursion}
use Rattle.std.proofs.lemmas.Bool.{cases_Bool, eqb-true, eq-eqb, or_right, or_left, or_parts, or_from}
use Rattle.std.proofs.lemmas.List.Folds.{list_any-append}
use Rattle.std.proofs.lemmas.Map.Steps.{length-le_from_distinct_below}
use Rattle.std.proofs.Math.Bool.{or-false}
use Rattle.context_tree.specs.Walks.{is_in, AreApart}
use Rattle.context_tree.proofs.Tests.{or_cases}

pub in_append : (k : ℕ) (xs ys : List ℕ) → is_in k (xs ++ ys) ≡ (is_in k xs || is_in k ys)
in_append k xs ys = list_any-append (λ j. k == j) xs ys

pub in_left : (k : ℕ) (xs ys : List ℕ) → is_in k xs ≡ true → is_in k (xs ++ ys) ≡ true
in_left k xs ys is = in_append k xs ys ∙ or_left _ _ is

pub in_right : (k : ℕ) (xs ys : List ℕ) → is_in k ys ≡ true → is_in k (xs ++ ys) ≡ true
in_right k xs ys is = in_append k xs ys ∙ or_right _ _ is

pub in_cases : (k : ℕ) (xs ys : List ℕ) (P : Type 0) → is_in k (xs ++ ys) ≡ true → (is_in k xs ≡ true → P) → (is_in k ys ≡ true → P) → P
in_cases k xs ys P is f g = or_cases _ _ P (sym (in_append k xs ys) ∙ is) f g

pub in_one : (k j : ℕ) → is_in k (j ∷ []) ≡ true → k ≡ j
in_one k j is = eqb-true k j (sym (or-false (k == j)) ∙ is)

pub in_last : (k : ℕ) (xs : List ℕ) → is_in k (xs ++ k ∷ []) ≡ true
in_last k xs = in_right k xs (k ∷ []) (rw (eq-eqb k k refl) refl)

-- what is among these or the one behind them
pub in_push : (k j : ℕ) (xs : List ℕ) (P : Type 0) → is_in k (xs ++ j ∷ []) ≡ true → (is_in k xs ≡ true → P) → (k ≡ j → P) → P
in_push k j xs P is f g = in_cases k xs (j ∷ []) P is f (λ h. g (in_one k j h))

pub not_in : (k : ℕ) (xs : List ℕ) → (is_in k xs ≡ true → ⊥) → is_in k xs ≡ false
not_in k xs other = ⊎_elim (λ (y : is_in k xs ≡ true). absurd (other y)) (λ (n : is_in k xs ≡ false). n) (cases_Bool (is_in k xs))

pub swapped : (a b : ℕ) → (b == a) ≡ false → (a == b) ≡ false
swapped a b is = grind (arith, rules)

pub apart_push : (xs : List ℕ) (k : ℕ) → AreApart xs → is_in k xs ≡ false → AreApart (xs ++ k ∷ [])
apart_push [] k apart out = (refl, tt)
apart_push (x ∷ xs) k apart out =
    let n = or_parts (k == x) (is_in k xs) out in (
      in_append x xs (k ∷ []) ∙ or_from _ _ apart.0 (or-false (x == k) ∙ swapped x k n.0),
      apart_push xs k apart.1 n.1,
    )

-- of a list of which none stands twice, what is behind is not in front
pub apart_front : (xs : List ℕ) (k : ℕ) (ys : List ℕ) → AreApart (xs ++ k ∷ ys) → is_in k xs ≡ false
apart_front [] k ys apart = refl
apart_front (x ∷ xs) k ys apart =
    let n = or_parts (is_in x xs) (is_in x (k ∷ ys)) (sym (in_append x xs (k ∷ ys)) ∙ apart.0) in
    let m = or_parts (x == k) (is_in x ys) n.1 in
    or_from (k == x) (is_in k xs) (swapped k x m.0) (apart_front xs k ys apart.1)

each_other : (x : ℕ) (xs : List ℕ) → is_in x xs ≡ false → AllByRecursion (λ y. (x == y) ≡ false) xs
each_other x [] out = tt
each_other x (y ∷ ys) out = let n = or_parts (x == y) (is_in x ys) out in (n.0, each_other x ys n.1)

pub distinct : (xs : List ℕ) → AreApart xs → IsDistinct (λ a b. a == b) xs
unfolding IsDistinct
distinct [] apart = tt
distinct (x ∷ xs) apart = (each_other x xs apart.0, distinct xs apart.1)

-- keys below a bound are not more than that
pub few_below : (xs : List ℕ) (n : ℕ) → AreApart xs → ((k : ℕ) → is_in k xs ≡ true → k < n) → length xs ≤ n
few_below xs n apart low = length-le_from_distinct_below xs n (distinct xs apart) low
