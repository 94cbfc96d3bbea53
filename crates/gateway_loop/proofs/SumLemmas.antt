-- Sums over places.
use Rattle.gateway_loop.proofs.Words.{◌≡◌, ◌≢◌, ℕ, zero, suc, ◌+◌, List, [], ◌∷◌, map, Option, None, refl, sym, ap, ◌∙◌, arith, sum_by, slice_index_or, sum_by-cons}

module _ {A : Type 0} (f : Option A → ℕ) (none : f None ≡ 0) where
  abbrev look : List (Option A) → ℕ → Option A
  look xs i = slice_index_or xs i None

  sum_none : (xs : List (Option A)) → ((j : ℕ) → look xs j ≡ None) → sum_by f xs ≡ 0
  sum_none [] empty = refl
  sum_none (x ∷ xs) empty =
      let head : f x ≡ 0 = ap f (empty zero) ∙ none in
      let rest = sum_none xs (λ j. empty (suc j)) in
      sum_by-cons f x xs ∙ omega (arith, head, rest)

  sum_same : (xs ys : List (Option A)) → ((j : ℕ) → look ys j ≡ look xs j) → sum_by f ys ≡ sum_by f xs
  sum_same [] ys same = sum_none ys same
  sum_same (x ∷ xs) [] same = sym (sum_none (x ∷ xs) (λ j. sym (same j)))
  sum_same (x ∷ xs) (y ∷ ys) same =
      let rest = sum_same xs ys (λ j. same (suc j)) in
      sum_by-cons f y ys ∙ ap (λ o. f o + sum_by f ys) (same zero) ∙ ap (λ n. f x + n) rest ∙ sym (sum_by-cons f x xs)

  zero_is_not : (k : ℕ) → zero ≡ suc k → ⊥
  zero_is_not k e = omega (arith, e)

  suc_is_not : (j k : ℕ) → (j ≡ k → ⊥) → suc j ≡ suc k → ⊥
  suc_is_not j k differ e = differ (omega (arith, e))

  -- where one place changed, the sum changed by its own
  pub sum_put : (xs ys : List (Option A)) (i : ℕ) → ((j : ℕ) → j ≢ i → look ys j ≡ look xs j) → sum_by f ys + f (look xs i) ≡ sum_by f xs + f (look ys i)
  sum_put [] [] i same = refl
  sum_put [] (y ∷ ys) zero same =
      let rest = sum_none ys (λ j. same (suc j) (λ e. zero_is_not j (sym e))) in
      ap (λ n. n + f None) (sum_by-cons f y ys) ∙ omega (arith, none, rest)
  sum_put [] (y ∷ ys) (suc i) same =
      let rest = sum_put [] ys i (λ j differ. same (suc j) (suc_is_not j i differ)) in
      let head : f y ≡ 0 = ap f (same zero (zero_is_not i)) ∙ none in
      ap (λ n. n + f None) (sum_by-cons f y ys) ∙ omega (arith, head, rest)
  sum_put (x ∷ xs) [] zero same =
      let rest = sum_none xs (λ j. sym (same (suc j) (λ e. zero_is_not j (sym e)))) in
      omega (arith, none, rest) ∙ ap (λ n. n + f None) (sym (sum_by-cons f x xs))
  sum_put (x ∷ xs) [] (suc i) same =
      let rest = sum_put xs [] i (λ j differ. same (suc j) (suc_is_not j i differ)) in
      let head : f x ≡ 0 = ap f (sym (same zero (zero_is_not i))) ∙ none in
      omega (arith, head, rest) ∙ ap (λ n. n + f None) (sym (sum_by-cons f x xs))
  sum_put (x ∷ xs) (y ∷ ys) zero same =
      let rest = sum_same xs ys (λ j. same (suc j) (λ e. zero_is_not j (sym e))) in
      ap (λ n. n + f x) (sum_by-cons f y ys) ∙ omega (arith, rest) ∙ ap (λ n. n + f y) (sym (sum_by-cons f x xs))
  sum_put (x ∷ xs) (y ∷ ys) (suc i) same =
      let rest = sum_put xs ys i (λ j differ. same (suc j) (suc_is_not j i differ)) in
      let head : f y ≡ f x = ap f (same zero (zero_is_not i)) in
      ap (λ n. n + f (look xs i)) (sum_by-cons f y ys) ∙ omega (arith, head, rest) ∙ ap (λ n. n + f (look ys i)) (sym (sum_by-cons f x xs))

pub sum_map : {A B : Type 0} (f : B → ℕ) (g : A → B) (xs : List A) → sum_by f (map g xs) ≡ sum_by (λ x. f (g x)) xs
sum_map f g [] = refl
sum_map f g (x ∷ xs) = sum_by-cons f (g x) (map g xs) ∙ ap (λ n. f (g x) + n) (sum_map f g xs) ∙ sym (sum_by-cons (λ y. f (g y)) x xs)
