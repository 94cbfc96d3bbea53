-- The entries by their numbers.
use Rattle.std.proofs.Common.{◌≡◌, refl, sym, ap, ◌∙◌, rules, arith, ℕ, zero, suc, ◌+◌, ◌≤◌, ◌<◌, List, [], ◌∷◌, ◌++◌, length, Bool, true, false, ⊎_elim, append_assoc, length-append, zero-add}
use Rattle.std.specs.Prelude.{All, filter, nat_lt, ◌==◌, if◌then◌else◌}
use Rattle.std.specs.List.{sum_by}
use Rattle.std.specs.List.Sorted.{IsPermutation}
use Rattle.std.proofs.lemmas.Bool.{cases_Bool, cases_eq}
use Rattle.std.proofs.lemmas.Bool.Decides.{nat_tests}
use Rattle.std.proofs.lemmas.List.{append-nil}
use Rattle.std.proofs.lemmas.List.Elements.{All-nil, All-head, All-tail, All-append, All-filter, All-weaker, filter-append, filter_passes}
use Rattle.std.proofs.lemmas.List.Sorted.{sum_by-IsPermutation}
use Rattle.std.proofs.lemmas.List.Sums.{sum_by-cons, length-filter}
use Rattle.timer_heap.specs.declared.heap.Entry.{Entry}
use Rattle.timer_heap.specs.Heap.{entry_at, ranked}

-- ---- what a filter keeps

sum_filtered : (p : Entry → Bool) (f : Entry → ℕ) (xs : List Entry) → sum_by f (filter p xs) ≡ sum_by (λ e. if p e then f e else 0) xs
sum_filtered p f [] = refl
sum_filtered p f (x ∷ xs) = ⊎_elim
    (λ (kept : p x ≡ true).
    let terms : (if p x then f x else 0) ≡ f x = rw kept refl in
    sum_cons kept ∙ ap (λ n. f x + n) (sum_filtered p f xs) ∙ ap (λ n. n + sum_by (λ e. if p e then f e else 0) xs) (sym terms) ∙ sym (sum_by-cons (λ e. if p e then f e else 0) x xs))
    (λ (other : p x ≡ false).
    let terms : (if p x then f x else 0) ≡ 0 = rw other refl in
    rw other (sum_filtered p f xs) ∙ sym (zero-add _) ∙ ap (λ n. n + sum_by (λ e. if p e then f e else 0) xs) (sym terms) ∙ sym (sum_by-cons (λ e. if p e then f e else 0) x xs))
    (cases_Bool (p x))
  where
    sum_cons : p x ≡ true → sum_by f (filter p (x ∷ xs)) ≡ f x + sum_by f (filter p xs)
    sum_cons kept = rw kept (sum_by-cons f x (filter p xs))

sum_permuted : (p : Entry → Bool) (f : Entry → ℕ) (xs ys : List Entry) → IsPermutation xs ys → sum_by f (filter p ys) ≡ sum_by f (filter p xs)
sum_permuted p f xs ys same = sum_filtered p f ys ∙ sum_by-IsPermutation (λ e. if p e then f e else 0) xs ys same ∙ sym (sum_filtered p f xs)

pub length_permuted : (p : Entry → Bool) (xs ys : List Entry) → IsPermutation xs ys → length (filter p ys) ≡ length (filter p xs)
length_permuted p xs ys same = length-filter p ys ∙ sum_by-IsPermutation (λ e. if p e then 1 else 0) xs ys same ∙ sym (length-filter p xs)

same_entry : (x y : Entry) → y.at ≡ x.at → y.id ≡ x.id → y.number ≡ x.number → y ≡ x
same_entry x y p q r = λ i. record { at = p i; id = q i; number = r i }

plus_zero : (a b : ℕ) → 0 + a ≡ 0 + b → a ≡ b
plus_zero a b is = omega arith

-- lists of one entry at most, of equal sums by each measure
one_same : (xs ys : List Entry) → length xs ≤ 1 → length ys ≡ length xs → ((f : Entry → ℕ) → sum_by f ys ≡ sum_by f xs) → ys ≡ xs
one_same [] [] short long sums = refl
one_same [] (y ∷ ys) short long sums = absurd (omega arith)
one_same (x ∷ []) [] short long sums = absurd (omega arith)
one_same (x ∷ []) (y ∷ []) short long sums =
    ap (λ e. e ∷ []) (same_entry x y (plus_zero y.at x.at (sums (λ e. e.at))) (plus_zero y.id x.id (sums (λ e. e.id))) (plus_zero y.number x.number (sums (λ e. e.number))))
one_same (x ∷ []) (y ∷ z ∷ ys) short long sums = absurd (omega arith)
one_same (x ∷ z ∷ xs) ys short long sums = absurd (omega arith)

filter_permuted : (p : Entry → Bool) (xs ys : List Entry) → IsPermutation xs ys → length (filter p xs) ≤ 1 → filter p ys ≡ filter p xs
filter_permuted p xs ys same short = one_same (filter p xs) (filter p ys) short (length_permuted p xs ys same) (λ f. sum_permuted p f xs ys same)

pub filter_none : (p : Entry → Bool) (xs : List Entry) → All (λ e. p e ≡ false) xs → filter p xs ≡ []
filter_none p [] none = refl
filter_none p (x ∷ xs) none = rw (All-head (λ e. p e ≡ false) x xs none) (filter_none p xs (All-tail (λ e. p e ≡ false) x xs none))

pub filter_all : (p : Entry → Bool) (xs : List Entry) → All (λ e. p e ≡ true) xs → filter p xs ≡ xs
filter_all p [] all = refl
filter_all p (x ∷ xs) all = rw (All-head (λ e. p e ≡ true) x xs all) (ap (λ l. x ∷ l) (filter_all p xs (All-tail (λ e. p e ≡ true) x xs all)))

filter_turned : (p q : Entry → Bool) (xs : List Entry) → filter p (filter q xs) ≡ filter q (filter p xs)
filter_turned p q [] = refl
filter_turned p q (x ∷ xs) = ⊎_elim
    (λ (a : p x ≡ true). ⊎_elim
    (λ (b : q x ≡ true). rw (a, b, a) (ap (λ l. x ∷ l) (filter_turned p q xs)))
    (λ (b : q x ≡ false). rw (a, b) (filter_turned p q xs))
    (cases_Bool (q x)))
    (λ (a : p x ≡ false). ⊎_elim
    (λ (b : q x ≡ true). rw (a, b, a) (filter_turned p q xs))
    (λ (b : q x ≡ false). rw (a, b) (filter_turned p q xs))
    (cases_Bool (q x)))
    (cases_Bool (p x))

nothing_there : (xs : List Entry) → length xs ≤ 0 → xs ≡ []
nothing_there [] short = refl
nothing_there (x ∷ xs) short = absurd (omega arith)

-- where a filter keeps one entry at most, it keeps the one that passes
pub filter_one : (p : Entry → Bool) (xs : List Entry) (k : ℕ) → k < length xs → p (entry_at xs k) ≡ true → length (filter p xs) ≤ 1 → filter p xs ≡ entry_at xs k ∷ []
filter_one p [] k k_in passes short = absurd (omega arith)
filter_one p (x ∷ xs) zero k_in passes short =
    let fewer = rw passes at short in
    rw passes (ap (λ l. x ∷ l) (nothing_there (filter p xs) (omega arith)))
filter_one p (x ∷ xs) (suc k) k_in passes short = ⊎_elim
    (λ (kept : p x ≡ true).
    let fewer = rw kept at short in
    let one = filter_one p xs k (omega arith) passes (omega arith) in
    let long = ap length one in
    absurd (omega arith))
    (λ (other : p x ≡ false).
    let fewer = rw other at short in
    rw other (filter_one p xs k (omega arith) passes fewer))
    (cases_Bool (p x))

-- ---- the entries by their numbers

pub ranked_permuted : (n : ℕ) (xs ys : List Entry) → IsPermutation xs ys → ((k : ℕ) → length (filter (λ e. e.number == k) xs) ≤ 1) → ranked n ys ≡ ranked n xs
unfolding ranked
ranked_permuted zero xs ys same apart = refl
ranked_permuted (suc n) xs ys same apart =
    ap (λ l. l ++ filter (λ e. e.number == n) ys) (ranked_permuted n xs ys same apart) ∙ ap (λ l. ranked n xs ++ l) (filter_permuted (λ e. e.number == n) xs ys same (apart n))

pub ranked_all : (P : Entry → Type 0) (n : ℕ) (xs : List Entry) → All P xs → All P (ranked n xs)
unfolding ranked
ranked_all P zero xs all = All-nil P
ranked_all P (suc n) xs all = All-append P (ranked n xs) (filter (λ e. e.number == n) xs) (ranked_all P n xs all) (All-filter (λ e. e.number == n) P xs all)

below_next : (a n : ℕ) → (a == n) ≡ true → a < suc n
below_next a n is = grind (arith, rules)

pub ranked_below : (n : ℕ) (xs : List Entry) → All (λ e. e.number < n) (ranked n xs)
unfolding ranked
ranked_below zero xs = All-nil (λ e. e.number < zero)
ranked_below (suc n) xs = All-append (λ e. e.number < suc n) (ranked n xs) (filter (λ e. e.number == n) xs)
    (All-weaker (λ e. e.number < n) (λ e. e.number < suc n) (λ e low. omega arith) (ranked n xs) (ranked_below n xs))
    (All-weaker (λ e. (e.number == n) ≡ true) (λ e. e.number < suc n) (λ e is. below_next e.number n is) (filter (λ e. e.number == n) xs) (filter_passes (λ (e : Entry). e.number == n) xs))

pub ranked_filter : (q : Entry → Bool) (n : ℕ) (xs : List Entry) → filter q (ranked n xs) ≡ ranked n (filter q xs)
unfolding ranked
ranked_filter q zero xs = refl
ranked_filter q (suc n) xs =
    filter-append q (ranked n xs) (filter (λ e. e.number == n) xs)
    ∙ ap (λ l. l ++ filter q (filter (λ e. e.number == n) xs)) (ranked_filter q n xs)
    ∙ ap (λ l. ranked n (filter q xs) ++ l) (filter_turned q (λ e. e.number == n) xs)

not_same : (a n : ℕ) → n < a → (a == n) ≡ false
not_same a n far = grind (arith, rules)

-- an entry more, of a number that is not reached
pub ranked_push : (n : ℕ) (xs : List Entry) (e : Entry) → n ≤ e.number → ranked n (xs ++ e ∷ []) ≡ ranked n xs
unfolding ranked
ranked_push zero xs e far = refl
ranked_push (suc n) xs e far =
    ap (λ l. l ++ filter (λ e. e.number == n) (xs ++ e ∷ [])) (ranked_push n xs e (omega arith))
    ∙ ap (λ l. ranked n xs ++ l) (filter-append (λ (e : Entry). e.number == n) xs (e ∷ []) ∙ rw (not_same e.number n (omega arith)) (append-nil _))

-- what stands before and behind an entry that has its number alone
pub ranked_split : (n : ℕ) (xs : List Entry) (e : Entry) → e.number < n → filter (λ d. d.number == e.number) xs ≡ e ∷ [] → (after : List Entry) × (ranked n xs ≡ ranked e.number xs ++ e ∷ after)
unfolding ranked
ranked_split zero xs e low alone = absurd (omega arith)
ranked_split (suc n) xs e low alone = ⊎_elim
    (λ (same : e.number ≡ n). ([], ap (λ k. ranked k xs ++ filter (λ d. d.number == k) xs) (sym same) ∙ ap (λ l. ranked e.number xs ++ l) alone))
    (λ (other : e.number ≡ n → ⊥).
    let rest = ranked_split n xs e (omega arith) alone in
    (rest.0 ++ filter (λ d. d.number == n) xs, ap (λ l. l ++ filter (λ d. d.number == n) xs) rest.1 ∙ append_assoc (ranked e.number xs) (e ∷ rest.0) (filter (λ d. d.number == n) xs)))
    (cases_eq e.number n)

-- how many there are
below_more : (n : ℕ) (xs : List Entry) → length (filter (λ e. nat_lt e.number (suc n)) xs) ≡ length (filter (λ e. nat_lt e.number n) xs) + length (filter (λ e. e.number == n) xs)
below_more n [] = refl
below_more n (x ∷ xs) = grind (arith, nat_tests, below_more n xs)

length_below : (n : ℕ) (xs : List Entry) → length (ranked n xs) ≡ length (filter (λ e. nat_lt e.number n) xs)
unfolding ranked
length_below zero xs = sym (ap length (filter_none (λ e. nat_lt e.number zero) xs (λ k d k_in. grind (arith, nat_tests))))
length_below (suc n) xs = length-append (ranked n xs) (filter (λ e. e.number == n) xs) ∙ ap (λ k. k + length (filter (λ e. e.number == n) xs)) (length_below n xs) ∙ sym (below_more n xs)

lower_is : (a n : ℕ) → a < n → nat_lt a n ≡ true
lower_is a n low = grind (arith, rules)

pub length_ranked : (n : ℕ) (xs : List Entry) → All (λ e. e.number < n) xs → length (ranked n xs) ≡ length xs
length_ranked n xs low = length_below n xs ∙ ap length (filter_all (λ e. nat_lt e.number n) xs (All-weaker (λ e. e.number < n) (λ e. nat_lt e.number n ≡ true) (λ e l. lower_is e.number n l) xs low))
