-- The list of a run's events, and the connections that it lists as broken.
use Rattle.gateway_run.proofs.Names.{◌≡◌, ℕ, zero, suc, ◌+◌, ◌<◌, ◌≤◌, Bool, true, false, List, [], ◌∷◌, ◌++◌, map, refl, sym, ap, ◌∙◌, arith, append-nil, append_assoc, ⊎_elim, Result, Ok, Err, length, ◌||◌, if◌then◌else◌, ◌==◌, filter, nat_lt, ◌↔◌, count_by, range_with_len, cases_Bool, eq-eqb, eqb-true, ltb-true, ltb-false, IsRising, is_opening, length-reverse, reverse-append, Event, is_listed, newest_first, nat_tests}
use Rattle.std.proofs.lemmas.List.Elements.{filter-append}
use Rattle.std.proofs.lemmas.List.FromFn.{map-range_with_len_more}
use Rattle.std.specs.Result.{IsErrAnd}
use Rattle.std.proofs.lemmas.List.Sums.{sum_by-cons}
use Rattle.gateway_model.specs.declared.run.RunError.{RunError}
use Rattle.gateway_model.specs.declared.run.RunError.TheVariants.{Memory, Stocks}
use Rattle.gateway_run.specs.Running.{openings_at}

range_more : (a n : ℕ) → range_with_len a (n + 1) ≡ range_with_len a n ++ (a + n) ∷ []
range_more a n =
    let same : (xs : List ℕ) → map (λ i. i) xs ≡ xs = same_all in
    sym (same (range_with_len a (n + 1))) ∙ map-range_with_len_more (λ i. i) a n (a + n) refl ∙ ap (λ xs. xs ++ (a + n) ∷ []) (same (range_with_len a n))
  where
    same_all : (xs : List ℕ) → map (λ i. i) xs ≡ xs
    same_all [] = refl
    same_all (x ∷ xs) = ap (λ ys. x ∷ ys) (same_all xs)

-- one more connection, which is broken or not
pub broken_next : (p : ℕ → Bool) (n : ℕ) (first items new : List ℕ) → items ≡ first ++ filter p (range_with_len 0 n) → new ≡ (if p n then items ++ n ∷ [] else items)
    → new ≡ first ++ filter p (range_with_len 0 (n + 1))
broken_next p n first items new before new_is = grind (arith, nat_tests, range_more, filter-append, append_assoc, append-nil)

-- some of the numbers from k on, behind one that is lower
rising_behind : (p : ℕ → Bool) (low k n : ℕ) → low < k → IsRising (low ∷ filter p (range_with_len k n))
rising_behind p low k zero lt = tt
rising_behind p low k (suc n) lt = grind (arith, rising_behind p k (k + 1) n (omega arith), rising_behind p low (k + 1) n (omega (arith, lt)))

pub filter_rising : (p : ℕ → Bool) (k n : ℕ) → IsRising (filter p (range_with_len k n))
filter_rising p k zero = tt
filter_rising p k (suc n) = grind (arith, nat_tests, filter_rising p (k + 1) n, rising_behind)

-- what is listed of some numbers is one of them
pub listed_below : (p : ℕ → Bool) (k n c : ℕ) → is_listed c (filter p (range_with_len k n)) ≡ true → c < k + n
listed_below p k zero c e = absurd (cc)
listed_below p k (suc n) c e = by_first (p k) refl (λ h. let lt : c < (k + 1) + n = listed_below p (k + 1) n c h in omega arith)
  where
    by_first : (b : Bool) → p k ≡ b → (is_listed c (filter p (range_with_len (k + 1) n)) ≡ true → c < k + suc n) → c < k + suc n
    by_first false b_is rest = rest (rw b_is at e)
    by_first true b_is rest =
        ⊎_elim (λ (here : (k == c) ≡ true). let same : k ≡ c = eqb-true k c here in omega arith)
        (λ (other : (k == c) ≡ false). rest (let h : is_listed c (k ∷ filter p (range_with_len (k + 1) n)) ≡ true = rw b_is at e in rw other at h))
        (cases_Bool (k == c))

pub pushed_if : (b : Bool) (items new : List ℕ) (n : ℕ) → b ≡ true → new ≡ items ++ n ∷ [] → new ≡ (if b then items ++ n ∷ [] else items)
pushed_if true items new n yes_broken e = e
pushed_if false items new n yes_broken e = absurd (cc)

pub kept_if : (b : Bool) (items new : List ℕ) (n : ℕ) → b ≡ false → new ≡ items → new ≡ (if b then items ++ n ∷ [] else items)
kept_if false items new n fine e = e
kept_if true items new n fine e = absurd (cc)

above : (p : ℕ → Bool) (k n c : ℕ) → c < k → is_listed c (filter p (range_with_len k n)) ≡ false
above p k zero c lt = refl
above p k (suc n) c lt = grind (arith, above p (k + 1) n c (omega (arith, lt)))

-- a number of the range is listed where it has the property
pub listed_at : (p : ℕ → Bool) (k n c : ℕ) → k ≤ c → c < k + n → is_listed c (filter p (range_with_len k n)) ≡ p c
listed_at p k zero c le lt = absurd (omega (arith, le, lt))
listed_at p k (suc n) c le lt = ⊎_elim
    (λ (here : (k == c) ≡ true).
    let same : k ≡ c = eqb-true k c here in
    by_first (p k) refl here (above p (k + 1) n c (omega (arith, same))) ∙ ap p same)
    (λ (other : (k == c) ≡ false).
    by_other (p k) other ∙ listed_at p (k + 1) n c (next (λ same. let clash : true ≡ false = sym (eq-eqb k c same) ∙ other in cc)) (omega (arith, lt)))
    (cases_Bool (k == c))
  where
    by_first : (b : Bool) → p k ≡ b → (k == c) ≡ true → is_listed c (filter p (range_with_len (k + 1) n)) ≡ false
        → is_listed c (if b then k ∷ filter p (range_with_len (k + 1) n) else filter p (range_with_len (k + 1) n)) ≡ p k
    by_first true e here rest = ap (λ b. b || is_listed c (filter p (range_with_len (k + 1) n))) here ∙ sym e
    by_first false e here rest = rest ∙ sym e

    by_other : (b : Bool) → (k == c) ≡ false
        → is_listed c (if b then k ∷ filter p (range_with_len (k + 1) n) else filter p (range_with_len (k + 1) n)) ≡ is_listed c (filter p (range_with_len (k + 1) n))
    by_other true other = ap (λ b. b || is_listed c (filter p (range_with_len (k + 1) n))) other
    by_other false other = refl

    next : (k ≡ c → ⊥) → k + 1 ≤ c
    next ne = ⊎_elim (λ (lt : nat_lt k c ≡ true). let x = ltb-true k c lt in omega (arith, x))
        (λ (ge : nat_lt k c ≡ false). absurd (ne (let x = ltb-false k c ge in omega (arith, x, le)))) (cases_Bool (nat_lt k c))

-- ---- the events, newest first

pub newest_more : (es : List Event) (e : Event) → newest_first (es ++ e ∷ []) ≡ e ∷ newest_first es
newest_more es e = reverse-append es (e ∷ [])

pub newest_size : (es : List Event) → length (newest_first es) ≡ length es
newest_size es = length-reverse es

-- ---- one stock for each opening

module _ {T : Type 0} where
  pub no_stocks : (r : Result T RunError) (n m : ℕ) → IsErrAnd r (λ e. e ≡ Memory) → n ≡ m → (r ≡ Err Stocks) ↔ ((n == m) ≡ false)
  no_stocks (Ok t) n m told same = absurd told
  no_stocks (Err e) n m told same = (λ is. absurd (cc), λ off. absurd (let on = eq-eqb n m same in cc))

  pub ok_stocked : (t : T) (n m : ℕ) → n ≡ m → (Ok t ≡ Err Stocks) ↔ ((n == m) ≡ false)
  ok_stocked t n m same = (λ is. absurd (cc), λ off. absurd (let on = eq-eqb n m same in cc))

-- an opening takes one of the stocks, and so one is left for each other
pub stock_left : (e : Event) (old rest : List Event) (n m : ℕ) → old ≡ e ∷ rest → n ≡ count_by is_opening old → n ≡ openings_at e + m → m ≡ count_by is_opening rest
stock_left e old rest n m is all left =
    let more : count_by is_opening (e ∷ rest) ≡ openings_at e + count_by is_opening rest = sum_by-cons (λ x. if is_opening x then 1 else 0) e rest in
    let here : n ≡ count_by is_opening (e ∷ rest) = all ∙ ap (λ xs. count_by is_opening xs) is in
    omega (arith, left, here, more)
