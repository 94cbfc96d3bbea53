-- The calls stand by the numbers of their contexts, so that a binary search finds one.
use Rattle.call_contexts.proofs.Names.{◌≡◌, refl, sym, ap, ◌∙◌, ℕ, zero, suc, ◌<◌, ◌≤◌, List, [], ◌∷◌, ◌++◌, Some, None, Bool, true, false, ⊎_elim, subst, arith, rules, length, slice_index_or, slice_set, not, map, filter, All, Ok, Err, list_any, remove, cases_Bool, All-cons, All-head, All-nil, All-tail, Id, same, Life, Twig, Rising, life_at, names_of, numbers_of, nat_tests}
use Rattle.std.specs.List.Sorted.{IsBinarySearchResult, IsNonDecreasingBy}
use Rattle.std.specs.Ordering.{nat_cmp, ordering_index}
use Rattle.std.proofs.lemmas.Bool.{cases_order}
use Rattle.std.proofs.lemmas.List.{get_or_default}
use Rattle.std.proofs.lemmas.Cmp.{ranked}
use Rattle.call_contexts.proofs.Hooking.{map_twice}
use Rattle.call_contexts.proofs.Lists.{all_stay}
use Rattle.call_contexts.proofs.Trees.{same_refl}

pub less_apart : (a b : Id) → a.0 < b.0 → same a b ≡ false
less_apart a b lt = grind (arith, rules)

more_apart : (a b : Id) → b.0 < a.0 → same a b ≡ false
more_apart a b lt = grind (arith, rules)

above_at : (n : ℕ) (ls : List Life) → All (λ m. n < m) (numbers_of ls) → (k : ℕ) (d : Life) → k < length ls → n < (slice_index_or ls k d).ctx.0
above_at n [] all k d low = absurd (omega (arith, low))
above_at n (l ∷ ls) all zero d low = All-head (λ m. n < m) l.ctx.0 (numbers_of ls) all
above_at n (l ∷ ls) all (suc k) d low = above_at n ls (All-tail (λ m. n < m) l.ctx.0 (numbers_of ls) all) k d (omega (arith, low))

rises : (ls : List Life) → Rising (numbers_of ls) → (i j : ℕ) (d : Life) → i < j → j < length ls → (slice_index_or ls i d).ctx.0 < (slice_index_or ls j d).ctx.0
rises [] rising i j d lt low = absurd (omega (arith, low))
rises (l ∷ ls) rising i zero d lt low = absurd (omega (arith, lt))
rises (l ∷ ls) rising zero (suc j) d lt low = above_at l.ctx.0 ls rising.0 j d (omega (arith, low))
rises (l ∷ ls) rising (suc i) (suc j) d lt low = rises ls rising.1 i j d (omega (arith, lt)) (omega (arith, low))

-- those behind a call are of other contexts
none_behind : (x : Id) (ls : List Life) → All (λ m. x.0 < m) (numbers_of ls) → list_any (λ l. same l.ctx x) ls ≡ false
none_behind x [] all = refl
none_behind x (l ∷ ls) all = rw (more_apart l.ctx x (All-head (λ m. x.0 < m) l.ctx.0 (numbers_of ls) all)) (none_behind x ls (All-tail (λ m. x.0 < m) l.ctx.0 (numbers_of ls) all))

-- ---- what stands at a place

module _ (x : Id) where
  pub none_at : (ls : List Life) → ((k : ℕ) (d : Life) → k < length ls → same (slice_index_or ls k d).ctx x ≡ false) → life_at x ls ≡ None
  none_at [] off = refl
  none_at (l ∷ ls) off = rw (off 0 l (omega arith)) (none_at ls (λ k d low. off (suc k) d (omega (arith, low))))

  pub life_placed : (ls : List Life) → Rising (numbers_of ls) → (i : ℕ) (d : Life) → i < length ls → (slice_index_or ls i d).ctx ≡ x → life_at x ls ≡ Some (slice_index_or ls i d)
  life_placed [] rising i d low own = absurd (omega (arith, low))
  life_placed (l ∷ ls) rising zero d low own = rw (own, same_refl x) refl
  life_placed (l ∷ ls) rising (suc i) d low own = grind (arith, nat_tests, life_placed ls rising.1 i d, above_at l.ctx.0 ls rising.0 i d, less_apart)

  pub others_left : (ls : List Life) → Rising (numbers_of ls) → (i : ℕ) (d : Life) → i < length ls → (slice_index_or ls i d).ctx ≡ x → remove ls i ≡ filter (λ l. not (same l.ctx x)) ls
  others_left [] rising i d low own = absurd (omega (arith, low))
  others_left (l ∷ ls) rising zero d low own =
      rw (own, same_refl x) (sym (all_stay (λ k. same k.ctx x) ls (none_behind x ls (subst (λ (z : Id). All (λ m. z.0 < m) (numbers_of ls)) own rising.0))))
  others_left (l ∷ ls) rising (suc i) d low own = grind (arith, nat_tests, others_left ls rising.1 i d, above_at l.ctx.0 ls rising.0 i d, less_apart)

-- ---- the search

module _ (x : Id) (ls : List Life) (rising : Rising (numbers_of ls)) where
  comparisons_rise : IsNonDecreasingBy (λ l. ordering_index (nat_cmp l.ctx.0 x.0)) ls
  comparisons_rise i j d le low =
      let keys : (slice_index_or ls i d).ctx.0 ≤ (slice_index_or ls j d).ctx.0 = grind (arith, rises ls rising i j d, λ (e : i ≡ j). ap (λ k. (slice_index_or ls k d).ctx.0) e) in
      grind (arith, nat_tests)

  -- where it finds no number, no call is of that context
  pub missed : (i : ℕ) → IsBinarySearchResult (λ l. nat_cmp l.ctx.0 x.0) ls (Err i) → life_at x ls ≡ None
  missed i parted = none_at x ls (λ k d low.
      let before = λ (lt : k < i). less_apart (slice_index_or ls k d).ctx x (ranked _ x.0 _ (sym ((parted comparisons_rise).0 k d (omega arith) lt))) in
      let behind = λ (le : i ≤ k). more_apart (slice_index_or ls k d).ctx x (ranked _ x.0 _ (sym ((parted comparisons_rise).1 k d le low))) in
      ⊎_elim (λ (is : k ≡ i). behind (omega (arith, is))) (λ o. ⊎_elim before (λ (lt : i < k). behind (omega (arith, lt))) o) (cases_order k i))

  -- where the call of that number is of another context, none is of this one
  pub another : (i : ℕ) (l : Life) → i < length ls → IsBinarySearchResult (λ l. nat_cmp l.ctx.0 x.0) ls (Ok i) → same (slice_index_or ls i l).ctx x ≡ false → life_at x ls ≡ None
  another i l low at off = none_at x ls (λ k e here.
      let own : (slice_index_or ls i e).ctx.0 ≡ x.0 = ranked _ x.0 _ (sym (at e)) in
      let before = λ (lt : k < i). less_apart (slice_index_or ls k e).ctx x (omega (arith, own, rises ls rising k i e lt low)) in
      let behind = λ (lt : i < k). more_apart (slice_index_or ls k e).ctx x (omega (arith, own, rises ls rising i k e lt here)) in
      let there = λ (is : k ≡ i). ap (λ j. same (slice_index_or ls j e).ctx x) is ∙ ap (λ (m : Life). same m.ctx x) (get_or_default ls i e l low) ∙ off in
      ⊎_elim there (λ o. ⊎_elim before behind o) (cases_order k i))

-- ---- as calls come and go

-- what the branches of a call say nothing of
pub set_same : {A : Type 0} (g : Life → A) → ((m : Life) (ts : List Twig) → g m ≡ g (record m { twigs = ts })) → (i : ℕ) (l : Life) (ts : List Twig) (ls : List Life) → l ≡ slice_index_or ls i l
    → map g ls ≡ map g (slice_set ls i (record l { twigs = ts }))
set_same g stays i l ts [] is = refl
set_same g stays zero l ts (k ∷ ks) is = ap (λ a. a ∷ map g ks) (ap g (sym is) ∙ stays l ts)
set_same g stays (suc i) l ts (k ∷ ks) is = ap (λ bs. g k ∷ bs) (set_same g stays i l ts ks is)

pub rising_set : (i : ℕ) (l : Life) (ts : List Twig) (ls : List Life) → l ≡ slice_index_or ls i l → Rising (numbers_of ls) → Rising (numbers_of (slice_set ls i (record l { twigs = ts })))
rising_set i l ts ls is = subst Rising (set_same (λ k. k.ctx.0) (λ m us. refl) i l ts ls is)

pub rising_named : (ls ms : List Life) → names_of ms ≡ names_of ls → Rising (numbers_of ls) → Rising (numbers_of ms)
rising_named ls ms named = subst Rising (sym (map_twice (λ n. n.1.0) (λ l. (l.id, l.ctx)) ls) ∙ ap (map (λ n. n.1.0)) (sym named) ∙ map_twice (λ n. n.1.0) (λ l. (l.id, l.ctx)) ms)

pub rising_push : (ls : List Life) (l : Life) → Rising (numbers_of ls) → All (λ m. m.ctx.0 < l.ctx.0) ls → Rising (numbers_of (ls ++ l ∷ []))
rising_push [] l rising below = (All-nil (λ m. l.ctx.0 < m), tt)
rising_push (k ∷ ks) l rising below = (
  above_pushed ks rising.0,
  rising_push ks l rising.1 (All-tail (λ m. m.ctx.0 < l.ctx.0) k ks below),
)
  where
    above_pushed : (ms : List Life) → All (λ m. k.ctx.0 < m) (numbers_of ms) → All (λ m. k.ctx.0 < m) (numbers_of (ms ++ l ∷ []))
    above_pushed [] all = All-cons (λ m. k.ctx.0 < m) l.ctx.0 [] (All-head (λ m. m.ctx.0 < l.ctx.0) k ks below) (All-nil (λ m. k.ctx.0 < m))
    above_pushed (m ∷ ms) all = All-cons (λ m. k.ctx.0 < m) m.ctx.0 (numbers_of (ms ++ l ∷ [])) (All-head (λ m. k.ctx.0 < m) m.ctx.0 (numbers_of ms) all) (above_pushed ms (All-tail (λ m. k.ctx.0 < m) m.ctx.0 (numbers_of ms) all))

module _ (p : Life → Bool) where
  above_left : (n : ℕ) (ls : List Life) → All (λ m. n < m) (numbers_of ls) → All (λ m. n < m) (numbers_of (filter p ls))
  above_left n [] all = All-nil (λ m. n < m)
  above_left n (l ∷ ls) all = ⊎_elim
      (λ (y : p l ≡ true). rw y (All-cons (λ m. n < m) l.ctx.0 (numbers_of (filter p ls)) (All-head (λ m. n < m) l.ctx.0 (numbers_of ls) all) (above_left n ls (All-tail (λ m. n < m) l.ctx.0 (numbers_of ls) all))))
      (λ (o : p l ≡ false). rw o (above_left n ls (All-tail (λ m. n < m) l.ctx.0 (numbers_of ls) all)))
      (cases_Bool (p l))

  pub rising_left : (ls : List Life) → Rising (numbers_of ls) → Rising (numbers_of (filter p ls))
  rising_left [] rising = tt
  rising_left (l ∷ ls) rising = ⊎_elim
      (λ (y : p l ≡ true). rw y (above_left l.ctx.0 ls rising.0, rising_left ls rising.1))
      (λ (o : p l ≡ false). rw o (rising_left ls rising.1))
      (cases_Bool (p l))
