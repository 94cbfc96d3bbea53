-- The connections stand by their numbers, so that a binary search finds one.
use Rattle.gateway_replies.proofs.Names.{◌≡◌, ℕ, ◌≤◌, ◌<◌, zero, suc, refl, sym, ap, List, [], ◌∷◌, ◌++◌, Some, None, Bool, true, false, ⊎_elim, subst, length, arith, ◌==◌, All, not, filter, slice_index_or, list_any, cases_Bool, eq-eqb, or_parts, All-cons, All-head, All-nil, All-tail, Id, Peer, NoTwo, Peers, ctx_of, peer_ties, same_number, all_stay, nat_tests}
use Rattle.std.proofs.Common.{Err, Ok}
use Rattle.std.proofs.lemmas.Bool.{ne_eqb}
use Rattle.std.proofs.lemmas.Cmp.{ranked}
use Rattle.std.specs.List.{remove}
use Rattle.std.specs.List.Sorted.{IsBinarySearchResult, IsNonDecreasingBy}
use Rattle.std.specs.Ordering.{nat_cmp, ordering_index}
use Rattle.call_contexts.specs.Sound.{Rising}
use Rattle.gateway_replies.specs.Contexts.{numbers_of}
use Rattle.gateway_replies.specs.Ties.{AreOthers}

-- ---- by their numbers

pub rise_apart : (ps : Peers) → Rising (numbers_of ps) → NoTwo same_number ps
rise_apart [] rising = tt
rise_apart (p ∷ ps) rising = (none_above ps rising.0, rise_apart ps rising.1)
  where
    none_above : (qs : Peers) → All (λ n. p.0 < n) (numbers_of qs) → list_any (same_number p) qs ≡ false
    none_above [] all = refl
    none_above (q ∷ qs) all = rw (ne_eqb q.0 p.0 (λ e. omega (arith, e, All-head (λ n. p.0 < n) q.0 (numbers_of qs) all))) (none_above qs (All-tail (λ n. p.0 < n) q.0 (numbers_of qs) all))

-- all are below the next
all_below : (number : ℕ) (ps : Peers) → ((n : ℕ) → number ≤ n → list_any (λ p. p.0 == n) ps ≡ false) → All (λ p. p.0 < number) ps
all_below number [] none = All-nil (λ p. p.0 < number)
all_below number (p ∷ ps) none = All-cons (λ q. q.0 < number) p ps
    (grind (arith, nat_tests, none p.0))
    (all_below number ps (λ n le. (or_parts (p.0 == n) (list_any (λ q. q.0 == n) ps) (none n le)).1))

rising_below : (p : ℕ × Id) (ps : Peers) → Rising (numbers_of ps) → All (λ q. q.0 < p.0) ps → Rising (numbers_of (ps ++ p ∷ []))
rising_below p [] rising below = (All-nil (λ n. p.0 < n), tt)
rising_below p (q ∷ qs) rising below = (more qs rising.0, rising_below p qs rising.1 (All-tail (λ r. r.0 < p.0) q qs below))
  where
    more : (rs : Peers) → All (λ n. q.0 < n) (numbers_of rs) → All (λ n. q.0 < n) (numbers_of (rs ++ p ∷ []))
    more [] all = All-cons (λ n. q.0 < n) p.0 [] (All-head (λ r. r.0 < p.0) q qs below) (All-nil (λ n. q.0 < n))
    more (r ∷ rs) all = All-cons (λ n. q.0 < n) r.0 (numbers_of (rs ++ p ∷ [])) (All-head (λ n. q.0 < n) r.0 (numbers_of rs) all) (more rs (All-tail (λ n. q.0 < n) r.0 (numbers_of rs) all))

pub rising_push : (p : ℕ × Id) (ps : Peers) → Rising (numbers_of ps) → ((n : ℕ) → p.0 ≤ n → list_any (λ q. q.0 == n) ps ≡ false) → Rising (numbers_of (ps ++ p ∷ []))
rising_push p ps rising none = rising_below p ps rising (all_below p.0 ps none)

module _ (keep : ℕ × Id → Bool) where
  above_left : (n : ℕ) (ps : Peers) → All (λ m. n < m) (numbers_of ps) → All (λ m. n < m) (numbers_of (filter keep ps))
  above_left n [] all = All-nil (λ m. n < m)
  above_left n (p ∷ ps) all = ⊎_elim
      (λ (y : keep p ≡ true). rw y (All-cons (λ m. n < m) p.0 (numbers_of (filter keep ps)) (All-head (λ m. n < m) p.0 (numbers_of ps) all) (above_left n ps (All-tail (λ m. n < m) p.0 (numbers_of ps) all))))
      (λ (o : keep p ≡ false). rw o (above_left n ps (All-tail (λ m. n < m) p.0 (numbers_of ps) all)))
      (cases_Bool (keep p))

  pub rising_left : (ps : Peers) → Rising (numbers_of ps) → Rising (numbers_of (filter keep ps))
  rising_left [] rising = tt
  rising_left (p ∷ ps) rising = ⊎_elim
      (λ (y : keep p ≡ true). rw y (above_left p.0 ps rising.0, rising_left ps rising.1))
      (λ (o : keep p ≡ false). rw o (rising_left ps rising.1))
      (cases_Bool (keep p))

-- ---- what stands at a place

module _ {H : Type 0} where
  above_at : (n : ℕ) (ps : List (Peer H)) → All (λ m. n < m) (numbers_of (peer_ties ps)) → (k : ℕ) (d : Peer H) → k < length ps → n < (slice_index_or ps k d).number
  above_at n [] all k d low = absurd (omega (arith, low))
  above_at n (p ∷ ps) all zero d low = All-head (λ m. n < m) p.number (numbers_of (peer_ties ps)) all
  above_at n (p ∷ ps) all (suc k) d low = above_at n ps (All-tail (λ m. n < m) p.number (numbers_of (peer_ties ps)) all) k d (omega (arith, low))

  rises : (ps : List (Peer H)) → Rising (numbers_of (peer_ties ps)) → (i j : ℕ) (d : Peer H) → i < j → j < length ps → (slice_index_or ps i d).number < (slice_index_or ps j d).number
  rises [] rising i j d lt low = absurd (omega (arith, low))
  rises (p ∷ ps) rising i zero d lt low = absurd (omega (arith, lt))
  rises (p ∷ ps) rising zero (suc j) d lt low = above_at p.number ps rising.0 j d (omega (arith, low))
  rises (p ∷ ps) rising (suc i) (suc j) d lt low = rises ps rising.1 i j d (omega (arith, lt)) (omega (arith, low))

  module _ (number : ℕ) where
    -- those before the one of that number are others
    pub others_before : (ps : List (Peer H)) → Rising (numbers_of (peer_ties ps)) → (i : ℕ) (d : Peer H) → i < length ps → (slice_index_or ps i d).number ≡ number → AreOthers number i ps
    others_before ps rising zero d low own = tt
    others_before [] rising (suc i) d low own = tt
    others_before (p ∷ ps) rising (suc i) d low own = (
      ne_eqb p.number number (λ e. omega (arith, e, own, above_at p.number ps rising.0 i d (omega (arith, low)))),
      others_before ps rising.1 i d (omega (arith, low)) own,
    )

    none_at : (ps : List (Peer H)) → ((k : ℕ) (d : Peer H) → k < length ps → (slice_index_or ps k d).number ≡ number → ⊥) → AreOthers number (length ps) ps
    none_at [] off = tt
    none_at (p ∷ ps) off = (ne_eqb p.number number (off 0 p (omega arith)), none_at ps (λ k d low. off (suc k) d (omega (arith, low))))

    pub no_ctx : (ps : List (Peer H)) → AreOthers number (length ps) ps → ctx_of number (peer_ties ps) ≡ None
    no_ctx [] others = refl
    no_ctx (p ∷ ps) others = rw others.0 (no_ctx ps others.1)

    pub ctx_at : (ps : List (Peer H)) (i : ℕ) (d : Peer H) → i < length ps → (slice_index_or ps i d).number ≡ number → AreOthers number i ps → ctx_of number (peer_ties ps) ≡ Some (slice_index_or ps i d).ctx
    ctx_at [] i d low own others = absurd (omega (arith, low))
    ctx_at (p ∷ ps) zero d low own others = rw (eq-eqb p.number number own) refl
    ctx_at (p ∷ ps) (suc i) d low own others = rw others.0 (ctx_at ps i d (omega (arith, low)) own others.1)

    none_behind : (ps : List (Peer H)) → All (λ m. number < m) (numbers_of (peer_ties ps)) → list_any (λ p. p.number == number) ps ≡ false
    none_behind [] all = refl
    none_behind (p ∷ ps) all = rw (ne_eqb p.number number (λ e. omega (arith, e, All-head (λ m. number < m) p.number (numbers_of (peer_ties ps)) all))) (none_behind ps (All-tail (λ m. number < m) p.number (numbers_of (peer_ties ps)) all))

    pub others_left : (ps : List (Peer H)) → Rising (numbers_of (peer_ties ps)) → (i : ℕ) (d : Peer H) → i < length ps → (slice_index_or ps i d).number ≡ number → AreOthers number i ps → remove ps i ≡ filter (λ p. not (p.number == number)) ps
    others_left [] rising i d low own others = absurd (omega (arith, low))
    others_left (p ∷ ps) rising zero d low own others =
        rw (eq-eqb p.number number own) (sym (all_stay (λ q. q.number == number) ps (none_behind ps (subst (λ n. All (λ m. n < m) (numbers_of (peer_ties ps))) own rising.0))))
    others_left (p ∷ ps) rising (suc i) d low own others = rw others.0 (ap (λ qs. p ∷ qs) (others_left ps rising.1 i d (omega (arith, low)) own others.1))

    pub none_left : (ps : List (Peer H)) → AreOthers number (length ps) ps → ps ≡ filter (λ p. not (p.number == number)) ps
    none_left [] others = refl
    none_left (p ∷ ps) others = rw others.0 (ap (λ qs. p ∷ qs) (none_left ps others.1))

    -- ---- the search

    module _ (ps : List (Peer H)) (rising : Rising (numbers_of (peer_ties ps))) where
      comparisons_rise : IsNonDecreasingBy (λ p. ordering_index (nat_cmp p.number number)) ps
      comparisons_rise i j d le low =
          let keys : (slice_index_or ps i d).number ≤ (slice_index_or ps j d).number = grind (arith, rises ps rising i j d, λ (e : i ≡ j). ap (λ k. (slice_index_or ps k d).number) e) in
          grind (arith, nat_tests)

      pub missed : (i : ℕ) → IsBinarySearchResult (λ p. nat_cmp p.number number) ps (Err i) → AreOthers number (length ps) ps
      missed i parted = none_at ps (λ k d low own.
          let before = λ (lt : k < i). ranked _ number _ (sym ((parted comparisons_rise).0 k d (omega arith) lt)) in
          let behind = λ (le : i ≤ k). ranked _ number _ (sym ((parted comparisons_rise).1 k d le low)) in
          grind (arith, before, behind))

      pub hit : (i : ℕ) → IsBinarySearchResult (λ p. nat_cmp p.number number) ps (Ok i) → (d : Peer H) → (slice_index_or ps i d).number ≡ number
      hit i at d = ranked _ number _ (sym (at d))
