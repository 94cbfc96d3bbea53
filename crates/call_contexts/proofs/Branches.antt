-- The branches of one call, as they are kept and as they are seen.
use Rattle.call_contexts.proofs.Names.{without, ◌≡◌, refl, sym, ap, ◌∙◌, ℕ, zero, suc, ◌<◌, List, [], ◌∷◌, ◌++◌, take, drop, Some, Bool, true, false, ⊎_elim, subst, arith, length, slice_set, not, if◌then◌else◌, map, filter, slice_index_or, All, list_any, cases_Bool, eq-eqb, ne_eqb, or_parts, All-nil, All-cons, All-head, All-tail, All-weaker, same_Some, Id, same, Life, Twig, Branch, Call, Standing, Slots, cause_in, seen, seen_conn, seen_call, seen_branches, on_branches, bare_call, IsBare, with_branches, is_call, IsPlaced, NoTwo, drop_twig, life_at, same_ctx, with_twigs, nat_tests}
use Rattle.call_contexts.proofs.Hooking.{map_nil}
use Rattle.call_contexts.proofs.Lists.{all_none, gone_first}
use Rattle.call_contexts.proofs.Trees.{not_both, same_refl}

-- ---- one of a list of branches

pub split_at : (i : ℕ) (ts : List Twig) (d : Twig) → i < length ts → ts ≡ take i ts ++ slice_index_or ts i d ∷ drop (suc i) ts
split_at i [] d lt = absurd (omega (arith, lt))
split_at zero (t ∷ ts) d lt = refl
split_at (suc i) (t ∷ ts) d lt = ap (λ us. t ∷ us) (split_at i ts d (omega (arith, lt)))

pub dropped_at : (n i : ℕ) (ts : List Twig) (d : Twig) → i < length ts → ((j : ℕ) (e : Twig) → j < i → (slice_index_or ts j e).branch ≡ n → ⊥) → (slice_index_or ts i d).branch ≡ n
    → drop_twig n ts ≡ take i ts ++ drop (suc i) ts
dropped_at n i [] d lt none own = absurd (omega (arith, lt))
dropped_at n zero (t ∷ ts) d lt none own = rw (eq-eqb t.branch n own) refl
dropped_at n (suc i) (t ∷ ts) d lt none own =
    rw (ne_eqb t.branch n (none 0 t (omega arith))) (ap (λ us. t ∷ us) (dropped_at n i ts d (omega (arith, lt)) (λ j e low. none (suc j) e (omega (arith, low))) own))

pub dropped_none : (n : ℕ) (ts : List Twig) → ((j : ℕ) (e : Twig) → j < length ts → (slice_index_or ts j e).branch ≡ n → ⊥) → ts ≡ drop_twig n ts
dropped_none n [] none = refl
dropped_none n (t ∷ ts) none = rw (ne_eqb t.branch n (none 0 t (omega arith))) (ap (λ us. t ∷ us) (dropped_none n ts (λ j e low. none (suc j) e (omega (arith, low)))))

-- ---- the one call of a context

any_at : {A : Type 0} (p : A → Bool) (xs : List A) (i : ℕ) (d : A) → list_any p xs ≡ false → i < length xs → p (slice_index_or xs i d) ≡ false
any_at p [] i d none lt = absurd (omega (arith, lt))
any_at p (x ∷ xs) zero d none lt = (or_parts (p x) (list_any p xs) none).0
any_at p (x ∷ xs) (suc i) d none lt = any_at p xs i d (or_parts (p x) (list_any p xs) none).1 (omega (arith, lt))

module _ (id : Id) where
  pub only_one : (l : Life) (ls : List Life) → NoTwo same_ctx ls → life_at id ls ≡ Some l → All (λ m. same m.ctx id ≡ true → m ≡ l) ls
  only_one l [] distinct found = cc
  only_one l (m ∷ ms) distinct found = ⊎_elim
      (λ (y : same m.ctx id ≡ true).
      let e : m ≡ l = same_Some m l (rw y at found) in
      All-cons (λ m. same m.ctx id ≡ true → m ≡ l) m ms (λ z. e)
      (All-weaker (λ k. same k.ctx id ≡ false) (λ k. same k.ctx id ≡ true → k ≡ l) (λ k far z. absurd (not_both (same k.ctx id) z far)) ms
      (all_none (λ k. same k.ctx id) ms (gone_first id m ms distinct.0 y))))
      (λ (n : same m.ctx id ≡ false).
      All-cons (λ m. same m.ctx id ≡ true → m ≡ l) m ms (λ z. absurd (not_both (same m.ctx id) z n)) (only_one l ms distinct.1 (rw n at found)))
      (cases_Bool (same m.ctx id))

  pub others_still : (ts : List Twig) (ls : List Life) → list_any (λ k. same k.ctx id) ls ≡ false → map (with_twigs id ts) ls ≡ ls
  others_still ts [] none = refl
  others_still ts (m ∷ ms) none = let two = or_parts (same m.ctx id) (list_any (λ k. same k.ctx id) ms) none in rw two.0 (ap (λ ks. m ∷ ks) (others_still ts ms two.1))

  -- the call at that place is the one of that context
  pub placed : (i : ℕ) (d : Life) (ts : List Twig) (ls : List Life) → NoTwo same_ctx ls → i < length ls → (slice_index_or ls i d).ctx ≡ id
      → (life_at id ls ≡ Some (slice_index_or ls i d)) × (slice_set ls i (record (slice_index_or ls i d) { twigs = ts }) ≡ map (with_twigs id ts) ls)
  placed i d ts [] distinct lt own = absurd (omega (arith, lt))
  placed zero d ts (m ∷ ms) distinct lt own = grind (arith, nat_tests, same_refl, others_still, gone_first)
  placed (suc i) d ts (m ∷ ms) distinct lt own =
      let low : i < length ms = omega (arith, lt) in
      let n : same m.ctx id ≡ false = ⊎_elim
      (λ (y : same m.ctx id ≡ true). absurd (not_both (same (slice_index_or ms i d).ctx id) (rw own (same_refl id)) (any_at (λ k. same k.ctx id) ms i d (gone_first id m ms distinct.0 y) low)))
      (λ (n : same m.ctx id ≡ false). n)
      (cases_Bool (same m.ctx id)) in
      let rest = placed i d ts ms distinct.1 low own in
      (rw n rest.0, rw n (ap (λ ks. m ∷ ks) rest.1))

  pub placed_call : (i : ℕ) (x : Life) (ts : List Twig) (ls : List Life) → NoTwo same_ctx ls → i < length ls → IsPlaced id i ls → x ≡ slice_index_or ls i x
      → (life_at id ls ≡ Some x) × (slice_set ls i (record x { twigs = ts }) ≡ map (with_twigs id ts) ls)
  placed_call i x ts ls distinct lt own x_is =
      let p = placed i x ts ls distinct lt (own x) in
      (p.0 ∙ ap (λ k. Some k) (sym x_is), subst (λ k. slice_set ls i (record k { twigs = ts }) ≡ map (with_twigs id ts) ls) (sym x_is) p.1)

-- ---- the calls, with the branches of that one turned

module _ {C V : Type 0} (id : Id) where
  abbrev pub turn_calls : (Call C V → List (Branch C)) → List (Call C V) → List (Call C V)
  turn_calls f cs = map (λ c. if same c.id id then with_branches (f c) c else c) cs

  turned_twice : (f : Call C V → List (Branch C)) (cs : List (Call C V)) → turn_calls (λ c. []) (turn_calls f cs) ≡ turn_calls (λ c. []) cs
  turned_twice f [] = refl
  turned_twice f (c ∷ cs) = grind (arith, turned_twice f cs)

  pub bare_turned : (f : Call C V → List (Branch C)) (v : Standing C V) → bare_call id (on_branches id f v) ≡ bare_call id v
  bare_turned f v = ap (λ cs. record { drained = v.drained; conns = v.conns; calls = cs }) (turned_twice f v.calls)

  one_bare : (c : Call C V) (b : Bool) → same c.id id ≡ b → same (if b then with_branches [] c else c).id id ≡ true → (if b then with_branches [] c else c).branches ≡ []
  one_bare c true is y = refl
  one_bare c false is y = let bad : true ≡ false = sym y ∙ is in cc

  pub turned_bare : (cs : List (Call C V)) → IsBare id (turn_calls (λ c. []) cs)
  turned_bare [] = All-nil (λ c. same c.id id ≡ true → c.branches ≡ [])
  turned_bare (c ∷ cs) = All-cons (λ c. same c.id id ≡ true → c.branches ≡ []) (if same c.id id then with_branches [] c else c) (turn_calls (λ c. []) cs)
      (one_bare c (same c.id id) refl) (turned_bare cs)

  pub turned_call : (x : Id) (f : Call C V → List (Branch C)) (cs : List (Call C V)) → is_call x (turn_calls f cs) ≡ is_call x cs
  turned_call x f [] = refl
  turned_call x f (c ∷ cs) = grind (arith, turned_call x f cs)

  turned_gone : (f : Call C V → List (Branch C)) (cs : List (Call C V)) → filter (λ c. not (same c.id id)) (turn_calls f cs) ≡ filter (λ c. not (same c.id id)) cs
  turned_gone f [] = refl
  turned_gone f (c ∷ cs) = grind (arith, turned_gone f cs)

  pub without_bare : (v : Standing C V) → without id (bare_call id v) ≡ without id v
  without_bare v = ap (λ cs. record { drained = v.drained; conns = v.conns; calls = cs }) (turned_gone (λ c. []) v.calls)

-- ---- what is seen

module _ {C V : Type 0} (slots : Slots C V) (id : Id) where
  pub turn_seen : (f : Call C V → List (Branch C)) (ts : List Twig) (ls : List Life) → All (λ m. same m.ctx id ≡ true → f (seen_call slots m) ≡ seen_branches slots ts) ls
      → map (seen_call slots) (map (with_twigs id ts) ls) ≡ turn_calls id f (map (seen_call slots) ls)
  turn_seen f ts [] all = refl
  turn_seen f ts (m ∷ ms) all =
      let rest = turn_seen f ts ms (All-tail (λ m. same m.ctx id ≡ true → f (seen_call slots m) ≡ seen_branches slots ts) m ms all) in
      ⊎_elim
      (λ (y : same m.ctx id ≡ true).
      let here : f (seen_call slots m) ≡ seen_branches slots ts = All-head (λ m. same m.ctx id ≡ true → f (seen_call slots m) ≡ seen_branches slots ts) m ms all y in
      rw y (ap (λ bs. with_branches bs (seen_call slots m) ∷ map (seen_call slots) (map (with_twigs id ts) ms)) (sym here) ∙ ap (λ cs. with_branches (f (seen_call slots m)) (seen_call slots m) ∷ cs) rest))
      (λ (n : same m.ctx id ≡ false). rw n (ap (λ cs. seen_call slots m ∷ cs) rest))
      (cases_Bool (same m.ctx id))

  turn_none : (f : Call C V → List (Branch C)) (ls : List Life) → All (λ m. same m.ctx id ≡ true → f (seen_call slots m) ≡ seen_branches slots m.twigs) ls
      → map (seen_call slots) ls ≡ turn_calls id f (map (seen_call slots) ls)
  turn_none f [] all = refl
  turn_none f (m ∷ ms) all =
      let rest = turn_none f ms (All-tail (λ m. same m.ctx id ≡ true → f (seen_call slots m) ≡ seen_branches slots m.twigs) m ms all) in
      ⊎_elim
      (λ (y : same m.ctx id ≡ true).
      let here : f (seen_call slots m) ≡ seen_branches slots m.twigs = All-head (λ m. same m.ctx id ≡ true → f (seen_call slots m) ≡ seen_branches slots m.twigs) m ms all y in
      rw y (ap (λ bs. with_branches bs (seen_call slots m) ∷ map (seen_call slots) ms) (sym here) ∙ ap (λ cs. with_branches (f (seen_call slots m)) (seen_call slots m) ∷ cs) rest))
      (λ (n : same m.ctx id ≡ false). rw n (ap (λ cs. seen_call slots m ∷ cs) rest))
      (cases_Bool (same m.ctx id))

  -- nothing changes where the call keeps its branches
  pub seen_still : (f : Call C V → List (Branch C)) (base : Id) (conns : List Id) (ls : List Life) → All (λ m. same m.ctx id ≡ true → f (seen_call slots m) ≡ seen_branches slots m.twigs) ls
      → seen slots base conns ls ≡ on_branches id f (seen slots base conns ls)
  seen_still f base conns ls all = ap (λ cs. record { drained = cause_in slots base; conns = map (seen_conn slots) conns; calls = cs }) (turn_none f ls all)

  -- nor where it is none of these
  pub none_seen : (f : Call C V → List (Branch C)) (base : Id) (conns : List Id) (ls : List Life) → list_any (λ m. same m.ctx id) ls ≡ false
      → seen slots base conns ls ≡ on_branches id f (seen slots base conns ls)
  none_seen f base conns ls none = grind (arith, nat_tests, seen_still, All-weaker, not_both, all_none)

  -- a call that is seen without branches has none
  pub bare_twigs : (ls : List Life) → IsBare id (map (seen_call slots) ls) → All (λ m. same m.ctx id ≡ true → m.twigs ≡ []) ls
  bare_twigs [] bare = All-nil (λ m. same m.ctx id ≡ true → m.twigs ≡ [])
  bare_twigs (m ∷ ms) bare = All-cons (λ m. same m.ctx id ≡ true → m.twigs ≡ []) m ms
      (λ y. map_nil _ m.twigs (All-head (λ c. same c.id id ≡ true → c.branches ≡ []) (seen_call slots m) (map (seen_call slots) ms) bare y))
      (bare_twigs ms (All-tail (λ c. same c.id id ≡ true → c.branches ≡ []) (seen_call slots m) (map (seen_call slots) ms) bare))
