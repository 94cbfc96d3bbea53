-- What the calls on the vector and on the map leave.
use Rattle.std.proofs.Common.{◌≡◌, ◌≢◌, refl, sym, ap, ◌∙◌, subst, rules, arith, ℕ, ◌+◌, ◌-◌, ◌<◌, List, [], ◌∷◌, ◌++◌, length, take, drop, get_or, false, Option, Some, None}
use Rattle.std.specs.Prelude.{◌==◌, All, Result, Ok, Err}
use Rattle.std.specs.Result.{OnOk, is_err}
use Rattle.std.specs.Ordering.{nat_cmp}
use Rattle.std.specs.BTreeMap as tree
use Rattle.std.specs.BTreeMap.{BTreeMap, UpdatesBy, is_at}
use Rattle.std.proofs.Math.ListN.{set}
use Rattle.std.specs.List.{swap_remove}
use Rattle.std.specs.List.Sorted.{IsPermutation, apply_swaps}
use Rattle.std.proofs.lemmas.Bool.{eq-eqb}
use Rattle.std.proofs.lemmas.Bool.Decides.{nat_tests}
use Rattle.std.proofs.lemmas.List.{get_or-take, get_or-set_other, get_or-set_same, get_or_read, get_or_default, take-append-le, length-take-le, length-set}
use Rattle.std.proofs.lemmas.List.Elements.{All-from_get_or}
use Rattle.std.proofs.lemmas.List.Sorted.{All-permutation, IsPermutation-swap_remove, IsPermutation-cons, IsPermutation-trans, length_permutation}
use Rattle.timer_heap.specs.declared.heap.Entry.{Entry}
use Rattle.timer_heap.specs.Heap.{entry_at, IsHeap, ArePlaced, IsPut, Settles, Added, TakenOut}
use Rattle.timer_heap.proofs.Counting.{within_digits}
use Rattle.timer_heap.proofs.Heaps.{Filled, fill_heap}
use Rattle.timer_heap.proofs.Places.{is_there, drop_placed, fill_placed, one_place}

-- what a read at a place gives
pub read_at : (xs : List Entry) (place : ℕ) (x : Entry) → place < length xs → x ≡ get_or xs place x → x ≡ entry_at xs place
read_at xs place x within is = get_or_read xs place x within is (record { at = 0; id = 0; number = 0 })

take_whole : (xs : List Entry) → take (length xs) xs ≡ xs
take_whole [] = refl
take_whole (x ∷ xs) = ap (λ l. x ∷ l) (take_whole xs)

-- a whole vector that was lent as a slice
pub written_back : (xs ys : List Entry) (n : ℕ) → length ys ≡ length xs → n ≡ length xs → take n (ys ++ drop (length ys) xs) ≡ ys
written_back xs ys n long is = rw (is, ← long) (take-append-le (length ys) ys (drop (length ys) xs) (omega arith) ∙ take_whole ys)

other_key : (id q : ℕ) → q ≢ id → is_at (nat_cmp id) q ≡ false
other_key id q apart = grind (arith, nat_tests)

pub put_by : (m n : BTreeMap ℕ ℕ) (id : ℕ) (o : Option ℕ) → UpdatesBy nat_cmp (nat_cmp id) m n o → IsPut id o (tree.get nat_cmp m) (tree.get nat_cmp n)
put_by m n id o updates = record {
  here = updates.1;
  others = λ q apart. updates.2 q (other_key id q apart);
}

-- ---- an entry less

module _ (xs : List Entry) (place : ℕ) (x : Entry) (within : place < length xs) where
  length_less : length (swap_remove xs place x) + 1 ≡ length xs
  length_less =
      let full = length-set xs place (get_or xs (length xs - 1) x) in
      let short = length-take-le (length xs - 1) (set xs place (get_or xs (length xs - 1) x)) (omega arith) in
      omega arith

  pub less_filled : Filled place xs (swap_remove xs place x)
  less_filled = record {
    shorter = length_less;
    others = λ k apart k_in.
        let short = length_less in
        get_or-take (length xs - 1) _ k _ (omega arith) ∙ get_or-set_other xs place k _ _ apart;
  }

  pub less_here : place < length (swap_remove xs place x) → entry_at (swap_remove xs place x) place ≡ entry_at xs (length (swap_remove xs place x))
  less_here near =
      let short = length_less in
      let last : length (swap_remove xs place x) ≡ length xs - 1 = omega arith in
      get_or-take (length xs - 1) _ place _ (omega arith) ∙ get_or-set_same xs place _ _ within
      ∙ get_or_default xs (length xs - 1) x (record { at = 0; id = 0; number = 0 }) (omega arith) ∙ ap (entry_at xs) (sym last)

-- what a look-up finds that is not among these
not_there : (xs : List Entry) (f : ℕ → Option ℕ) (id : ℕ) → ArePlaced xs f → All (λ d. d.id ≢ id) xs → f id ≡ None
not_there xs f id placed others = none_of (f id) refl
  where
    none_of : (o : Option ℕ) → f id ≡ o → f id ≡ None
    none_of None is = is
    none_of (Some k) is =
        let old = placed.only id k is in
        absurd (others k (record { at = 0; id = 0; number = 0 }) old.0 old.1)

not_last : (place n : ℕ) → place + 1 ≢ n → (place + 1 == n) ≡ false
not_last place n apart = grind (arith, rules)

module _ (xs ys : List Entry) (place : ℕ) (f g : ℕ → Option ℕ) (within : place < length xs) (is : ys ≡ swap_remove xs place (entry_at xs place)) (put_none : IsPut (entry_at xs place).id None f g) where
  filled : Filled place xs ys
  filled = rw is (less_filled xs place (entry_at xs place) within)

  same_less : IsPermutation xs (entry_at xs place ∷ ys)
  same_less = rw is (IsPermutation-swap_remove xs place (entry_at xs place) within (get_or_default xs place (record { at = 0; id = 0; number = 0 }) (entry_at xs place) within))

  -- the last one
  pub last_out : place ≡ length ys → IsHeap xs → ArePlaced xs f → TakenOut place xs ys g 0
  last_out last heap placed =
      let f' = filled in
      let end : place + 1 ≡ length xs = omega (arith, f'.shorter) in
      record {
        same = same_less;
        placed = drop_placed xs ys place f g f' last placed put_none;
        gone = put_none.here;
        swaps = [];
        reached = is;
        counted = rw (eq-eqb (place + 1) (length xs) end) refl;
        few = omega arith;
        ordered = fill_heap xs ys place f' last heap;
      }

  module _ (h : ℕ → Option ℕ) (d : Entry) (near : place < length ys) (read : d ≡ get_or ys place d) (put : IsPut d.id (Some place) g h) (placed : ArePlaced xs f) where
    here : entry_at ys place ≡ entry_at xs (length ys)
    here = rw is (less_here xs place (entry_at xs place) within (rw (← is) near))

    read_here : d ≡ entry_at ys place
    read_here = read_at ys place d near read

    pub filled_placed : ArePlaced ys h
    filled_placed = fill_placed xs ys place f g h filled near here placed put_none (subst (λ e. IsPut e.id (Some place) g h) read_here put)

    -- one that is not the last
    pub filled_out : (zs : List Entry) (k : ℕ → Option ℕ) (moves : ℕ) → Settles ys zs k moves → TakenOut place xs zs k (1 + moves)
    filled_out zs k moves settles =
        let e = entry_at xs place in
        let f' = filled in
        let short = f'.shorter in
        let few = settles.few in
        let apart : e.id ≢ d.id = λ same. not_end (one_place xs f place (length ys) placed within (omega arith) (same ∙ ap (λ (b : Entry). b.id) (read_here ∙ here))) in
        let none : h e.id ≡ None = put.others e.id apart ∙ put_none.here in
        let others : All (λ b. b.id ≢ e.id) ys = All-from_get_or (λ b. b.id ≢ e.id) ys (record { at = 0; id = 0; number = 0 }) (λ n n_in same. is_there _ n (filled_placed.found n n_in) (ap h same ∙ none)) in
        let digits = within_digits moves (length xs) (omega arith) in
        record {
          same = IsPermutation-trans xs (e ∷ ys) (e ∷ zs) same_less (IsPermutation-cons e ys zs settles.same);
          placed = settles.placed;
          gone = not_there zs k e.id settles.placed (All-permutation (λ b. b.id ≢ e.id) ys zs settles.same others);
          swaps = settles.same.moves;
          reached = settles.same.is ∙ ap (λ l. apply_swaps l settles.same.moves) is;
          counted = rw (not_last place (length xs) (omega arith)) (next_count moves _ settles.counted);
          few = omega arith;
          ordered = settles.ordered;
        }
      where
        not_end : (place ≡ length ys) → ⊥
        not_end e = omega arith

        next_count : (a b : ℕ) → a ≡ b → 1 + a ≡ b + 1
        next_count a b is' = omega arith

-- ---- an entry more

pub settled_more : (e : Entry) (xs zs : List Entry) (k : ℕ → Option ℕ) (moves : ℕ) → Settles (xs ++ e ∷ []) zs k moves → Added e xs zs k moves
settled_more e xs zs k moves settles =
    let long = length_permutation (xs ++ e ∷ []) zs settles.same in
    let few = settles.few in
    let digits = within_digits moves (length zs) (omega arith) in
    record {
      same = settles.same;
      counted = settles.counted;
      placed = settles.placed;
      few = omega arith;
      ordered = settles.ordered;
    }

pub ok_there : {T E : Type 0} (r : Result T E) (P : Type 0) → OnOk r P → is_err r ≡ false → P
ok_there (Ok t) P p is = p
ok_there (Err e) P p is = cc
