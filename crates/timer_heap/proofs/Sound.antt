-- How a sound heap stands for the timers that wait, and what keeps it sound.
use Rattle.std.proofs.Common.{◌≡◌, refl, sym, ap, ◌∙◌, subst, rules, arith, ℕ, zero, suc, ◌+◌, ◌≤◌, ◌<◌, List, [], ◌∷◌, ◌++◌, length, Bool, true, false, Option, Some, None, inl, inr, ⊎_elim, add-one}
use Rattle.std.specs.Prelude.{◌⊎◌, All, filter, map, ◌==◌, not, is_some}
use Rattle.std.specs.List.{list_any}
use Rattle.std.proofs.lemmas.Bool.{cases_Bool, cases_eq, not_from_true, not_from_false, eq-eqb, ne_eqb}
use Rattle.std.proofs.lemmas.List.{append-nil, map-append, length-map}
use Rattle.std.proofs.lemmas.List.Elements.{All-nil, All-tail, All-push, All-map, All-weaker, All-get_or, All-from_get_or, filter-append}
use Rattle.std.proofs.lemmas.List.Folds.{list_any-append, list_any_none}
use Rattle.std.proofs.lemmas.List.Sorted.{All-permutation}
use Rattle.std.proofs.Math.Bool.{or-true}
use Rattle.timer_heap.specs.declared.heap.Entry.{Entry}
use Rattle.timer_heap.specs.Timers.{Timer, is_set, without, earliest}
use Rattle.timer_heap.specs.Heap.{entry_at, Leads, Added, TakenOut, Unchanged, ranked, in_order, IsSound}
use Rattle.timer_heap.proofs.FirstDue.{earliest_only}
use Rattle.timer_heap.proofs.Heaps.{root_leads}
use Rattle.timer_heap.proofs.Places.{is_there}
use Rattle.timer_heap.proofs.Ranks.{length_permuted, filter_none, filter_all, filter_one, ranked_permuted, ranked_all, ranked_below, ranked_filter, ranked_push, ranked_split, length_ranked}

abbrev pub timer : Entry → Timer
timer e = record { at = e.at; id = e.id }

-- ---- the timers of entries

any_mapped : (p : Timer → Bool) (xs : List Entry) → list_any p (map timer xs) ≡ list_any (λ e. p (timer e)) xs
any_mapped p [] = refl
any_mapped p (x ∷ xs) = rw (any_mapped p xs) refl

filter_mapped : (p : Timer → Bool) (xs : List Entry) → filter p (map timer xs) ≡ map timer (filter (λ e. p (timer e)) xs)
filter_mapped p [] = refl
filter_mapped p (x ∷ xs) = ⊎_elim
    (λ (kept : p (timer x) ≡ true). rw kept (ap (λ l. timer x ∷ l) (filter_mapped p xs)))
    (λ (other : p (timer x) ≡ false). rw other (filter_mapped p xs))
    (cases_Bool (p (timer x)))

pub length_in_order : (n : ℕ) (xs : List Entry) → All (λ e. e.number < n) xs → length (in_order n xs) ≡ length xs
unfolding in_order
length_in_order n xs low = length-map (ranked n xs) timer ∙ length_ranked n xs low

none_ranked : (n : ℕ) → ranked n [] ≡ []
unfolding ranked
none_ranked zero = refl
none_ranked (suc n) = ap (λ l. l ++ []) (none_ranked n)

pub none_in_order : (n : ℕ) → in_order n [] ≡ []
unfolding in_order
none_in_order n = ap (map timer) (none_ranked n)

is_place : (o : Option ℕ) → (o ≡ None) ⊎ ((k : ℕ) × (o ≡ Some k))
is_place None = inl refl
is_place (Some k) = inr (k, refl)

module _ (sets : ℕ) (xs : List Entry) (f : ℕ → Option ℕ) where
  -- what stands before and behind the entry at a place
  split_at : (k : ℕ) → IsSound sets xs f → k < length xs → (after : List Entry) × (ranked sets xs ≡ ranked (entry_at xs k).number xs ++ entry_at xs k ∷ after)
  split_at k sound k_in =
      let e = entry_at xs k in
      ranked_split sets xs e (All-get_or (λ (d : Entry). d.number < sets) xs k (record { at = 0; id = 0; number = 0 }) k_in sound.below)
      (filter_one (λ d. d.number == e.number) xs k k_in (eq-eqb e.number e.number refl) (sound.apart e.number))

  -- an id has a place where a timer of it waits
  pub set_where_placed : (id : ℕ) → IsSound sets xs f → is_some (f id) ≡ is_set id (in_order sets xs)
  unfolding in_order
  set_where_placed id sound = ⊎_elim
      (λ (none : f id ≡ None).
      let apart : All (λ e. (e.id == id) ≡ false) xs = All-from_get_or (λ (e : Entry). (e.id == id) ≡ false) xs (record { at = 0; id = 0; number = 0 })
      (λ k k_in. ne_eqb _ _ (λ same. is_there _ k (sound.placed.found k k_in) (ap f same ∙ none))) in
      rw none (sym (any_mapped (λ t. t.id == id) (ranked sets xs) ∙ list_any_none (λ (e : Entry). e.id == id) (ranked sets xs) (ranked_all (λ e. (e.id == id) ≡ false) sets xs apart))))
      (λ (some : (k : ℕ) × (f id ≡ Some k)).
      let at_k = sound.placed.only id some.0 some.1 in
      let parts = split_at some.0 sound at_k.0 in
      let e = entry_at xs some.0 in
      rw some.1 (sym (any_mapped (λ t. t.id == id) (ranked sets xs) ∙ ap (list_any (λ (d : Entry). d.id == id)) parts.1
      ∙ list_any-append (λ (d : Entry). d.id == id) (ranked e.number xs) (e ∷ parts.0) ∙ rw (eq-eqb e.id id at_k.1) (or-true _))))
      (is_place (f id))

  -- the root is the earliest
  pub first_in_order : IsSound sets xs f → 0 < length xs → earliest (in_order sets xs) ≡ Some (timer (entry_at xs 0))
  unfolding in_order
  first_in_order sound some =
      let e = entry_at xs 0 in
      let parts = split_at 0 sound some in
      let led = root_leads xs sound.ordered in
      let split : map timer (ranked sets xs) ≡ map timer (ranked e.number xs) ++ timer e ∷ map timer parts.0 = ap (map timer) parts.1 ∙ map-append timer (ranked e.number xs) (e ∷ parts.0) in
      let before = ranked_all (Leads e) e.number xs led in
      let lower = ranked_below e.number xs in
      let behind = all_behind (Leads e) (ranked e.number xs) (e ∷ parts.0) (subst (All (Leads e)) parts.1 (ranked_all (Leads e) sets xs led)) in
      rw split (earliest_only (map timer (ranked e.number xs)) (map timer parts.0) (timer e)
      (All-map (λ (t : Timer). e.at < t.at) timer (ranked e.number xs) (λ k d k_in. is_later e _ (before k d k_in) (lower k d k_in)))
      (All-map (λ (t : Timer). e.at ≤ t.at) timer parts.0 (All-weaker (Leads e) (λ d. e.at ≤ d.at) (λ d leads. leads.no_later) parts.0 (All-tail (Leads e) e parts.0 behind))))
    where
      is_later : (e d : Entry) → Leads e d → d.number < e.number → e.at < d.at
      is_later e d leads low = ⊎_elim
          (λ (same : e.at ≡ d.at). let turn = leads.in_turn same in absurd (omega arith))
          (λ (other : e.at ≡ d.at → ⊥). let no_later = leads.no_later in omega arith)
          (cases_eq e.at d.at)

      all_behind : (P : Entry → Type 0) (xs ys : List Entry) → All P (xs ++ ys) → All P ys
      all_behind P [] ys all = all
      all_behind P (x ∷ xs) ys all = all_behind P xs ys (All-tail P x (xs ++ ys) all)

-- ---- an entry less

fewer_kept : (p : Entry → Bool) (e : Entry) (xs : List Entry) → length (filter p xs) ≤ length (filter p (e ∷ xs))
fewer_kept p e xs = ⊎_elim
    (λ (kept : p e ≡ true). rw kept (omega arith))
    (λ (other : p e ≡ false). rw other (omega arith))
    (cases_Bool (p e))

module _ (sets place moves : ℕ) (xs ys : List Entry) (f g : ℕ → Option ℕ) where
  pub less_sound : IsSound sets xs f → TakenOut place xs ys g moves → IsSound sets ys g
  less_sound sound taken =
      let e = entry_at xs place in
      record {
        ordered = taken.ordered;
        placed = taken.placed;
        below = All-tail (λ (d : Entry). d.number < sets) e ys (All-permutation (λ (d : Entry). d.number < sets) xs (e ∷ ys) taken.same sound.below);
        apart = λ n.
            let one = sound.apart n in
            let same = length_permuted (λ d. d.number == n) xs (e ∷ ys) taken.same in
            let fewer = fewer_kept (λ d. d.number == n) e ys in
            omega arith;
      }

  -- the timer of that id is out, and the others stay in their order
  pub less_in_order : IsSound sets xs f → TakenOut place xs ys g moves → in_order sets ys ≡ without (entry_at xs place).id (in_order sets xs)
  unfolding in_order
  less_in_order sound taken =
      let e = entry_at xs place in
      let q : Entry → Bool = λ d. not (d.id == e.id) in
      let others : All (λ d. q d ≡ true) ys = All-from_get_or (λ d. q d ≡ true) ys (record { at = 0; id = 0; number = 0 })
      (λ k k_in. not_from_false _ (ne_eqb _ _ (λ same. is_there _ k (taken.placed.found k k_in) (ap g same ∙ taken.gone)))) in
      let left : filter q (e ∷ ys) ≡ ys = rw (not_from_true (e.id == e.id) (eq-eqb e.id e.id refl)) (filter_all q ys others) in
      sym (filter_mapped (λ t. not (t.id == e.id)) (ranked sets xs)
      ∙ ap (map timer) (ap (filter q) (sym (ranked_permuted sets xs (e ∷ ys) taken.same sound.apart)) ∙ ranked_filter q sets (e ∷ ys) ∙ ap (ranked sets) left))

-- ---- an entry more

next_below : (a sets : ℕ) → a < sets → a < sets + 1
next_below a sets low = omega arith

own_below : (e : Entry) (sets : ℕ) → e.number ≡ sets → e.number < sets + 1
own_below e sets is = omega arith

too_low : (a n sets : ℕ) → a < sets → n ≡ sets → (a == n) ≡ false
too_low a n sets low is = grind (arith, rules)

module _ (sets moves : ℕ) (e : Entry) (xs ys : List Entry) (f g : ℕ → Option ℕ) where
  none_of_number : (n : ℕ) → IsSound sets xs f → n ≡ sets → filter (λ d. d.number == n) xs ≡ []
  none_of_number n sound is = filter_none (λ d. d.number == n) xs (All-weaker (λ d. d.number < sets) (λ d. (d.number == n) ≡ false) (λ d low. too_low d.number n sets low is) xs sound.below)

  apart_with : IsSound sets xs f → e.number ≡ sets → (n : ℕ) → length (filter (λ d. d.number == n) (xs ++ e ∷ [])) ≤ 1
  apart_with sound is n = rw (filter-append (λ (d : Entry). d.number == n) xs (e ∷ [])) (⊎_elim
      (λ (same : n ≡ sets). rw (none_of_number n sound same) (at_most_one (e.number == n)))
      (λ (other : n ≡ sets → ⊥). rw (ne_eqb e.number n (λ here. other (sym here ∙ is)), append-nil (filter (λ d. d.number == n) xs)) (sound.apart n))
      (cases_eq n sets))
    where
      at_most_one : (b : Bool) → length ([] ++ filter (λ d. b) (e ∷ [])) ≤ 1
      at_most_one true = omega arith
      at_most_one false = omega arith

  pub more_sound : IsSound sets xs f → Added e xs ys g moves → e.number ≡ sets → IsSound (sets + 1) ys g
  more_sound sound added is = record {
    ordered = added.ordered;
    placed = added.placed;
    below = All-permutation (λ (d : Entry). d.number < sets + 1) (xs ++ e ∷ []) ys added.same
        (All-push (λ (d : Entry). d.number < sets + 1) xs e (All-weaker (λ d. d.number < sets) (λ d. d.number < sets + 1) (λ d low. next_below d.number sets low) xs sound.below) (own_below e sets is));
    apart = λ n.
        let one = apart_with sound is n in
        let same = length_permuted (λ d. d.number == n) (xs ++ e ∷ []) ys added.same in
        omega arith;
  }

  pub more_in_order : IsSound sets xs f → Added e xs ys g moves → e.number ≡ sets → in_order (sets + 1) ys ≡ in_order sets xs ++ timer e ∷ []
  unfolding in_order ranked
  more_in_order sound added is =
      rw (add-one sets) (ap (map timer) (ranked_permuted (suc sets) (xs ++ e ∷ []) ys added.same (apart_with sound is)
      ∙ ap (λ l. l ++ filter (λ d. d.number == sets) (xs ++ e ∷ [])) (ranked_push sets xs e (omega arith))
      ∙ ap (λ l. ranked sets xs ++ l) (filter-append (λ (d : Entry). d.number == sets) xs (e ∷ []) ∙ rw (none_of_number sets sound refl, eq-eqb e.number sets is) refl))
      ∙ map-append timer (ranked sets xs) (e ∷ []))

-- ---- no change, and none yet

pub same_sound : (sets : ℕ) (xs ys : List Entry) (f g : ℕ → Option ℕ) → IsSound sets xs f → Unchanged xs ys f g → IsSound sets ys g
same_sound sets xs ys f g sound same = rw same.entries (record {
  ordered = sound.ordered;
  placed = record {
    found = λ k k_in. same.places _ ∙ sound.placed.found k k_in;
    only = λ id k is_at. sound.placed.only id k (sym (same.places id) ∙ is_at);
  };
  below = sound.below;
  apart = sound.apart;
})

pub new_sound : (f : ℕ → Option ℕ) → ((id : ℕ) → f id ≡ None) → IsSound 0 [] f
new_sound f none = record {
  ordered = record { leads = λ p k under k_in. absurd (omega arith) };
  placed = record {
    found = λ k k_in. absurd (omega arith);
    only = λ id k is_at. absurd (is_there _ k is_at (none id));
  };
  below = All-nil (λ e. e.number < 0);
  apart = λ n. omega arith;
}
