-- What an exchange, an entry more and an entry less leave of the places.
use Rattle.std.proofs.Common.{◌≡◌, ◌≢◌, sym, ap, ◌∙◌, arith, ℕ, ◌+◌, ◌<◌, List, [], ◌∷◌, ◌++◌, length, Option, Some, None, ⊎_elim, length-append}
use Rattle.std.specs.List.{swap}
use Rattle.std.proofs.lemmas.Bool.{cases_eq}
use Rattle.std.proofs.lemmas.Option.{same_Some}
use Rattle.timer_heap.specs.declared.heap.Entry.{Entry}
use Rattle.timer_heap.specs.Heap.{entry_at, ArePlaced, IsPut}
use Rattle.timer_heap.proofs.Heaps.{swapped_at, pushed_at, last_at, Filled}

-- two entries of one id are at one place
pub one_place : (xs : List Entry) (f : ℕ → Option ℕ) (i j : ℕ) → ArePlaced xs f → i < length xs → j < length xs → (entry_at xs i).id ≡ (entry_at xs j).id → i ≡ j
one_place xs f i j placed i_in j_in same = same_Some i j (sym (placed.found i i_in) ∙ ap f same ∙ placed.found j j_in)

pub is_there : (o : Option ℕ) (place : ℕ) → o ≡ Some place → o ≢ None
is_there o place is = λ none. let bad : Some place ≡ None = sym is ∙ none in cc

-- the other of two entries that were exchanged has a place still, where the one has its new one
pub second_there : (xs ys : List Entry) (f g : ℕ → Option ℕ) (a b : ℕ) → ArePlaced xs f → a < length xs → b < length xs → a ≢ b → ys ≡ swap xs a b
    → IsPut (entry_at ys a).id (Some a) f g → g (entry_at ys b).id ≢ None
second_there xs ys f g a b placed a_in b_in apart is put =
    let s = swapped_at xs ys a b a_in b_in is in
    let id_b = ap (λ (e : Entry). e.id) s.1 in
    let ids_apart : (entry_at ys b).id ≢ (entry_at ys a).id = λ same. apart (one_place xs f a b placed a_in b_in (sym id_b ∙ same ∙ ap (λ (e : Entry). e.id) s.0)) in
    is_there _ a (put.others _ ids_apart ∙ ap f id_b ∙ placed.found a a_in)

-- after an exchange of two entries, and a new place for the id of each
pub exchange_placed : (xs ys : List Entry) (f g h : ℕ → Option ℕ) (a b : ℕ) → ArePlaced xs f → a < length xs → b < length xs → a ≢ b → length ys ≡ length xs → ys ≡ swap xs a b
    → IsPut (entry_at ys a).id (Some a) f g → IsPut (entry_at ys b).id (Some b) g h → ArePlaced ys h
exchange_placed xs ys f g h a b placed a_in b_in apart long is put_a put_b =
    let s = swapped_at xs ys a b a_in b_in is in
    let ids_apart : (entry_at ys a).id ≢ (entry_at ys b).id = λ same. apart (sym (one_place xs f b a placed b_in a_in (ap (λ (e : Entry). e.id) (sym s.0) ∙ same ∙ ap (λ (e : Entry). e.id) s.1))) in
    let at_a : h (entry_at ys a).id ≡ Some a = put_b.others (entry_at ys a).id ids_apart ∙ put_a.here in
    let not_id : (k : ℕ) → k < length xs → k ≢ a → k ≢ b → ((entry_at ys k).id ≢ (entry_at ys a).id) × ((entry_at ys k).id ≢ (entry_at ys b).id) = λ k k_in k_a k_b. (
      λ same. k_b (one_place xs f k b placed k_in b_in (ap (λ (e : Entry). e.id) (sym (s.2 k k_a k_b)) ∙ same ∙ ap (λ (e : Entry). e.id) s.0)),
      λ same. k_a (one_place xs f k a placed k_in a_in (ap (λ (e : Entry). e.id) (sym (s.2 k k_a k_b)) ∙ same ∙ ap (λ (e : Entry). e.id) s.1)),
    ) in
    record {
      found = λ k k_in. ⊎_elim
          (λ (e : k ≡ b). rw e put_b.here)
          (λ (k_b : k ≡ b → ⊥). ⊎_elim
          (λ (e : k ≡ a). rw e at_a)
          (λ (k_a : k ≡ a → ⊥).
          let others = not_id k (omega arith) k_a k_b in
          put_b.others _ others.1 ∙ put_a.others _ others.0 ∙ ap (λ (e : Entry). f e.id) (s.2 k k_a k_b) ∙ placed.found k (omega arith))
          (cases_eq k a))
          (cases_eq k b);
      only = λ id k is_at. ⊎_elim
          (λ (e : id ≡ (entry_at ys b).id).
          let same : b ≡ k = same_Some b k (sym put_b.here ∙ ap h (sym e) ∙ is_at) in
          rw (← same) (omega arith, sym e))
          (λ (id_b : id ≡ (entry_at ys b).id → ⊥). ⊎_elim
          (λ (e : id ≡ (entry_at ys a).id).
          let same : a ≡ k = same_Some a k (sym at_a ∙ ap h (sym e) ∙ is_at) in
          rw (← same) (omega arith, sym e))
          (λ (id_a : id ≡ (entry_at ys a).id → ⊥).
          let old = placed.only id k (sym (put_b.others id id_b ∙ put_a.others id id_a) ∙ is_at) in
          let k_a : k ≢ a = λ e. id_b (sym old.1 ∙ ap (λ n. (entry_at xs n).id) e ∙ ap (λ (d : Entry). d.id) (sym s.1)) in
          let k_b : k ≢ b = λ e. id_a (sym old.1 ∙ ap (λ n. (entry_at xs n).id) e ∙ ap (λ (d : Entry). d.id) (sym s.0)) in
          (rw long old.0, ap (λ (d : Entry). d.id) (s.2 k k_a k_b) ∙ old.1))
          (cases_eq id (entry_at ys a).id))
          (cases_eq id (entry_at ys b).id);
    }

-- after an entry more, at the end
pub push_placed : (xs : List Entry) (e : Entry) (f g : ℕ → Option ℕ) → ArePlaced xs f → f e.id ≡ None → IsPut e.id (Some (length xs)) f g → ArePlaced (xs ++ e ∷ []) g
push_placed xs e f g placed free put =
    let long : length (xs ++ e ∷ []) ≡ length xs + 1 = length-append xs (e ∷ []) in
    record {
      found = λ k k_in. ⊎_elim
          (λ (last : k ≡ length xs). rw (last, last_at xs e) put.here)
          (λ (other : k ≡ length xs → ⊥).
          let near : k < length xs = omega arith in
          let id_other : (entry_at xs k).id ≢ e.id = λ same. is_there _ k (placed.found k near) (ap f same ∙ free) in
          rw (pushed_at xs e k near) (put.others _ id_other ∙ placed.found k near))
          (cases_eq k (length xs));
      only = λ id k is_at. ⊎_elim
          (λ (same : id ≡ e.id).
          let last : length xs ≡ k = same_Some _ _ (sym put.here ∙ ap g (sym same) ∙ is_at) in
          rw (← last) (omega arith, ap (λ (d : Entry). d.id) (last_at xs e) ∙ sym same))
          (λ (other : id ≡ e.id → ⊥).
          let old = placed.only id k (sym (put.others id other) ∙ is_at) in
          let near : k < length xs = old.0 in
          (omega arith, ap (λ (d : Entry). d.id) (pushed_at xs e k near) ∙ old.1))
          (cases_eq id e.id);
    }

-- after an entry less, where it was the last
pub drop_placed : (xs ys : List Entry) (place : ℕ) (f g : ℕ → Option ℕ) → Filled place xs ys → place ≡ length ys → ArePlaced xs f → IsPut (entry_at xs place).id None f g → ArePlaced ys g
drop_placed xs ys place f g filled last placed put = record {
  found = λ k k_in.
      let k_not : k ≢ place = omega arith in
      let id_other : (entry_at xs k).id ≢ (entry_at xs place).id = λ same. k_not (one_place xs f k place placed (omega arith) (omega arith) same) in
      rw (filled.others k k_not k_in) (put.others _ id_other ∙ placed.found k (omega arith));
  only = λ id k is_at. ⊎_elim
      (λ (same : id ≡ (entry_at xs place).id). absurd (is_there _ k is_at (ap g same ∙ put.here)))
      (λ (other : id ≡ (entry_at xs place).id → ⊥).
      let old = placed.only id k (sym (put.others id other) ∙ is_at) in
      let k_not : k ≢ place = λ e. other (sym old.1 ∙ ap (λ n. (entry_at xs n).id) e) in
      let near : k < length ys = omega (arith, old.0) in
      (near, ap (λ (d : Entry). d.id) (filled.others k k_not near) ∙ old.1))
      (cases_eq id (entry_at xs place).id);
}

-- after an entry less, where the last one fills its place
pub fill_placed : (xs ys : List Entry) (place : ℕ) (f g h : ℕ → Option ℕ) → Filled place xs ys → place < length ys → entry_at ys place ≡ entry_at xs (length ys) → ArePlaced xs f
    → IsPut (entry_at xs place).id None f g → IsPut (entry_at ys place).id (Some place) g h → ArePlaced ys h
fill_placed xs ys place f g h filled within here placed put_none put =
    let here_id : (entry_at ys place).id ≡ (entry_at xs (length ys)).id = ap (λ (d : Entry). d.id) here in
    record {
      found = λ k k_in. ⊎_elim
          (λ (e : k ≡ place). rw e put.here)
          (λ (k_not : k ≡ place → ⊥).
          let at_k = filled.others k k_not k_in in
          let id_gone : (entry_at ys k).id ≢ (entry_at xs place).id = λ same. k_not (one_place xs f k place placed (omega arith) (omega arith) (ap (λ (d : Entry). d.id) (sym at_k) ∙ same)) in
          let id_here : (entry_at ys k).id ≢ (entry_at ys place).id = λ same.
          let bad : k ≡ length ys = one_place xs f k (length ys) placed (omega arith) (omega arith) (ap (λ (d : Entry). d.id) (sym at_k) ∙ same ∙ here_id) in omega arith in
          put.others _ id_here ∙ put_none.others _ id_gone ∙ ap (λ (d : Entry). f d.id) at_k ∙ placed.found k (omega arith))
          (cases_eq k place);
      only = λ id k is_at. ⊎_elim
          (λ (same : id ≡ (entry_at ys place).id).
          let e : place ≡ k = same_Some place k (sym put.here ∙ ap h (sym same) ∙ is_at) in
          rw (← e) (within, sym same))
          (λ (id_not : id ≡ (entry_at ys place).id → ⊥). ⊎_elim
          (λ (same : id ≡ (entry_at xs place).id). absurd (is_there _ k is_at (put.others id id_not ∙ ap g same ∙ put_none.here)))
          (λ (other : id ≡ (entry_at xs place).id → ⊥).
          let old = placed.only id k (sym (put.others id id_not ∙ put_none.others id other) ∙ is_at) in
          let k_not : k ≢ place = λ e. other (sym old.1 ∙ ap (λ n. (entry_at xs n).id) e) in
          let k_last : k ≢ length ys = λ e. id_not (sym old.1 ∙ ap (λ n. (entry_at xs n).id) e ∙ sym here_id) in
          let near : k < length ys = omega (arith, old.0) in
          (near, ap (λ (d : Entry). d.id) (filled.others k k_not near) ∙ old.1))
          (cases_eq id (entry_at xs place).id))
          (cases_eq id (entry_at ys place).id);
    }
