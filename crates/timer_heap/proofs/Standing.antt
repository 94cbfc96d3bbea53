-- What each call on sound timers answers and leaves.
use Rattle.std.proofs.Common.{◌≡◌, refl, sym, ap, ◌∙◌, subst, arith, ℕ, ◌+◌, ◌^◌, ◌≤◌, ◌<◌, List, [], ◌∷◌, ◌++◌, length, Bool, true, false, Option, Some, None, length-append}
use Rattle.std.specs.Prelude.{max, is_some, option_map, ◌==◌, ◌||◌}
use Rattle.std.specs.Borrow.{Bor}
use Rattle.std.specs.List.{slice_get}
use Rattle.std.specs.Option.{option_copied}
use Rattle.std.proofs.lemmas.Bool.{le-leb, lt-leb}
use Rattle.std.proofs.lemmas.List.Sorted.{length_permutation}
use Rattle.timer_heap.specs.declared.error.SetError.TheVariants.{Waiting, Exhausted}
use Rattle.timer_heap.specs.declared.heap.Entry.{Entry}
use Rattle.timer_heap.specs.Timers.{Timer, TimerOp, Set, Stop, PopDue, Counted, timing, StandsFor, MovesWithin, binary_digits, is_set, without, earliest, popped, left_by, next_time, set_fault}
use Rattle.timer_heap.specs.Heap.{entry_at, Added, TakenOut, in_order, IsSound}
use Rattle.timer_heap.proofs.Sound.{timer, length_in_order, none_in_order, set_where_placed, first_in_order, less_sound, less_in_order, more_sound, more_in_order}

pub same_timing : (a b : List Timer) (sets : ℕ) → a ≡ b → timing (record { entries = a; sets = sets; moves = 0 }) ≡ record { entries = b; sets = sets }
same_timing a b sets is = λ i. record { entries = is i; sets = sets }

-- ---- how many exchanges

moves_more : (m a b : ℕ) → m ≤ binary_digits b → a ≤ b → m ≤ binary_digits (max a b)
moves_more m a b low less = let e : max a b ≡ b = omega arith in rw e low

moves_less : (m a b : ℕ) → m ≤ binary_digits a → b ≤ a → m ≤ binary_digits (max a b)
moves_less m a b low less = let e : max a b ≡ a = omega arith in rw e low

-- ---- what stands waiting

not_there : (id : ℕ) (entries : List Timer) → is_set id entries ≡ false → without id entries ≡ entries
not_there id [] free = refl
not_there id (t ∷ ts) free =
    let other : (t.id == id) ≡ false = first_false (t.id == id) (is_set id ts) free in
    let others : is_set id ts ≡ false = rw other at free in
    rw other (ap (λ l. t ∷ l) (not_there id ts others))
  where
    first_false : (a b : Bool) → (a || b) ≡ false → a ≡ false
    first_false true b is = is
    first_false false b is = refl

-- what the first of a vector is, by the calls that read it
pub first_is : (xs ys : List Entry) (r : Option (Bor Entry)) (o p : Option Entry) → ys ≡ xs → option_copied r ≡ slice_get ys 0 → o ≡ option_copied r → o ≡ p → slice_get xs 0 ≡ p
first_is xs ys r o p lent read copied is = ap (λ l. slice_get l 0) (sym lent) ∙ sym read ∙ sym copied ∙ is

first_some : (xs : List Entry) (e : Entry) → slice_get xs 0 ≡ Some e → (0 < length xs) × (e ≡ entry_at xs 0)
first_some [] e is = cc
first_some (x ∷ xs) e is = (omega arith, cc)

first_none : (xs : List Entry) → slice_get xs 0 ≡ None → xs ≡ []
first_none [] is = refl
first_none (x ∷ xs) is = cc

module _ (sets was : ℕ) (xs : List Entry) (f : ℕ → Option ℕ) (sound : IsSound sets xs f) where
  abbrev old : Counted
  old = record { entries = in_order sets xs; sets = sets; moves = was }

  -- an id has a place where a timer of it waits
  pub is_set_as : (id : ℕ) (b : Bool) → is_some (f id) ≡ b → is_set id (in_order sets xs) ≡ b
  is_set_as id b is = sym (set_where_placed sets xs f id sound) ∙ is

  -- why a timer is not set
  pub waiting_as : (id : ℕ) → is_some (f id) ≡ true → set_fault id old ≡ Some Waiting
  unfolding set_fault
  waiting_as id placed = rw (is_set_as id true placed) refl

  pub exhausted_as : (id : ℕ) → is_some (f id) ≡ false → 2 ^ 62 ≤ sets → set_fault id old ≡ Some Exhausted
  unfolding set_fault
  exhausted_as id free many = rw (is_set_as id false free, le-leb (2 ^ 62) sets many) refl

  pub no_fault_as : (id : ℕ) → is_some (f id) ≡ false → sets < 2 ^ 62 → set_fault id old ≡ None
  unfolding set_fault
  no_fault_as id free few = rw (is_set_as id false free, lt-leb (2 ^ 62) sets few) refl

  module _ (at id moves : ℕ) (ys : List Entry) (g : ℕ → Option ℕ) (added : Added (record { at = at; id = id; number = sets }) xs ys g moves) where
    abbrev with_one : Counted
    with_one = record { entries = in_order (sets + 1) ys; sets = sets + 1; moves = moves }

    set_entries : in_order (sets + 1) ys ≡ in_order sets xs ++ record { at = at; id = id } ∷ []
    set_entries = more_in_order sets moves (record { at = at; id = id; number = sets }) xs ys f g sound added refl

    pub set_sound : IsSound (sets + 1) ys g
    set_sound = more_sound sets moves (record { at = at; id = id; number = sets }) xs ys f g sound added refl

    pub set_timing : timing with_one ≡ record { entries = in_order sets xs ++ record { at = at; id = id } ∷ []; sets = sets + 1 }
    set_timing = same_timing _ _ (sets + 1) set_entries

    pub set_stands : (past : List TimerOp) → StandsFor old past → StandsFor with_one (Set at id ∷ past)
    set_stands past s = record {
      waiting_is = set_entries ∙ ap (λ l. l ++ record { at = at; id = id } ∷ []) s.waiting_is;
      sets_is = ap (λ n. n + 1) s.sets_is;
    }

    pub set_moves : MovesWithin true old with_one
    set_moves =
        let before = length_in_order sets xs sound.below in
        let after = length_in_order (sets + 1) ys set_sound.below in
        let more = length_permutation (xs ++ record { at = at; id = id; number = sets } ∷ []) ys added.same in
        let long = length-append xs (record { at = at; id = id; number = sets } ∷ []) in
        moves_more moves (length (in_order sets xs)) (length (in_order (sets + 1) ys)) (rw after added.few) (omega arith)

  module _ (place moves : ℕ) (ys : List Entry) (g : ℕ → Option ℕ) (taken : TakenOut place xs ys g moves) where
    abbrev without_one : Counted
    without_one = record { entries = in_order sets ys; sets = sets; moves = moves }

    pub out_sound : IsSound sets ys g
    out_sound = less_sound sets place moves xs ys f g sound taken

    out_entries : (id : ℕ) → (entry_at xs place).id ≡ id → in_order sets ys ≡ without id (in_order sets xs)
    out_entries id is = subst (λ n. in_order sets ys ≡ without n (in_order sets xs)) is (less_in_order sets place moves xs ys f g sound taken)

    pub out_moves : MovesWithin true old without_one
    out_moves =
        let before = length_in_order sets xs sound.below in
        let after = length_in_order sets ys out_sound.below in
        let more = length_permutation xs (entry_at xs place ∷ ys) taken.same in
        moves_less moves (length (in_order sets xs)) (length (in_order sets ys)) (rw before taken.few) (omega arith)

    module _ (id : ℕ) (found : f id ≡ Some place) where
      stopped_entries : in_order sets ys ≡ without id (in_order sets xs)
      stopped_entries = out_entries id (sound.placed.only id place found).1

      pub stop_timing : timing without_one ≡ record { entries = without id (in_order sets xs); sets = sets }
      stop_timing = same_timing _ _ sets stopped_entries

      pub stop_stands : (past : List TimerOp) → StandsFor old past → StandsFor without_one (Stop id ∷ past)
      stop_stands past s = record { waiting_is = stopped_entries ∙ ap (without id) s.waiting_is; sets_is = s.sets_is }

  -- a stop of an id that has no place
  module _ (id : ℕ) (free : f id ≡ None) where
    kept_entries : in_order sets xs ≡ without id (in_order sets xs)
    kept_entries = sym (not_there id (in_order sets xs) (is_set_as id false (ap is_some free)))

    pub keep_timing : timing (record { entries = in_order sets xs; sets = sets; moves = 0 }) ≡ record { entries = without id (in_order sets xs); sets = sets }
    keep_timing = same_timing _ _ sets kept_entries

    pub keep_stands : (past : List TimerOp) → StandsFor old past → StandsFor (record { entries = in_order sets xs; sets = sets; moves = 0 }) (Stop id ∷ past)
    keep_stands past s = record { waiting_is = kept_entries ∙ ap (without id) s.waiting_is; sets_is = s.sets_is }

  -- ---- the first that is due

  earliest_as : (e : Entry) → slice_get xs 0 ≡ Some e → earliest (in_order sets xs) ≡ Some (timer e)
  earliest_as e is =
      let first = first_some xs e is in
      first_in_order sets xs f sound first.0 ∙ ap (λ d. Some (timer d)) (sym first.1)

  earliest_none : slice_get xs 0 ≡ None → earliest (in_order sets xs) ≡ None
  earliest_none is = ap (λ l. earliest (in_order sets l)) (first_none xs is) ∙ ap earliest (none_in_order sets)

  pub popped_as : (now : ℕ) (e : Entry) → slice_get xs 0 ≡ Some e → e.at ≤ now → popped now (in_order sets xs) ≡ Some (timer e)
  popped_as now e is due = rw (earliest_as e is, le-leb e.at now due) refl

  pub popped_none : (now : ℕ) (e : Entry) → slice_get xs 0 ≡ Some e → now < e.at → popped now (in_order sets xs) ≡ None
  popped_none now e is later = rw (earliest_as e is, lt-leb e.at now later) refl

  pub popped_empty : (now : ℕ) → slice_get xs 0 ≡ None → popped now (in_order sets xs) ≡ None
  popped_empty now is = rw (earliest_none is) refl

  pub next_as : next_time (in_order sets xs) ≡ option_map (λ (e : Entry). e.at) (slice_get xs 0)
  next_as = by_first (slice_get xs 0) refl
    where
      by_first : (o : Option Entry) → slice_get xs 0 ≡ o → next_time (in_order sets xs) ≡ option_map (λ (e : Entry). e.at) o
      by_first None is = rw (earliest_none is) refl
      by_first (Some e) is = rw (earliest_as e is) refl

  module _ (now moves : ℕ) (e : Entry) (ys : List Entry) (g : ℕ → Option ℕ) (is : slice_get xs 0 ≡ Some e) (due : e.at ≤ now) (taken : TakenOut 0 xs ys g moves) where
    abbrev popped_one : Counted
    popped_one = record { entries = in_order sets ys; sets = sets; moves = moves }

    left_entries : in_order sets ys ≡ left_by (popped now (in_order sets xs)) (in_order sets xs)
    left_entries = rw (popped_as now e is due) (out_entries 0 moves ys g taken e.id (ap (λ (d : Entry). d.id) (sym (first_some xs e is).1)))

    pub pop_timing : timing popped_one ≡ record { entries = left_by (popped now (in_order sets xs)) (in_order sets xs); sets = sets }
    pop_timing = same_timing _ _ sets left_entries

    pub pop_stands : (past : List TimerOp) → StandsFor old past → StandsFor popped_one (PopDue now ∷ past)
    pop_stands past s = record { waiting_is = left_entries ∙ ap (λ l. left_by (popped now l) l) s.waiting_is; sets_is = s.sets_is }

  -- a pop of none
  module _ (now : ℕ) (none : popped now (in_order sets xs) ≡ None) where
    stay_entries : in_order sets xs ≡ left_by (popped now (in_order sets xs)) (in_order sets xs)
    stay_entries = rw none refl

    pub stay_timing : timing (record { entries = in_order sets xs; sets = sets; moves = 0 }) ≡ record { entries = left_by (popped now (in_order sets xs)) (in_order sets xs); sets = sets }
    stay_timing = same_timing _ _ sets stay_entries

    pub stay_stands : (past : List TimerOp) → StandsFor old past → StandsFor (record { entries = in_order sets xs; sets = sets; moves = 0 }) (PopDue now ∷ past)
    stay_stands past s = record { waiting_is = stay_entries ∙ ap (λ l. left_by (popped now l) l) s.waiting_is; sets_is = s.sets_is }
