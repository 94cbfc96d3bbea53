-- The places of a queue in a vector, and what the calls on it leave.
use Rattle.std.proofs.Common.{◌≡◌, refl, sym, ap, subst, ◌∙◌, arith, rules, ℕ, ◌-◌, ◌<◌, ◌≤◌, List, [], ◌∷◌, ◌++◌, length, take, drop, replicate, Option, Some, None, Bool, true, false, ⊎_elim, slice_index_or, slice_set}
use Rattle.std.specs.Prelude.{◌==◌, not, filter, is_some, is_none, if◌then◌else◌}
use Rattle.std.specs.Option.{option_eq}
use Rattle.std.specs.Slice.{IsItemAt}
use Rattle.std.specs.Borrow.{Bor}
use Rattle.std.proofs.lemmas.Bool.{cases_Bool, cases_lt, eqb-true, eq-eqb, ne_eqb}
use Rattle.std.proofs.lemmas.List.{get_or-set_same, get_or-set_other, get_or_past, get_or_read, get_or_append_left, get_or-append_right, get_or-replicate, length-replicate, length-set, take_all, take-append-le}
use Rattle.std.proofs.lemmas.Option.{same_Some}
use Rattle.context_tree.specs.declared.queue.Place.{Place}
use Rattle.context_tree.specs.Context.{Id, same}
use Rattle.context_tree.specs.Walks.{is_in, first_key, keys_of}
use Rattle.context_tree.specs.Queue.{QueueValue, empty_place, place_at, is_below, joined, items_in, IsQueue}
use Rattle.context_tree.proofs.Keys.{few_below, in_left, in_right}
use Rattle.context_tree.proofs.Linking.{apart}
use Rattle.context_tree.proofs.Chaining.{place, written, last_slot, keys_both, keys_long, in_here, in_later, first_in, last_in, last_is, number_is, before_is, after_is, chain_same, ids_are, pushed, taken, filter_one, filter_none}

pub written_place : (places : List Place) (key : ℕ) (p : Place) → key < length places → (k : ℕ) → place_at (slice_set places key p) k ≡ written (place_at places) key p k
written_place places key p lt k = ⊎_elim
    (λ (same : k ≡ key). rw (same, eq-eqb key key refl) (get_or-set_same places key p empty_place lt))
    (λ (other : k ≡ key → ⊥). rw (ne_eqb k key other) (get_or-set_other places key k p empty_place other))
    (apart k key)

-- one that waits has its place within the vector
pub place_below : (places : List Place) (k : ℕ) → is_some (place_at places k).number ≡ true → k < length places
place_below places k is = ⊎_elim
    (λ (lt : k < length places). lt)
    (λ (le : length places ≤ k). let bad : false ≡ true = sym (ap (λ (p : Place). is_some p.number) (get_or_past places k empty_place le)) ∙ is in cc)
    (cases_lt k (length places))

pub queue_items : (places : List Place) (first last : Option ℕ) (items : List Id) → IsQueue (place_at places) first last items → items_in places first ≡ items
queue_items places first last items q =
    let low : length (keys_of items) ≤ length places = few_below (keys_of items) (length places) q.apart (λ k is. place_below places k (q.only k ∙ is)) in
    let long : length (keys_of items) ≡ length items = keys_long items in
    ids_are (place_at places) (length places) None first last items q.chain (omega (arith, low, long))

pub sound : (places : List Place) (first last : Option ℕ) (items : List Id) → IsQueue (place_at places) first last items → IsQueue (place_at places) first last (items_in places first)
sound places first last items q = subst (λ xs. IsQueue (place_at places) first last xs) (sym (queue_items places first last items q)) q

-- ---- what the calls leave

-- a value that is taken apart at a key
pub record Split (items : List Id) (key : ℕ) : Type 0 where
  pub front : List Id
  pub back : List Id
  pub id : Id
  pub parts : items ≡ front ++ id ∷ back
  pub key_is : id.1 ≡ key

pub split : (items : List Id) (key : ℕ) → is_in key (keys_of items) ≡ true → Split items key
split [] key is = cc
split (x ∷ xs) key is = ⊎_elim
    (λ (here : (key == x.1) ≡ true). record { front = []; back = xs; id = x; parts = refl; key_is = sym (eqb-true key x.1 here) })
    (λ (other : (key == x.1) ≡ false).
    let rest = split xs key (rw other at is) in
    record { front = x ∷ rest.front; back = rest.back; id = rest.id; parts = ap (λ l. x ∷ l) rest.parts; key_is = rest.key_is })
    (cases_Bool (key == x.1))

-- what a read of a place gives
pub read_place : (places : List Place) (slot : ℕ) (p : Place) → slot < length places → p ≡ slice_index_or places slot p → p ≡ place_at places slot
read_place places slot p within is = get_or_read places slot p within is empty_place

set_long : (places mid : List Place) (slot : ℕ) (p : Place) → mid ≡ slice_set places slot p → length mid ≡ length places
set_long places mid slot p is = ap (λ l. length l) is ∙ length-set places slot p

-- a vector of which one place was written, and which then was lent as a slice
pub lent_back : (places mid new : List Place) (slot n : ℕ) (p : Place) → n ≡ length places → mid ≡ slice_set places slot p → length new ≡ length mid → take n (new ++ drop (length new) (slice_set places slot p)) ≡ new
lent_back places mid new slot n p n_is mid_is new_long =
    let same : n ≡ length new = n_is ∙ sym (set_long places mid slot p mid_is) ∙ sym new_long in
    rw same (take-append-le (length new) new (drop (length new) (slice_set places slot p)) (omega arith) ∙ take_all (length new) new (omega arith))

-- what a look at a place gives
pub got : (places : List Place) (slot : ℕ) (r : Option (Bor Place)) (p : Bor Place) → IsItemAt places slot r → r ≡ Some p → p.now ≡ place_at places slot
got places slot r p is some = let h = subst (λ o. IsItemAt places slot o) some is in get_or_read places slot p.now h.3.0 h.1 empty_place

pub got_none : (places : List Place) (slot : ℕ) (r : Option (Bor Place)) → IsItemAt places slot r → r ≡ None → place_at places slot ≡ empty_place
got_none places slot r is none = let h = subst (λ o. IsItemAt places slot o) none is in get_or_past places slot empty_place h.3

equal_true : (o : Option ℕ) (n : ℕ) → option_eq (λ (a b : ℕ). a == b) o (Some n) ≡ true → o ≡ Some n
equal_true None n is = cc
equal_true (Some a) n is = ap Some (eqb-true a n is)

equal_false : (o : Option ℕ) (n : ℕ) → option_eq (λ (a b : ℕ). a == b) o (Some n) ≡ false → o ≡ Some n → ⊥
equal_false None n is e = cc
equal_false (Some a) n is e = let bad : true ≡ false = sym (eq-eqb a n (same_Some a n e)) ∙ is in cc

below : (o : Option ℕ) (n : ℕ) → ((k : ℕ) → o ≡ Some k → k < n) → is_below o n ≡ true
below None n low = refl
below (Some k) n low = let lt : k < n = low k refl in grind (arith, rules)

pub last_below : (places mid : List Place) (slot : ℕ) (p : Place) (first last : Option ℕ) → IsQueue (place_at places) first last (items_in places first) → mid ≡ slice_set places slot p → is_below last (length mid) ≡ true
last_below places mid slot p first last q mid_is = let long : length mid ≡ length places = set_long places mid slot p mid_is in below last (length mid) (λ k is. rw long (place_below places k (q.only k ∙ by_items (items_in places first) k (sym (last_is (place_at places) None first last (items_in places first) q.chain) ∙ is))))
  where
    by_items : (xs : List Id) (k : ℕ) → last_slot None xs ≡ Some k → is_in k (keys_of xs) ≡ true
    by_items [] k is = cc
    by_items (x ∷ xs) k is = last_in None x xs k is

module _ (places : List Place) (v : QueueValue) (first last : Option ℕ) (view : record { items = items_in places first; room = length places } ≡ v) (q : IsQueue (place_at places) first last (items_in places first)) where
  same_items : items_in places first ≡ v.items
  same_items = ap (λ (u : QueueValue). u.items) view

  queue : IsQueue (place_at places) first last v.items
  queue = subst (λ xs. IsQueue (place_at places) first last xs) same_items q

  read_there : (slot : ℕ) (p : Place) → is_in slot (keys_of v.items) ≡ true → p ≡ slice_index_or places slot p → p ≡ place_at places slot
  read_there slot p here read = read_place places slot p (place_below places slot (queue.only slot ∙ here)) read

  pub beside_below : (slot : ℕ) (mid : List Place) (p : Place) → is_in slot (keys_of v.items) ≡ true → p ≡ slice_index_or places slot p → mid ≡ slice_set places slot empty_place
      → (is_below p.before (length mid) ≡ true) × (is_below p.after (length mid) ≡ true)
  beside_below slot mid p here read mid_is =
      let n : ℕ = length mid in
      let long : n ≡ length places = set_long places mid slot empty_place mid_is in
      let p_is : p ≡ place_at places slot = read_there slot p here read in
      let s = split v.items slot here in
      let c = rw s.parts at queue.chain in
      let known : (k : ℕ) → is_in k (keys_of (s.front ++ s.id ∷ s.back)) ≡ true → k < n = λ k is. rw long (place_below places k (queue.only k ∙ ap (λ l. is_in k (keys_of l)) s.parts ∙ is)) in
      let at_slot : place_at places s.id.1 ≡ p = ap (place_at places) s.key_is ∙ sym p_is in (
        below p.before n (λ k is. known k (ap (is_in k) (keys_both s.front (s.id ∷ s.back)) ∙ in_left k (keys_of s.front) (keys_of (s.id ∷ s.back))
            (by_front s.front k (sym (before_is (place_at places) s.front s.back s.id None first last c) ∙ ap (λ (r : Place). r.before) at_slot ∙ is)))),
        below p.after n (λ k is. known k (ap (is_in k) (keys_both s.front (s.id ∷ s.back)) ∙ in_right k (keys_of s.front) (keys_of (s.id ∷ s.back))
            (in_later k s.id.1 (keys_of s.back) (first_in s.back k (sym (after_is (place_at places) s.front s.back s.id None first last c) ∙ ap (λ (r : Place). r.after) at_slot ∙ is))))),
      )
    where
      by_front : (xs : List Id) (k : ℕ) → last_slot None xs ≡ Some k → is_in k (keys_of xs) ≡ true
      by_front [] k is = cc
      by_front (x ∷ xs) k is = last_in None x xs k is

  pub behind : (slot : ℕ) (p : Place) → is_in slot (keys_of v.items) ≡ true → p ≡ slice_index_or places slot p → (front back : List Id) (x : Id) → v.items ≡ front ++ x ∷ back → x.1 ≡ slot → p.after ≡ first_key (keys_of back)
  behind slot p here read front back x parts key =
      let c = rw parts at queue.chain in
      ap (λ (r : Place). r.after) (read_there slot p here read ∙ ap (place_at places) (sym key)) ∙ after_is (place_at places) front back x None first last c

  pub push_done : (mid new : List Place) (shown id : Id) (f : Option ℕ) → id.1 < v.room → is_in id.1 (keys_of v.items) ≡ false → shown ≡ id
      → mid ≡ slice_set places shown.1 (place (Some shown.0) last None) → ((k : ℕ) → place_at new k ≡ joined last (Some shown.1) k (place_at mid k))
      → f ≡ (if is_none last then Some shown.1 else first)
      → IsQueue (place_at new) f (Some shown.1) (items_in new f) × (items_in new f ≡ v.items ++ id ∷ [])
  push_done mid new shown id f low out same mid_is new_is f_is =
      let long : length places ≡ v.room = ap (λ (u : QueueValue). u.room) view in
      let within : id.1 < length places = omega (arith, low, long) in
      let mid_own : mid ≡ slice_set places id.1 (place (Some id.0) last None) = mid_is ∙ ap (λ (z : Id). slice_set places z.1 (place (Some z.0) last None)) same in
      let is : (k : ℕ) → place_at new k ≡ joined last (Some id.1) k (written (place_at places) id.1 (place (Some id.0) last None) k) = λ k.
      new_is k ∙ ap (λ (z : Id). joined last (Some z.1) k (place_at mid k)) same
      ∙ ap (joined last (Some id.1) k) (ap (λ l. place_at l k) mid_own ∙ written_place places id.1 (place (Some id.0) last None) within k) in
      let done : IsQueue (place_at new) (if is_none last then Some id.1 else first) (Some id.1) (v.items ++ id ∷ []) = pushed (place_at places) (place_at new) id last is first v.items queue out in
      let first_is : f ≡ (if is_none last then Some id.1 else first) = f_is ∙ ap (λ (z : Id). if is_none last then Some z.1 else first) same in
      let all : IsQueue (place_at new) f (Some shown.1) (v.items ++ id ∷ []) = rw (first_is, same) done in
      (sound new f (Some shown.1) (v.items ++ id ∷ []) all, queue_items new f (Some shown.1) (v.items ++ id ∷ []) all)

  pub take_done : (mid new : List Place) (slot : ℕ) (p : Place) (f l : Option ℕ) → is_in slot (keys_of v.items) ≡ true → p ≡ slice_index_or places slot p
      → mid ≡ slice_set places slot empty_place → ((k : ℕ) → place_at new k ≡ joined p.before p.after k (place_at mid k))
      → f ≡ (if is_none p.before then p.after else first) → l ≡ (if is_none p.after then p.before else last)
      → IsQueue (place_at new) f l (items_in new f) × ((front back : List Id) (x : Id) → v.items ≡ front ++ x ∷ back → x.1 ≡ slot → items_in new f ≡ front ++ back)
  take_done mid new slot p f l here read mid_is new_is f_is l_is = (
    let s = split v.items slot here in sound new f l (s.front ++ s.back) (left s.front s.back s.id s.parts s.key_is),
    λ front back x parts key. queue_items new f l (front ++ back) (left front back x parts key),
  )
    where
      left : (front back : List Id) (x : Id) → v.items ≡ front ++ x ∷ back → x.1 ≡ slot → IsQueue (place_at new) f l (front ++ back)
      left front back x parts key =
          let at_x : place_at places x.1 ≡ p = ap (place_at places) key ∙ sym (read_there slot p here read) in
          let within : slot < length places = place_below places slot (queue.only slot ∙ here) in
          let is : (k : ℕ) → place_at new k ≡ joined (place_at places x.1).before (place_at places x.1).after k (written (place_at places) x.1 empty_place k) = λ k.
          new_is k ∙ ap (λ (r : Place). joined r.before r.after k (place_at mid k)) (sym at_x)
          ∙ ap (joined (place_at places x.1).before (place_at places x.1).after k) (ap (λ ps. place_at ps k) mid_is ∙ written_place places slot empty_place within k ∙ ap (λ z. written (place_at places) z empty_place k) (sym key)) in
          let done = taken (place_at places) (place_at new) front back x first last (rw parts at queue) is in
          let first_is : f ≡ (if is_none (place_at places x.1).before then (place_at places x.1).after else first) = f_is ∙ ap (λ (r : Place). if is_none r.before then r.after else first) (sym at_x) in
          let last_is' : l ≡ (if is_none (place_at places x.1).after then (place_at places x.1).before else last) = l_is ∙ ap (λ (r : Place). if is_none r.after then r.before else last) (sym at_x) in
          rw (first_is, last_is') done

  -- the first, where there is one
  pub first_stands : (slot number : ℕ) (p : Place) → first ≡ Some slot → p ≡ slice_index_or places slot p → p.number ≡ Some number
      → (rest : List Id) × (v.items ≡ (number, slot) ∷ rest)
  first_stands slot number p first_is read number_is' = by_items v.items queue refl
    where
      by_items : (xs : List Id) → IsQueue (place_at places) first last xs → v.items ≡ xs → (rest : List Id) × (v.items ≡ (number, slot) ∷ rest)
      by_items [] r is = let bad : None ≡ Some slot = sym r.chain.0 ∙ first_is in cc
      by_items (x ∷ xs) r is =
          let key : x.1 ≡ slot = same_Some x.1 slot (sym r.chain.0 ∙ first_is) in
          let here : is_in slot (keys_of (x ∷ xs)) ≡ true = subst (λ z. is_in z (keys_of (x ∷ xs)) ≡ true) key (in_here x.1 (keys_of xs)) in
          let p_is : p ≡ place_at places slot = read_place places slot p (place_below places slot (r.only slot ∙ here)) read in
          let own : x.0 ≡ number = same_Some x.0 number (sym (number_is (place_at places) [] xs x None first last r.chain) ∙ ap (λ (s : ℕ). (place_at places s).number) key ∙ ap (λ (z : Place). z.number) (sym p_is) ∙ number_is') in
          (xs, is ∙ ap (λ n. (n, x.1) ∷ xs) own ∙ ap (λ n. (number, n) ∷ xs) key)

  -- it is taken out
  pub first_goes : (slot number : ℕ) (p : Place) (left : List Id) → first ≡ Some slot → p ≡ slice_index_or places slot p → p.number ≡ Some number
      → ((front back : List Id) (x : Id) → v.items ≡ front ++ x ∷ back → x.1 ≡ slot → left ≡ front ++ back) → v.items ≡ (number, slot) ∷ left
  first_goes slot number p left first_is read number_is' goes =
      let f = first_stands slot number p first_is read number_is' in
      f.1 ∙ ap (λ l. (number, slot) ∷ l) (sym (goes [] f.0 (number, slot) f.1 refl))

  -- one that waits, by its id
  pub one_goes : (id : Id) (left : List Id) → (place_at places id.1).number ≡ Some id.0
      → ((front back : List Id) (x : Id) → v.items ≡ front ++ x ∷ back → x.1 ≡ id.1 → left ≡ front ++ back) → left ≡ filter (λ x. not (same x id)) v.items
  one_goes id left number goes =
      let s = split v.items id.1 (sym (queue.only id.1) ∙ ap is_some number) in
      let own : s.id.0 ≡ id.0 = same_Some s.id.0 id.0 (sym (number_is (place_at places) s.front s.back s.id None first last (rw s.parts at queue.chain)) ∙ ap (λ z. (place_at places z).number) s.key_is ∙ number) in
      goes s.front s.back s.id s.parts s.key_is ∙ sym (ap (filter (λ x. not (same x id))) s.parts ∙ filter_one s.front s.back s.id id (rw s.parts at queue.apart) own s.key_is)

  -- where none of that id waits
  pub none_goes : (id : Id) → ((place_at places id.1).number ≡ Some id.0 → ⊥) → v.items ≡ filter (λ x. not (same x id)) v.items
  none_goes id other = sym (filter_none (place_at places) id None first last v.items queue.chain other)

  -- the call that takes out one by its id
  pub remove_found : (lent : List Place) (shown id : Id) (r : Option (Bor Place)) (p : Bor Place) (left : List Id) → lent ≡ places → shown ≡ id → IsItemAt lent shown.1 r → r ≡ Some p
      → option_eq (λ (a b : ℕ). a == b) p.now.number (Some shown.0) ≡ true
      → ((front back : List Id) (x : Id) → v.items ≡ front ++ x ∷ back → x.1 ≡ shown.1 → left ≡ front ++ back) → left ≡ filter (λ x. not (same x id)) v.items
  remove_found lent shown id r p left lent_is same' look some equal goes =
      let number : (place_at lent shown.1).number ≡ Some shown.0 = ap (λ (z : Place). z.number) (sym (got lent shown.1 r p look some)) ∙ equal_true p.now.number shown.0 equal in
      one_goes id left (ap (λ (z : Id). (place_at places z.1).number) (sym same') ∙ ap (λ ps. (place_at ps shown.1).number) (sym lent_is) ∙ number ∙ ap (λ (z : Id). Some z.0) same')
      (λ front back x parts key. goes front back x parts (key ∙ ap (λ (z : Id). z.1) (sym same')))

  pub remove_other : (lent : List Place) (shown id : Id) (r : Option (Bor Place)) (p : Bor Place) → lent ≡ places → shown ≡ id → IsItemAt lent shown.1 r → r ≡ Some p
      → option_eq (λ (a b : ℕ). a == b) p.now.number (Some shown.0) ≡ false → v.items ≡ filter (λ x. not (same x id)) v.items
  remove_other lent shown id r p lent_is same' look some equal = none_goes id (λ is.
      equal_false p.now.number shown.0 equal
      (ap (λ (z : Place). z.number) (got lent shown.1 r p look some) ∙ ap (λ ps. (place_at ps shown.1).number) lent_is ∙ ap (λ (z : Id). (place_at places z.1).number) same' ∙ is ∙ ap (λ (z : Id). Some z.0) (sym same')))

  pub remove_none : (lent : List Place) (shown id : Id) (r : Option (Bor Place)) → lent ≡ places → shown ≡ id → IsItemAt lent shown.1 r → r ≡ None → v.items ≡ filter (λ x. not (same x id)) v.items
  remove_none lent shown id r lent_is same' look none = none_goes id (λ is.
      let bad : None ≡ Some id.0 = ap (λ (z : Place). z.number) (sym (got_none lent shown.1 r look none)) ∙ ap (λ ps. (place_at ps shown.1).number) lent_is ∙ ap (λ (z : Id). (place_at places z.1).number) same' ∙ is in
      cc)

-- ---- more places

empty_many : (n k : ℕ) → slice_index_or (replicate n empty_place) k empty_place ≡ empty_place
empty_many n k = ⊎_elim
    (λ (lt : k < n). get_or-replicate n k empty_place empty_place lt)
    (λ (le : n ≤ k). get_or_past (replicate n empty_place) k empty_place (let long : length (replicate n empty_place) ≡ n = length-replicate n empty_place in omega (arith, long, le)))
    (cases_lt k n)

pub resized : (old new : List Place) (n long : ℕ) (more : Bool) → length old ≤ n → long ≡ length old → new ≡ (if more then take n old ++ replicate (n - long) empty_place else old) → (k : ℕ) → place_at new k ≡ place_at old k
resized old new n long false le long_is is k = ap (λ l. place_at l k) is
resized old new n long true le long_is is k =
    let all : new ≡ old ++ replicate (n - long) empty_place = is ∙ ap (λ l. l ++ replicate (n - long) empty_place) (take_all n old le) in
    ap (λ l. place_at l k) all ∙ ⊎_elim
    (λ (lt : k < length old). get_or_append_left old (replicate (n - long) empty_place) empty_place k lt)
    (λ (past : length old ≤ k).
    get_or-append_right old (replicate (n - long) empty_place) (length old) k empty_place refl past ∙ empty_many (n - long) (k - length old)
    ∙ sym (get_or_past old k empty_place past))
    (cases_lt k (length old))

-- places that say the same
pub queue_same : (old new : List Place) (first last : Option ℕ) → ((k : ℕ) → place_at new k ≡ place_at old k) → IsQueue (place_at old) first last (items_in old first)
    → IsQueue (place_at new) first last (items_in new first) × (items_in new first ≡ items_in old first)
queue_same old new first last same q =
    let all : IsQueue (place_at new) first last (items_in old first) = record {
      chain = chain_same (place_at old) (place_at new) None first last (items_in old first) q.chain (λ k is. same k);
      apart = q.apart;
      only = λ k. ap (λ (p : Place). is_some p.number) (same k) ∙ q.only k;
    } in
    (sound new first last (items_in old first) all, queue_items new first last (items_in old first) all)
