-- The slots of a connection, as its replies fill them.
use Rattle.gateway_connection.specs.lemmas.Names.{option_or, subst, ◌≡◌, ℕ, zero, suc, ◌+◌, ◌-◌, ◌≤◌, ◌<◌, Bool, true, false, nat_lt, List, [], ◌∷◌, ◌++◌, ◌⊎◌, ⊎_elim, inl, inr, length, map, drop, Option, None, Some, refl, sym, ap, ◌∙◌, arith, slice_index_or, ◌==◌, All, if◌then◌else◌, is_none, is_some, count_by, take, slice_get, slice_set, eq-eqb, le-ltb, ltb-false, ltb-true, ne_eqb, get_or-map, get_or_default, map-set, All-cons, All-head, All-nil, All-tail, ReaderValue, ReplyEntry, call_id, AreInPlace, entry_in, fill_at, reply_for, KeptValue, HeldConnection, held_connection, ReplyValue, TakesReply, replied, held_by, filled_by, reply_in, nat_tests}
use Rattle.std.proofs.lemmas.List.Sums.{count_by_more_no, count_by_more_yes}
use Rattle.gateway_theory.specs.Conn.{slot_at}
use Rattle.gateway_theory.specs.Connection.{filled}

-- a slot that is empty, as it is seen
pub empty_seen : (slots : List (Option ReplyValue)) (i : ℕ) (x : Option ReplyValue) → i < length slots → x ≡ slice_index_or slots i x → is_none x ≡ true → is_none (slot_at i (map entry_in slots)) ≡ true
empty_seen slots i x lt x_is none = grind (arith, nat_tests, get_or-map, get_or_default)

-- .. is filled
pub fill_view : (number taken : ℕ) (calls : List KeptValue) (broken closed hung_up : Bool) (reader : ReaderValue) (slots : List (Option ReplyValue)) (k i : ℕ) (r : ReplyValue)
    → taken + i ≡ k → is_none (slot_at i (map entry_in slots)) ≡ true
    → held_by number taken (slice_set slots i (Some r)) calls broken closed hung_up reader ≡ replied k (Some r.entry) (held_by number taken slots calls broken closed hung_up reader)
fill_view number taken calls broken closed hung_up reader slots k i r is none =
    let at : k - taken ≡ i = omega (arith, is) in
    let late : nat_lt k taken ≡ false = le-ltb k taken (omega (arith, is)) in
    rw (late, at, none) (ap (λ xs. held_connection number taken xs calls broken closed hung_up reader) (map-set entry_in slots i (Some r)))

-- ---- replies, one after the other

pub same_filled : (f g : ℕ → Option ReplyEntry) (k : ℕ) (slots : List (Option ReplyEntry)) → ((j : ℕ) → k ≤ j → j < k + length slots → f j ≡ g j) → filled f k slots ≡ filled g k slots
same_filled f g k [] each = refl
same_filled f g k (s ∷ slots) each =
    ap (λ r. option_or s r ∷ filled f (suc k) slots) (each k (omega arith) (omega arith))
    ∙ ap (λ xs. option_or s (g k) ∷ xs) (same_filled f g (suc k) slots (λ j lo hi. each j (omega (arith, lo)) (omega (arith, hi))))

none_filled : (f : ℕ → Option ReplyEntry) (k : ℕ) (slots : List (Option ReplyEntry)) → ((j : ℕ) → f j ≡ None) → filled f k slots ≡ slots
none_filled f k [] none = refl
none_filled f k (s ∷ slots) none = ap (λ r. option_or s r ∷ filled f (suc k) slots) (none k) ∙ ap (λ o. o ∷ filled f (suc k) slots) (or_none s) ∙ ap (λ xs. s ∷ xs) (none_filled f (suc k) slots none)
  where
    or_none : (o : Option ReplyEntry) → option_or o None ≡ o
    or_none None = refl
    or_none (Some e) = refl

-- what fills the slot of that request first, and the others then
abbrev pub first_then : ℕ → ReplyEntry → (ℕ → Option ReplyEntry) → ℕ → Option ReplyEntry
first_then request e f j = if j == request then Some e else f j

later_filled : (request : ℕ) (e : ReplyEntry) (f : ℕ → Option ReplyEntry) (k : ℕ) (slots : List (Option ReplyEntry)) → request < k → filled (first_then request e f) k slots ≡ filled f k slots
later_filled request e f k slots lt = same_filled (first_then request e f) f k slots (λ j lo hi. rw (ne_eqb j request (λ same. absurd (omega (arith, lo, lt, same)))) refl)

fill_one : (request i : ℕ) (e : ReplyEntry) (f : ℕ → Option ReplyEntry) (k : ℕ) (slots : List (Option ReplyEntry)) → request ≡ k + i → filled f k (fill_at i e slots) ≡ filled (first_then request e f) k slots
fill_one request i e f k [] is = cc
fill_one request zero e f k (None ∷ slots) is = grind (arith, nat_tests, eq-eqb, later_filled)
fill_one request zero e f k (Some x ∷ slots) is = grind (arith, nat_tests, later_filled)
fill_one request (suc i) e f k (s ∷ slots) is = grind (arith, fill_one request i e f)

-- a reply goes into its slot, and others after it
pub fill_then : (request : ℕ) (e : ReplyEntry) (f : ℕ → Option ReplyEntry) (k : HeldConnection)
    → filled f k.taken (replied request (Some e) k).slots ≡ filled (first_then request e f) k.taken k.slots
fill_then request e f k = grind (arith, nat_tests, later_filled, ltb-true, ltb-false, fill_one)

-- of these replies the last is looked at first
last_reply : (c request : ℕ) (made : List ReplyValue) (r : ReplyValue) → r.id.conn ≡ c
    → reply_for (call_id c request) (made ++ r ∷ []) ≡ first_then r.id.request r.entry (λ j. reply_for (call_id c j) made) request
last_reply c request [] r own = grind arith
last_reply c request (m ∷ made) r own = grind (arith, last_reply c request made r own)

-- no reply is left
pub filled_none : (k : HeldConnection) → k ≡ filled_by [] k
filled_none k = ap (λ xs. record k { slots = xs }) (sym (none_filled (reply_in k []) k.taken k.slots (λ j. refl)))

-- the last goes into its slot, and then the others
pub filled_last : (made : List ReplyValue) (r : ReplyValue) (k l : HeldConnection) → r.id.conn ≡ k.number → l ≡ replied r.id.request (Some r.entry) k → filled_by made l ≡ filled_by (made ++ r ∷ []) k
filled_last made r k l own l_is = grind (arith, nat_tests, fill_then, same_filled, last_reply)

-- ---- the first reply is taken

module _ (number taken : ℕ) (calls : List KeptValue) (broken closed hung_up : Bool) (reader : ReaderValue) where
  pub takes_first : (items new : List (Option ReplyValue)) (result : Option ReplyValue) (r : ReplyValue) → slice_get items 0 ≡ Some (Some r) → new ≡ drop 1 items → result ≡ Some r → AreInPlace number taken items
      → TakesReply (held_by number taken items calls broken closed hung_up reader) (held_by number (taken + 1) new calls broken closed hung_up reader) result
  takes_first [] new result r first rest is own = absurd (cc)
  takes_first (x ∷ items) new result r first rest is own =
      let here : x ≡ Some r = some first in
      let none : taken + 0 ≡ taken = omega arith in
      subst (TakesReply (held_by number taken (x ∷ items) calls broken closed hung_up reader) (held_by number (taken + 1) new calls broken closed hung_up reader)) (sym is) (
        ap entry_in here,
        own 0 r first ∙ ap (call_id number) none,
        ap (λ xs. held_by number (taken + 1) xs calls broken closed hung_up reader) rest,
      )
    where
      some : {A : Type 0} {x y : A} → Some x ≡ Some y → x ≡ y
      some e = cc

-- .. and the others are in their places
pub rest_place : (number taken : ℕ) (items new : List (Option ReplyValue)) → new ≡ drop 1 items → AreInPlace number taken items → AreInPlace number (taken + 1) new
rest_place number taken [] new rest own = grind arith
rest_place number taken (x ∷ items) new rest own = λ j r is.
    let one : taken + suc j ≡ taken + 1 + j = omega arith in own (suc j) r (ap (λ xs. slice_get xs j) (sym rest) ∙ is) ∙ ap (call_id number) one

-- .. and as many requests have come
pub first_next : (taken : ℕ) (items new : List (Option ReplyValue)) (x : Option ReplyValue) → slice_get items 0 ≡ Some x → new ≡ drop 1 items → taken + 1 + length (map entry_in new) ≡ taken + length (map entry_in items)
first_next taken [] new x first rest = absurd (cc)
first_next taken (y ∷ items) new x first rest = let size : length (map entry_in new) ≡ length (map entry_in items) = ap (λ xs. length (map entry_in xs)) rest in omega (arith, size)

-- no slot is there
pub none_placed : (number taken : ℕ) (items : List (Option ReplyValue)) → items ≡ [] → AreInPlace number taken items
none_placed number taken items none = grind arith

-- ---- whose they are

pub last_own : (c : ℕ) (made : List ReplyValue) (r : ReplyValue) → All (λ (x : ReplyValue). x.id.conn ≡ c) (made ++ r ∷ []) → r.id.conn ≡ c
last_own c [] r own = All-head (λ (x : ReplyValue). x.id.conn ≡ c) r [] own
last_own c (m ∷ made) r own = last_own c made r (All-tail (λ (x : ReplyValue). x.id.conn ≡ c) m (made ++ r ∷ []) own)

pub all_before : (c : ℕ) (made : List ReplyValue) (r : ReplyValue) → All (λ (x : ReplyValue). x.id.conn ≡ c) (made ++ r ∷ []) → All (λ (x : ReplyValue). x.id.conn ≡ c) made
all_before c [] r own = All-nil (λ (x : ReplyValue). x.id.conn ≡ c)
all_before c (m ∷ made) r own = All-cons (λ (x : ReplyValue). x.id.conn ≡ c) m made (All-head (λ (x : ReplyValue). x.id.conn ≡ c) m (made ++ r ∷ []) own)
    (all_before c made r (All-tail (λ (x : ReplyValue). x.id.conn ≡ c) m (made ++ r ∷ []) own))

pub replied_number : (r : ReplyValue) (k l : HeldConnection) → l ≡ replied r.id.request (Some r.entry) k → l.number ≡ k.number
replied_number r k l l_is = grind arith

-- as many slots are there
pub filled_size : (made : List ReplyValue) (k : HeldConnection) → length (filled_by made k).slots ≡ length k.slots
filled_size made k = all k.taken k.slots
  where
    all : (n : ℕ) (slots : List (Option ReplyEntry)) → length (filled (reply_in k made) n slots) ≡ length slots
    all n [] = refl
    all n (s ∷ slots) = ap suc (all (suc n) slots)

-- ---- one slot more, which is empty

pub more_place : (number taken : ℕ) (items : List (Option ReplyValue)) → AreInPlace number taken items → AreInPlace number taken (items ++ None ∷ [])
more_place number taken items own = λ j r is. own j r (before items j r is)
  where
    before : (items : List (Option ReplyValue)) (j : ℕ) (r : ReplyValue) → slice_get (items ++ None ∷ []) j ≡ Some (Some r) → slice_get items j ≡ Some (Some r)
    before [] zero r is = absurd (cc)
    before [] (suc j) r is = absurd (cc)
    before (x ∷ items) zero r is = is
    before (x ∷ items) (suc j) r is = before items j r is

-- a reply stands in the slot of its request
pub set_place : (number taken : ℕ) (items : List (Option ReplyValue)) (i : ℕ) (r : ReplyValue) → r.id ≡ call_id number (taken + i) → AreInPlace number taken items → AreInPlace number taken (slice_set items i (Some r))
set_place number taken items i r its own = λ j x is. ⊎_elim (own j x)
    (λ (new : (j ≡ i) × (r ≡ x)). sym (ap (λ (y : ReplyValue). y.id) new.1) ∙ its ∙ ap (λ k. call_id number (taken + k)) (sym new.0)) (at items i j x is)
  where
    some : {A : Type 0} {x y : A} → Some x ≡ Some y → x ≡ y
    some e = cc

    at : (items : List (Option ReplyValue)) (i j : ℕ) (x : ReplyValue) → slice_get (slice_set items i (Some r)) j ≡ Some (Some x) → (slice_get items j ≡ Some (Some x)) ⊎ ((j ≡ i) × (r ≡ x))
    at [] i j x is = inl is
    at (y ∷ items) zero zero x is = inr (refl, some (some is))
    at (y ∷ items) zero (suc j) x is = inl is
    at (y ∷ items) (suc i) zero x is = inl is
    at (y ∷ items) (suc i) (suc j) x is = ⊎_elim inl (λ (new : (j ≡ i) × (r ≡ x)). inr (ap suc new.0, new.1)) (at items i j x is)

-- .. and one that came last in the last one
pub push_place : (number taken : ℕ) (items : List (Option ReplyValue)) (r : ReplyValue) → r.id ≡ call_id number (taken + length items) → AreInPlace number taken items → AreInPlace number taken (items ++ Some r ∷ [])
push_place number taken items r its own = λ j x is. ⊎_elim (own j x)
    (λ (new : (j ≡ length items) × (r ≡ x)). sym (ap (λ (y : ReplyValue). y.id) new.1) ∙ its ∙ ap (λ k. call_id number (taken + k)) (sym new.0)) (at items j x is)
  where
    some : {A : Type 0} {x y : A} → Some x ≡ Some y → x ≡ y
    some e = cc

    at : (items : List (Option ReplyValue)) (j : ℕ) (x : ReplyValue) → slice_get (items ++ Some r ∷ []) j ≡ Some (Some x) → (slice_get items j ≡ Some (Some x)) ⊎ ((j ≡ length items) × (r ≡ x))
    at [] zero x is = inr (refl, some (some is))
    at [] (suc j) x is = absurd (cc)
    at (y ∷ items) zero x is = inl is
    at (y ∷ items) (suc j) x is = ⊎_elim inl (λ (new : (j ≡ length items) × (r ≡ x)). inr (ap suc new.0, new.1)) (at items j x is)

-- ---- how many of the first slots are empty

pub one_more_empty : (slots : List (Option ReplyEntry)) (i n : ℕ) → i < length slots → slot_at i slots ≡ None → n ≡ count_by is_none (take i slots) → n + 1 ≡ count_by is_none (take (i + 1) slots)
one_more_empty slots i n lt none is = ap (λ k. k + 1) is ∙ sym (count_by_more_yes is_none slots i None lt (ap is_none none))

pub as_many_empty : (slots : List (Option ReplyEntry)) (i n : ℕ) → i < length slots → is_some (slot_at i slots) ≡ true → n ≡ count_by is_none (take i slots) → n ≡ count_by is_none (take (i + 1) slots)
as_many_empty slots i n lt some is = is ∙ sym (count_by_more_no is_none slots i None lt (full (slot_at i slots) some))
  where
    full : (o : Option ReplyEntry) → is_some o ≡ true → is_none o ≡ false
    full None is_full = absurd (let clash : false ≡ true = is_full in cc)
    full (Some e) is_full = refl
