-- A step keeps what a connection holds of its calls and slots.
use Rattle.gateway_connection.specs.lemmas.Names.{◌≡◌, ℕ, zero, suc, ◌+◌, ◌≤◌, ◌<◌, Bool, true, false, List, [], ◌∷◌, ◌++◌, length, map, None, refl, sym, ap, ◌∙◌, subst, arith, Some, slice_index_or, ◌||◌, All, filter, slice_set, ◌==◌, get_or-map, get_or_default, length-append, length-map, All-filter, All-push, most_requests, CallId, call_id, is_call, AreApart, KeptValue, call_at, HeldConnection, IsFound, given_up, kept_at, no_call, Holds, next_held, call_found, calls_filtered, calls_more, AreInPlace, held_by, Option, ReplyValue, ReaderValue}

-- what is so of each place is so of all
pub at_all : (P : KeptValue → Type 0) (ks : List KeptValue) → ((j : ℕ) → j < length ks → P (kept_at j ks)) → All P ks
at_all P ks each = λ i d lt. subst P (get_or_default ks i no_call d lt) (each i lt)

pub own_id : (k : HeldConnection) (j request : ℕ) → Holds k → j < length k.calls → (kept_at j k.calls).id.request ≡ request → (kept_at j k.calls).id ≡ call_id k.number request
own_id k j request h lt is = ap (λ n. call_id (kept_at j k.calls).id.conn n) is ∙ ap (λ c. call_id c request) (h.own j no_call lt)

-- where no call is of another id
pub holds_ids : (k l : HeldConnection) → l.number ≡ k.number → length l.calls ≡ length k.calls → ((j : ℕ) → j < length k.calls → (kept_at j l.calls).id ≡ (kept_at j k.calls).id)
    → (l.closed ≡ false → (k.closed ≡ false) × ((next_held k).request ≤ (next_held l).request)) → (next_held l).request ≤ most_requests
    → ((l.closed || l.broken) ≡ true → All (λ (c : KeptValue). c.call.live ≡ None) l.calls) → Holds k → Holds l
holds_ids k l number size ids on_open few dead h = record {
  own = at_all (λ c. c.id.conn ≡ l.number) l.calls (λ j lt. ap (λ (d : CallId). d.conn) (ids j (within j lt)) ∙ h.own j no_call (within j lt) ∙ sym number);
  apart = λ i j less lt.
      ap (λ d. is_call d (kept_at j l.calls).id) (ids i (omega (arith, less, within j lt))) ∙ ap (λ d. is_call (kept_at i k.calls).id d) (ids j (within j lt)) ∙ h.apart i j less (within j lt);
  came = λ on. let two = on_open on in
      at_all (λ c. c.id.request < (next_held l).request) l.calls
      (λ j lt. let was = h.came two.0 j no_call (within j lt) in let more = two.1 in omega (arith, was, more, ap (λ (d : CallId). d.request) (ids j (within j lt))));
  dead = dead;
  few = few;
}
  where
    within : (j : ℕ) → j < length l.calls → j < length k.calls
    within j lt = omega (arith, lt, size)

-- .. and no call changes at all
pub holds_as : (k l : HeldConnection) → l.number ≡ k.number → l.calls ≡ k.calls → l.closed ≡ k.closed → l.broken ≡ k.broken → (next_held l).request ≡ (next_held k).request → Holds k → Holds l
holds_as k l number calls closed broken next h = record {
  own = subst (All (λ (c : KeptValue). c.id.conn ≡ l.number)) (sym calls) (subst (λ n. All (λ (c : KeptValue). c.id.conn ≡ n) k.calls) (sym number) h.own);
  apart = subst AreApart (sym calls) h.apart;
  came = λ on. subst (All (λ (c : KeptValue). c.id.request < (next_held l).request)) (sym calls)
      (subst (λ n. All (λ (c : KeptValue). c.id.request < n) k.calls) (sym next) (h.came (sym closed ∙ on)));
  dead = λ shut. subst (All (λ (c : KeptValue). c.call.live ≡ None)) (sym calls) (h.dead (ap (λ b. b || k.broken) (sym closed) ∙ ap (λ b. l.closed || b) (sym broken) ∙ shut));
  few = let few = h.few in omega (arith, few, next);
}

-- calls that are given up
pub given_at : (ks : List KeptValue) (j : ℕ) → j < length ks → kept_at j (map given_up ks) ≡ given_up (kept_at j ks)
given_at ks j lt = get_or-map given_up ks j no_call no_call lt

pub all_dead : (ks : List KeptValue) → All (λ (c : KeptValue). c.call.live ≡ None) (map given_up ks)
all_dead ks = at_all (λ c. c.call.live ≡ None) (map given_up ks) (λ j lt. ap (λ (c : KeptValue). c.call.live) (given_at ks j (omega (arith, lt, length-map ks given_up))))

pub holds_given : (k l : HeldConnection) → l.number ≡ k.number → l.calls ≡ map given_up k.calls → (l.closed ≡ false → (k.closed ≡ false) × ((next_held k).request ≤ (next_held l).request))
    → (next_held l).request ≤ most_requests → Holds k → Holds l
holds_given k l number calls on_open few h = holds_ids k l number (ap (λ (ks : List KeptValue). length ks) calls ∙ length-map k.calls given_up)
    (λ j lt. ap (λ ks. (kept_at j ks).id) calls ∙ ap (λ (c : KeptValue). c.id) (given_at k.calls j lt)) on_open few
    (λ shut. subst (All (λ (c : KeptValue). c.call.live ≡ None)) (sym calls) (all_dead k.calls)) h

-- one call changes, and no id
set_id : (ks : List KeptValue) (i : ℕ) (new : KeptValue) → new.id ≡ (kept_at i ks).id → (j : ℕ) → j < length ks → (kept_at j (slice_set ks i new)).id ≡ (kept_at j ks).id
set_id [] i new same j lt = absurd (omega (arith, lt))
set_id (k ∷ ks) zero new same zero lt = same
set_id (k ∷ ks) zero new same (suc j) lt = refl
set_id (k ∷ ks) (suc i) new same zero lt = refl
set_id (k ∷ ks) (suc i) new same (suc j) lt = set_id ks i new same j (omega (arith, lt))

pub set_size : (ks : List KeptValue) (i : ℕ) (new : KeptValue) → length (slice_set ks i new) ≡ length ks
set_size [] i new = refl
set_size (k ∷ ks) zero new = refl
set_size (k ∷ ks) (suc i) new = ap suc (set_size ks i new)

set_dead : (ks : List KeptValue) (i : ℕ) (new : KeptValue) → new.call.live ≡ None → All (λ (c : KeptValue). c.call.live ≡ None) ks → All (λ (c : KeptValue). c.call.live ≡ None) (slice_set ks i new)
set_dead ks i new dead all = at_all (λ c. c.call.live ≡ None) (slice_set ks i new) (λ j lt. each ks i (λ m low. all m no_call low) j (omega (arith, lt, set_size ks i new)))
  where
    each : (ks : List KeptValue) (i : ℕ) → ((m : ℕ) → m < length ks → (kept_at m ks).call.live ≡ None) → (j : ℕ) → j < length ks → (kept_at j (slice_set ks i new)).call.live ≡ None
    each [] i was j lt = absurd (omega (arith, lt))
    each (k ∷ ks) zero was zero lt = dead
    each (k ∷ ks) zero was (suc j) lt = was (suc j) lt
    each (k ∷ ks) (suc i) was zero lt = was 0 (omega arith)
    each (k ∷ ks) (suc i) was (suc j) lt = each ks i (λ m low. was (suc m) (omega (arith, low))) j (omega (arith, lt))

pub holds_set : (k l : HeldConnection) (i : ℕ) (new : KeptValue) → l.number ≡ k.number → l.calls ≡ slice_set k.calls i new → l.closed ≡ k.closed → l.broken ≡ k.broken
    → (next_held l).request ≡ (next_held k).request → new.id ≡ (kept_at i k.calls).id → ((k.closed || k.broken) ≡ true → new.call.live ≡ None) → Holds k → Holds l
holds_set k l i new number calls closed broken next same stays h = holds_ids k l number (ap (λ (ks : List KeptValue). length ks) calls ∙ set_size k.calls i new)
    (λ j lt. ap (λ ks. (kept_at j ks).id) calls ∙ set_id k.calls i new same j lt) (λ on. (sym closed ∙ on, omega (arith, next))) (let few = h.few in omega (arith, few, next))
    (λ shut. let was = ap (λ b. b || k.broken) (sym closed) ∙ ap (λ b. l.closed || b) (sym broken) ∙ shut in
    subst (All (λ (c : KeptValue). c.call.live ≡ None)) (sym calls) (set_dead k.calls i new (stays was) (h.dead was))) h

-- some calls are left
pub holds_filtered : (k l : HeldConnection) (p : KeptValue → Bool) → l.number ≡ k.number → l.calls ≡ filter p k.calls → l.closed ≡ k.closed → l.broken ≡ k.broken
    → (next_held l).request ≡ (next_held k).request → Holds k → Holds l
holds_filtered k l p number calls closed broken next h = record {
  own = subst (All (λ (c : KeptValue). c.id.conn ≡ l.number)) (sym calls) (subst (λ n. All (λ (c : KeptValue). c.id.conn ≡ n) (filter p k.calls)) (sym number) (All-filter p (λ (c : KeptValue). c.id.conn ≡ k.number) k.calls h.own));
  apart = subst AreApart (sym calls) (calls_filtered p k.calls h.apart);
  came = λ on. subst (All (λ (c : KeptValue). c.id.request < (next_held l).request)) (sym calls) (subst (λ n. All (λ (c : KeptValue). c.id.request < n) (filter p k.calls)) (sym next)
      (All-filter p (λ (c : KeptValue). c.id.request < (next_held k).request) k.calls (h.came (sym closed ∙ on))));
  dead = λ shut. subst (All (λ (c : KeptValue). c.call.live ≡ None)) (sym calls)
      (All-filter p (λ (c : KeptValue). c.call.live ≡ None) k.calls (h.dead (ap (λ b. b || k.broken) (sym closed) ∙ ap (λ b. l.closed || b) (sym broken) ∙ shut)));
  few = let few = h.few in omega (arith, few, next);
}

-- room was made for more, and nothing else changed
pub roomy_is : (number taken : ℕ) (xs ys : List (Option ReplyValue)) (ks ls : List KeptValue) (broken closed hung_up : Bool) (reader : ReaderValue) → ys ≡ xs → ls ≡ ks
    → held_by number taken ys ls broken closed hung_up reader ≡ held_by number taken xs ks broken closed hung_up reader
roomy_is number taken xs ys ks ls broken closed hung_up reader slots calls =
    ap (λ zs. held_by number taken zs ls broken closed hung_up reader) slots ∙ ap (λ zs. held_by number taken xs zs broken closed hung_up reader) calls

pub roomy_holds : (number taken : ℕ) (xs ys : List (Option ReplyValue)) (ks ls : List KeptValue) (broken closed hung_up : Bool) (reader : ReaderValue) → ys ≡ xs → ls ≡ ks
    → AreInPlace number taken xs × Holds (held_by number taken xs ks broken closed hung_up reader) → AreInPlace number taken ys × Holds (held_by number taken ys ls broken closed hung_up reader)
roomy_holds number taken xs ys ks ls broken closed hung_up reader slots calls was =
    (subst (AreInPlace number taken) (sym slots) was.0, subst Holds (sym (roomy_is number taken xs ys ks ls broken closed hung_up reader slots calls)) was.1)

-- ---- one request more

-- none is of the next request
pub next_new : (k : HeldConnection) → k.closed ≡ false → Holds k → IsFound (next_held k) k.calls None
next_new k on h = grind arith

-- a call begins
pub holds_begun : (k l : HeldConnection) (new : KeptValue) → l ≡ record k { slots = k.slots ++ None ∷ []; calls = k.calls ++ new ∷ [] } → new.id ≡ next_held k → k.closed ≡ false → k.broken ≡ false
    → (next_held k).request < most_requests → Holds k → Holds l
holds_begun k l new l_is new_is opened whole room h = subst Holds (sym l_is) record {
  own = All-push (λ (c : KeptValue). c.id.conn ≡ k.number) k.calls new h.own (ap (λ (d : CallId). d.conn) new_is);
  apart = calls_more new k.calls h.apart (subst (λ n. IsFound n k.calls None) (sym new_is) (next_new k opened h));
  came = λ on. All-push (λ (c : KeptValue). c.id.request < k.taken + length (k.slots ++ None ∷ [])) k.calls new
      (at_all (λ (c : KeptValue). c.id.request < k.taken + length (k.slots ++ None ∷ [])) k.calls (λ j lt. let was = h.came on j no_call lt in omega (arith, was, length-append k.slots (None ∷ []))))
      (omega (arith, length-append k.slots (None ∷ []), ap (λ (d : CallId). d.request) new_is));
  dead = λ shut. absurd (let clash : false ≡ true = sym (ap (λ b. b || k.broken) opened ∙ whole) ∙ shut in cc);
  few = omega (arith, room, length-append k.slots (None ∷ []));
}

-- ---- a call is found by its request

-- what stands at a place
pub here_is : (items calls : List KeptValue) (i : ℕ) (x : KeptValue) → items ≡ calls → i < length items → x ≡ slice_index_or items i x → x ≡ kept_at i calls
here_is items calls i x same lt is = is ∙ get_or_default items i x no_call lt ∙ ap (kept_at i) same

-- .. which is the call of that id
pub found_call : (id : CallId) (items calls : List KeptValue) (i : ℕ) (x : KeptValue) → items ≡ calls → IsFound id calls (Some i) → x ≡ slice_index_or items i x → call_at id calls ≡ x.call
found_call id items calls i x same f is =
    call_found id calls i f ∙ ap (λ (k : KeptValue). k.call) (sym (here_is items calls i x same (let lt = f.0 in omega (arith, lt, ap length same)) is))

is_for : (k : HeldConnection) (i request : ℕ) (x : KeptValue) (b : Bool) → Holds k → i < length k.calls → x ≡ kept_at i k.calls → (x.id.request == request) ≡ b → is_call (kept_at i k.calls).id (call_id k.number request) ≡ b
is_for k i request x b h lt x_is test = grind arith

pub found_here : (k : HeldConnection) (i request : ℕ) (x : KeptValue) → Holds k → i < length k.calls → x ≡ kept_at i k.calls → (x.id.request == request) ≡ true
    → ((j : ℕ) → j < i → is_call (kept_at j k.calls).id (call_id k.number request) ≡ false) → IsFound (call_id k.number request) k.calls (Some i)
found_here k i request x h lt x_is test before = (lt, is_for k i request x true h lt x_is test, before)

pub not_here : (k : HeldConnection) (i request : ℕ) (x : KeptValue) → Holds k → i < length k.calls → x ≡ kept_at i k.calls → (x.id.request == request) ≡ false
    → ((j : ℕ) → j < i → is_call (kept_at j k.calls).id (call_id k.number request) ≡ false) → (j : ℕ) → j < i + 1 → is_call (kept_at j k.calls).id (call_id k.number request) ≡ false
not_here k i request x h lt x_is test before = grind arith
