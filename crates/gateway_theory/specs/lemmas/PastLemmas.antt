-- What stands in the past stays, whatever comes later; and nothing is there of a request before it has come.
use Rattle.std.specs.Prelude.{◌≡◌, ◌≤◌, ◌∷◌, ◌+◌, ◌++◌}
use Rattle.gateway_theory.specs.lemmas.Names.{false, [], None, refl, arith, CallId, Past, call, arrivals, began, decided, came, own_events, ℕ, zero, suc, Bool, List, map, length, Option, Some, sym, ap, append_assoc, nat_tests, length-map-range_with_len, append-nil, map-append, length-map, flat_map, option_and_then, range_with_len, Coming, CallEvent, Mark, ArrivedCall, ReplyEntry, entry_by, entry, front, queued_entries, queued, IsPrefixOf, replies}
use Rattle.std.proofs.lemmas.Grind.{flat_map-append}

-- nothing of a request is there before it comes
pub record Unborn (id : CallId) (past : Past) : Type 0 where
  pub no_call : call id past ≡ None
  pub not_begun : began id past ≡ false
  pub not_came : came id past ≡ None
  pub no_events : own_events id past ≡ []
  pub undecided : decided id past ≡ None

pub unborn : (id : CallId) (past : Past) → arrivals id.conn past ≤ id.request → Unborn id past
unborn id [] le = record { no_call = refl; not_begun = refl; not_came = refl; no_events = refl; undecided = refl }
unborn id (m ∷ past) le = search (arith, unborn id past)

pub call_stays : (id : CallId) (m : Mark) (past : Past) (c : ArrivedCall) → call id past ≡ Some c → call id (m ∷ past) ≡ Some c
call_stays id m past c e = rw e refl

-- the first event that decides a call does so for good
pub decided_stays : (id : CallId) (m : Mark) (past : Past) (e : CallEvent) → decided id past ≡ Some e → decided id (m ∷ past) ≡ Some e
decided_stays id m past e d = rw d refl

entry_of : (id : CallId) (m : Mark) (past : Past) (x : ReplyEntry) (o : Option (Coming × Bool))
    → came id past ≡ o → option_and_then (entry_by id past) o ≡ Some x → entry id (m ∷ past) ≡ Some x
entry_of id m past x o is also = grind (arith, nat_tests)

-- what a request is answered by stays
pub entry_stays : (id : CallId) (m : Mark) (past : Past) (x : ReplyEntry) → entry id past ≡ Some x → entry id (m ∷ past) ≡ Some x
entry_stays id m past x e = entry_of id m past x (came id past) refl e

-- ---- the queue grows

pub prefix-trans : {A : Type 0} (xs ys zs : List A) → IsPrefixOf xs ys → IsPrefixOf ys zs → IsPrefixOf xs zs
prefix-trans xs ys zs p q = (p.0 ++ q.0, rw (q.1, p.1) (append_assoc xs p.0 q.0))

pub prefix-refl : {A : Type 0} (xs : List A) → IsPrefixOf xs xs
prefix-refl xs = ([], sym (append-nil xs))

pub prefix-map : {A B : Type 0} (f : A → B) (xs ys : List A) → IsPrefixOf xs ys → IsPrefixOf (map f xs) (map f ys)
prefix-map f xs ys p = (map f p.0, rw p.1 (map-append f xs p.0))

pub prefix-flat_map : {A B : Type 0} (f : A → List B) (xs ys : List A) → IsPrefixOf xs ys → IsPrefixOf (flat_map f xs) (flat_map f ys)
prefix-flat_map f xs ys p = (flat_map f p.0, rw p.1 (flat_map-append f xs p.0))

front_cons : {A : Type 0} (g : ℕ → Option A) (k : ℕ) (o : Option A) (xs ys : List (Option A))
    → ((x : A) → o ≡ Some x → g k ≡ Some x) → IsPrefixOf (front xs) (front ys) → IsPrefixOf (front (o ∷ xs)) (front (g k ∷ ys))
front_cons g k None xs ys stays rest = (front (g k ∷ ys), refl)
front_cons g k (Some x) xs ys stays rest = rw (stays x refl) (rest.0, ap (λ zs. x ∷ zs) rest.1)

-- the first ones that are there: of more numbers, where each that was there stays
front_grows : {A : Type 0} (f g : ℕ → Option A) → ((k : ℕ) (x : A) → f k ≡ Some x → g k ≡ Some x) → (k n m : ℕ) → n ≤ m
    → IsPrefixOf (front (map f (range_with_len k n))) (front (map g (range_with_len k m)))
front_grows f g stays k zero m le = (front (map g (range_with_len k m)), refl)
front_grows f g stays k (suc n) zero le = absurd (omega arith)
front_grows f g stays k (suc n) (suc m) le =
    front_cons g k (f k) (map f (range_with_len (k + 1) n)) (map g (range_with_len (k + 1) m)) (stays k)
    (front_grows f g stays (k + 1) n m (omega arith))

-- one more occurrence only adds to the arrivals that are queued
pub queued_entries_grow : (conn : ℕ) (m : Mark) (past : Past) → IsPrefixOf (queued_entries conn past) (queued_entries conn (m ∷ past))
queued_entries_grow conn m past = grind (arith, nat_tests, front_grows, entry_stays)

queued_grows : (conn : ℕ) (m : Mark) (past : Past) → IsPrefixOf (queued conn past) (queued conn (m ∷ past))
queued_grows conn m past = grind (arith, nat_tests, prefix-flat_map, prefix-map, queued_entries_grow)

-- nothing that comes later changes what was queued
pub nothing_later : (conn : ℕ) (later past : Past) → IsPrefixOf (queued conn past) (queued conn (later ++ past))
nothing_later conn [] past = prefix-refl (queued conn past)
nothing_later conn (m ∷ later) past = search (arith, nat_tests, nothing_later conn later past, prefix-trans, queued_grows)

front_length : {A : Type 0} (os : List (Option A)) → length (front os) ≤ length os
front_length [] = omega arith
front_length (None ∷ os) = omega arith
front_length (Some a ∷ os) = omega (arith, front_length os)

-- each request has one reply at most
pub one_reply : (conn : ℕ) (past : Past) → length (replies conn past) ≤ arrivals conn past
one_reply conn past = grind (arith, nat_tests, front_length, length-map-range_with_len, length-map)
