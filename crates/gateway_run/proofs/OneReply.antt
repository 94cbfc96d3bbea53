-- Each request has one reply, and a queue has them in the order of the requests.
use Rattle.gateway_run.proofs.Names.{◌≡◌, ℕ, zero, suc, ◌+◌, ◌≤◌, ◌<◌, Bool, true, false, [], ◌∷◌, map, length, Option, None, Some, refl, ap, ◌∙◌, arith, ◌==◌, not, if◌then◌else◌, is_some, slice_get, option_map, option_and_then, range_with_len, option_or, and_parts, ne_eqb, ReplyEntry, CallId, Coming, Refused, Request, Mark, Past, call, call_id, coming_now, coming_on, arrivals, is_undecided, is_broken, came, entry, entry_by, front, queued_entries, or_none, nat_tests}
use Rattle.gateway_model.specs.Arrival.{Asks, Judged}

-- number k of the first ones that are there
front_at : {A : Type 0} (f : ℕ → Option A) (a n k : ℕ) (x : A) → slice_get (front (map f (range_with_len a n))) k ≡ Some x → f (a + k) ≡ Some x
front_at f a zero k x e = absurd (cc)
front_at f a (suc n) k x e = by_first (f a) refl k e (λ j h. front_at f (a + 1) n j x h)
  where
    by_first : (o : Option _) → f a ≡ o → (k : ℕ) → slice_get (front (o ∷ map f (range_with_len (a + 1) n))) k ≡ Some x
        → ((j : ℕ) → slice_get (front (map f (range_with_len (a + 1) n))) j ≡ Some x → f (a + 1 + j) ≡ Some x) → f (a + k) ≡ Some x
    by_first None o_is k e rest = absurd (cc)
    by_first (Some y) o_is zero e rest = let same : a + 0 ≡ a = omega arith in ap f same ∙ o_is ∙ e
    by_first (Some y) o_is (suc j) e rest = let same : a + suc j ≡ a + 1 + j = omega arith in ap f same ∙ rest j e

-- behind them one is not there
front_ends : {A : Type 0} (f : ℕ → Option A) (a n : ℕ) → f (a + n) ≡ None → f (a + length (front (map f (range_with_len a n)))) ≡ None
front_ends f a zero e = e
front_ends f a (suc n) e = let next : a + 1 + n ≡ a + suc n = omega arith in by_first (f a) refl (front_ends f (a + 1) n (ap f next ∙ e))
  where
    by_first : (o : Option _) → f a ≡ o → f (a + 1 + length (front (map f (range_with_len (a + 1) n)))) ≡ None
        → f (a + length (front (o ∷ map f (range_with_len (a + 1) n)))) ≡ None
    by_first None o_is rest = let same : a + 0 ≡ a = omega arith in ap f same ∙ o_is
    by_first (Some y) o_is rest =
        let same : a + suc (length (front (map f (range_with_len (a + 1) n)))) ≡ a + 1 + length (front (map f (range_with_len (a + 1) n))) = omega arith in ap f same ∙ rest

-- a request that has not come
came_not : (id : CallId) (past : Past) → arrivals id.conn past ≤ id.request → came id past ≡ None
came_not id [] le = refl
came_not id (m ∷ past) le = by_what (coming_on id.conn m.what (is_broken id.conn past)) le (λ l. came_not id past l)
  where
    by_test : (b : Bool) → option_map {U = Coming × Bool} (λ (e : Coming). (e, m.crowded)) (if b then None else None) ≡ None
    by_test true = refl
    by_test false = refl

    by_what : (o : Option Coming) → (if is_some o then suc (arrivals id.conn past) else arrivals id.conn past) ≤ id.request
        → (arrivals id.conn past ≤ id.request → came id past ≡ None)
        → option_or (came id past) (option_map {U = Coming × Bool} (λ (e : Coming). (e, m.crowded)) (if arrivals id.conn past == id.request then o else None)) ≡ None
    by_what None le before =
        ap (λ y. option_or y (option_map {U = Coming × Bool} (λ (e : Coming). (e, m.crowded)) (if arrivals id.conn past == id.request then None else None))) (before le)
        ∙ by_test (arrivals id.conn past == id.request)
    by_what (Some x) le before =
        ap (λ y. option_or y (option_map {U = Coming × Bool} (λ (e : Coming). (e, m.crowded)) (if arrivals id.conn past == id.request then Some x else None))) (before (omega (arith, le)))
        ∙ ap (λ b. option_map {U = Coming × Bool} (λ (e : Coming). (e, m.crowded)) (if b then Some x else None))
        (ne_eqb (arrivals id.conn past) id.request (λ same. omega (arith, le, same)))

entry_not : (id : CallId) (past : Past) → arrivals id.conn past ≤ id.request → entry id past ≡ None
entry_not id past le = ap (λ o. option_and_then (entry_by id past) o) (came_not id past le)

-- entry number k of the queue is that of request k
pub queued_at : (conn k : ℕ) (past : Past) (x : ReplyEntry) → slice_get (queued_entries conn past) k ≡ Some x → entry (call_id conn k) past ≡ Some x
queued_at conn k past x e = grind (arith, nat_tests, front_at)

-- the request behind the queue has no entry
pub queued_until : (conn : ℕ) (past : Past) → entry (call_id conn (length (queued_entries conn past))) past ≡ None
queued_until conn past = grind (arith, nat_tests, front_ends, entry_not)

-- ---- which requests have no reply yet

came_known : (id : CallId) (past : Past) (x : Coming × Bool) → came id past ≡ Some x → id.request < arrivals id.conn past
came_known id past x e = grind (arith, nat_tests, came_not)

-- nothing comes twice as one request
entering_none : (id : CallId) (m : Mark) (past : Past) (x : Coming × Bool) → came id past ≡ Some x → coming_now id m past ≡ None
entering_none id m past x e = grind (arith, nat_tests, came_known, ne_eqb)

-- what came asks for a call, and is not one too many
abbrev asks : Option (Coming × Bool) → Bool
asks None = false
asks (Some (Refused r, crowded)) = false
asks (Some (Request q (Judged v), crowded)) = false
asks (Some (Request q (Asks plan timeout request_id), crowded)) = not crowded

call_is : (id : CallId) (past : Past) → is_some (call id past) ≡ asks (came id past)
call_is id [] = refl
call_is id (m ∷ past) = grind (arith, nat_tests, call_is id past, entering_none, or_none)

-- a request that has come and has no entry is a call that is undecided
pub waits : (id : CallId) (past : Past) (x : Coming × Bool) → came id past ≡ Some x → entry id past ≡ None → is_undecided id past ≡ true
waits id past x came_is none = grind (arith, nat_tests, call_is)

-- and a call that is undecided has none
pub undecided_waits : (id : CallId) (past : Past) → is_undecided id past ≡ true → entry id past ≡ None
undecided_waits id past e = grind (arith, nat_tests, and_parts, call_is)
