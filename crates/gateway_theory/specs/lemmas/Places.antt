-- The words of Past by places in the finished list.
use Rattle.std.specs.Prelude.{◌≡◌, ◌≤◌, ◌<◌, ◌∷◌, ◌++◌, ◌⊎◌}
use Rattle.gateway_theory.specs.lemmas.Names.{ℕ, zero, suc, List, [], length, reverse, Option, None, Some, refl, sym, ap, ◌∙◌, subst, arith, ⊎_elim, inl, inr, slice_get, option_or, cases_lt, reverse-append, reverse-reverse, take-append-le, take_all, length_push, CallId, Occurrence, CallEvent, past_of, mark_of, deciding, decided, nat_tests}
use Rattle.std.proofs.lemmas.Option.{slice_get_past}
use Rattle.gateway_model.specs.Decided.{before, deciding_at, IsDecidedAt}

-- one more occurrence, at the end
pub past-push : (os : List Occurrence) (o : Occurrence) → past_of (os ++ o ∷ []) ≡ mark_of (past_of os) o ∷ past_of os
past-push os o = rw (reverse-append os (o ∷ [])) refl

-- an induction that adds an event at the end
by_push : (P : List Occurrence → Type 0) → P [] → ((xs : List Occurrence) (e : Occurrence) → P xs → P (xs ++ e ∷ [])) → (es : List Occurrence) → P (reverse es)
by_push P base more [] = base
by_push P base more (e ∷ es) = rw (reverse-append (e ∷ []) es) (more (reverse es) e (by_push P base more es))

pub push_induction : (P : List Occurrence → Type 0) → P [] → ((xs : List Occurrence) (e : Occurrence) → P xs → P (xs ++ e ∷ [])) → (xs : List Occurrence) → P xs
push_induction P base more xs = subst P (reverse-reverse xs) (by_push P base more (reverse xs))

pub get_old : (xs : List Occurrence) (e : Occurrence) (u : ℕ) → u < length xs → slice_get (xs ++ e ∷ []) u ≡ slice_get xs u
get_old [] e u lt = absurd (omega arith)
get_old (x ∷ xs) e zero lt = refl
get_old (x ∷ xs) e (suc u) lt = get_old xs e u (omega arith)

pub get_last : (xs : List Occurrence) (e : Occurrence) → slice_get (xs ++ e ∷ []) (length xs) ≡ Some e
get_last [] e = refl
get_last (x ∷ xs) e = get_last xs e

-- what stood before a place depends on the events before it alone
pub before-old : (xs : List Occurrence) (e : Occurrence) (t : ℕ) → t ≤ length xs → before (xs ++ e ∷ []) t ≡ before xs t
before-old xs e t le = ap past_of (take-append-le t xs (e ∷ []) le)

pub before-all : (xs : List Occurrence) → before xs (length xs) ≡ past_of xs
before-all xs = ap past_of (take_all (length xs) xs (omega arith))

deciding_at-old : (id : CallId) (xs : List Occurrence) (e : Occurrence) (t : ℕ) → t < length xs → deciding_at id (xs ++ e ∷ []) t ≡ deciding_at id xs t
deciding_at-old id xs e t lt = rw (take-append-le t xs (e ∷ []) (omega arith), get_old xs e t lt) refl

deciding_at-last : (id : CallId) (xs : List Occurrence) (e : Occurrence) → deciding_at id (xs ++ e ∷ []) (length xs) ≡ deciding id (mark_of (past_of xs) e) (past_of xs)
deciding_at-last id xs e = rw (get_last xs e, before-old xs e (length xs) (omega arith), before-all xs) refl

-- the deciding place, and that there is none
record Decides (id : CallId) (xs : List Occurrence) : Type 0 where
  found : (r : CallEvent) → decided id (past_of xs) ≡ Some r → (t : ℕ) × (t < length xs) × IsDecidedAt id xs t r
  none_yet : decided id (past_of xs) ≡ None → (u : ℕ) → u < length xs → deciding_at id xs u ≡ None

decided-push : (id : CallId) (xs : List Occurrence) (e : Occurrence) → decided id (past_of (xs ++ e ∷ [])) ≡ option_or (decided id (past_of xs)) (deciding_at id (xs ++ e ∷ []) (length xs))
decided-push id xs e = rw (past-push xs e, deciding_at-last id xs e) refl

option_cases : {A : Type 0} (x : Option A) → (x ≡ None) ⊎ ((a : A) × (x ≡ Some a))
option_cases None = inl refl
option_cases (Some a) = inr (a, refl)

decides : (id : CallId) (xs : List Occurrence) → Decides id xs
decides id = push_induction (λ xs. Decides id xs)
    (record { found = λ r e. cc; none_yet = λ e u lt. absurd (omega arith) })
    (λ xs e h. ⊎_elim
    (λ (pending : decided id (past_of xs) ≡ None).
    let now_is : decided id (past_of (xs ++ e ∷ [])) ≡ deciding_at id (xs ++ e ∷ []) (length xs) = decided-push id xs e ∙ rw pending refl in
    let earlier : (u : ℕ) → u < length xs → deciding_at id (xs ++ e ∷ []) u ≡ None = λ u lt. deciding_at-old id xs e u lt ∙ h.none_yet pending u lt in
    record {
      found = λ r is. (length xs, omega (arith, length_push xs e), record { here = sym now_is ∙ is; least = earlier });
      none_yet = λ is u lt. ⊎_elim (λ (old : u < length xs). earlier u old)
          (λ (last : length xs ≤ u). let same : u ≡ length xs = omega (arith, lt, length_push xs e) in rw same (sym now_is ∙ is))
          (cases_lt u (length xs));
    })
    (λ (some : (s : CallEvent) × (decided id (past_of xs) ≡ Some s)).
    let now_is : decided id (past_of (xs ++ e ∷ [])) ≡ Some some.0 = decided-push id xs e ∙ rw some.1 refl in
    let place = h.found some.0 some.1 in
    record {
      found = λ r is. grind (arith, nat_tests, length_push, deciding_at-old);
      none_yet = λ is u lt. let bad : Some some.0 ≡ None = sym now_is ∙ is in cc;
    })
    (option_cases (decided id (past_of xs))))

pub decided_found : (events : List Occurrence) (id : CallId) (r : CallEvent) → decided id (past_of events) ≡ Some r → (t : ℕ) × (t < length events) × IsDecidedAt id events t r
decided_found events id r = (decides id events).found r

pub decided_only : (events : List Occurrence) (id : CallId) (t : ℕ) (r : CallEvent) → IsDecidedAt id events t r → decided id (past_of events) ≡ Some r
decided_only events id t r h =
    let d = decides id events in
    ⊎_elim (λ (pending : decided id (past_of events) ≡ None).
    ⊎_elim (λ (lt : t < length events). let bad : Some r ≡ None = sym h.here ∙ d.none_yet pending t lt in cc)
    (λ (le : length events ≤ t). let bad : Some r ≡ None = sym h.here ∙ rw (slice_get_past events t le) refl in cc)
    (cases_lt t (length events)))
    (λ (some : (s : CallEvent) × (decided id (past_of events) ≡ Some s)).
    let place = d.found some.0 some.1 in
    let same : some.0 ≡ r =
    ⊎_elim (λ (early : place.0 < t). let bad : Some some.0 ≡ None = sym place.2.here ∙ h.least place.0 early in cc)
    (λ (le : t ≤ place.0).
    ⊎_elim (λ (late : t < place.0). let bad : Some r ≡ None = sym h.here ∙ place.2.least t late in cc)
    (λ (ge : place.0 ≤ t). let at_t : t ≡ place.0 = omega arith in let both : Some r ≡ Some some.0 = sym h.here ∙ rw at_t place.2.here in cc)
    (cases_lt t place.0))
    (cases_lt place.0 t) in
    some.1 ∙ ap (λ x. Some x) same)
    (option_cases (decided id (past_of events)))
