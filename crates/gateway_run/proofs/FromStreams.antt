-- What comes on a connection is what the whole of its stream is cut into.
use Rattle.gateway_run.proofs.Names.{◌≡◌, ℕ, zero, suc, Bool, true, false, List, [], ◌∷◌, ◌++◌, length, map, Option, None, Some, refl, sym, ap, ◌∙◌, subst, arith, append_assoc, append-nil, flat_map, ◌==◌, ◌||◌, if◌then◌else◌, is_some, option_map, option_to_list, slice_get, MatchBool, option_or, eq-eqb, eqb-true, ne_eqb, append_cancel_left, map-append, HttpRequest, StreamEnd, Open, RefusedBy, Closed, Requests, PlanRecord, Before, Gains, Occurs, OccursAt, once, onto, piece_of, refusal_gained, requests_gained, stream, Event, Piece, Coming, Comes, Occurrence, call_id, coming_on, arrivals, marked, is_broken, breaks, came, Placed, occurrences, brought_by, came_on, or_none, nat_tests}
use Rattle.http_pieces.specs.declared.refusal.Refusal.{Refusal}
use Rattle.gateway_theory.specs.lemmas.EventLemmas.{none_breaks}
use Rattle.gateway_theory.specs.lemmas.ServedLemmas.{text_still as stream_same}

-- what is known of requests
pub record StreamLaws : Type 0 where
  pub first : Requests 0 [] [] (Open [])
  pub unique : (k : ℕ) (text : List ℕ) (given other : List HttpRequest) (a b : StreamEnd)
      → Requests k text given a → Requests k text other b → (given ≡ other) × (a ≡ b)
  pub refused_stays : (k : ℕ) (text more : List ℕ) (given : List HttpRequest) (r : Refusal) → Requests k text given (RefusedBy r)
      → Requests k (text ++ more) given (RefusedBy r)
  pub closed_stays : (k : ℕ) (text more : List ℕ) (given : List HttpRequest) → Requests k text given Closed → Requests k (text ++ more) given Closed

-- ---- what comes by some occurrences

-- what comes where no connection breaks
abbrev came_whole : ℕ → List Occurrence → List Coming
came_whole conn [] = []
came_whole conn (o ∷ os) = came_whole conn os ++ option_to_list (coming_on conn o false)

came_unbroken : (conn : ℕ) (os : List Occurrence) → is_broken conn (marked os) ≡ false → came_on conn os ≡ came_whole conn os
came_unbroken conn [] e = refl
came_unbroken conn (o ∷ os) e =
    let before : is_broken conn (marked os) ≡ false = not_before (breaks conn o) (is_broken conn (marked os)) e in
    ap (λ xs. xs ++ option_to_list (coming_on conn o (is_broken conn (marked os)))) (came_unbroken conn os before)
    ∙ ap (λ b. came_whole conn os ++ option_to_list (coming_on conn o b)) before
  where
    not_before : (a b : Bool) → (a || b) ≡ false → b ≡ false
    not_before false b e = e
    not_before true b e = absurd (cc)

abbrev gained_on : ℕ → List Occurrence → List Coming
gained_on conn os = flat_map (λ o. option_to_list (coming_on conn o false)) os

came_onto : (conn place : ℕ) (os : List Occurrence) (past : List Placed) → came_whole conn (occurrences (onto place os past)) ≡ came_whole conn (occurrences past) ++ gained_on conn os
came_onto conn place [] past = sym (append-nil (came_whole conn (occurrences past)))
came_onto conn place (o ∷ os) past =
    came_onto conn place os ((place, o) ∷ past) ∙ append_assoc (came_whole conn (occurrences past)) (option_to_list (coming_on conn o false)) (gained_on conn os)

comings_gained : (c conn : ℕ) (xs : List Coming) → gained_on conn (map (Comes c) xs) ≡ (if c == conn then xs else [])
comings_gained c conn [] = grind arith
comings_gained c conn (x ∷ xs) = grind (arith, comings_gained c conn xs)

once_gained : (conn : ℕ) (b : Bool) (o : Occurrence) → coming_on conn o false ≡ None → gained_on conn (once b o) ≡ []
once_gained conn true o e = ap (λ x. option_to_list x ++ []) e
once_gained conn false o e = refl

-- ---- one event

refusal_from : (left : List ℕ) (e : StreamEnd) → refusal_gained (Open left) e ≡ refusal_gained (Open []) e
refusal_from left e = grind (arith, nat_tests)

-- what a longer stream brings is what the shorter one brought, and what it gains
brought_more : (plans : List PlanRecord) (ending later : StreamEnd) (given more : List HttpRequest)
    → ((r : Refusal) → ending ≡ RefusedBy r → (more ≡ []) × (later ≡ RefusedBy r)) → (ending ≡ Closed → (more ≡ []) × (later ≡ Closed))
    → brought_by plans given ending ++ (requests_gained plans more ++ refusal_gained ending later) ≡ brought_by plans (given ++ more) later
brought_more plans ending later given more h5 h6 = grind (arith, nat_tests, append-nil, refusal_from, append_assoc, map-append)

module _ (laws : StreamLaws) (plans : List PlanRecord) (opened : List ℕ) (conn : ℕ) (before : Before) (past : List Placed)
    (was : (given : List HttpRequest) (ending : StreamEnd) → Requests 0 (stream opened conn before) given ending → came_whole conn (occurrences past) ≡ brought_by plans given ending) where
  -- where nothing comes
  quiet : (e : Event) (os : List Occurrence) (given : List HttpRequest) (ending : StreamEnd) → piece_of conn e ≡ [] → gained_on conn os ≡ []
      → Requests 0 (stream opened conn (e ∷ before)) given ending → came_whole conn (occurrences past) ++ gained_on conn os ≡ brought_by plans given ending
  quiet e os given ending none nothing r = grind (arith, nat_tests, append-nil, stream_same)

  -- a piece of the stream
  gains : (bytes : List ℕ) (gained : List Coming) (given : List HttpRequest) (ending : StreamEnd)
      → Gains plans (stream opened conn before) (stream opened conn before ++ bytes) gained → Requests 0 (stream opened conn before ++ bytes) given ending
      → came_whole conn (occurrences past) ++ gained ≡ brought_by plans given ending
  gains bytes gained given ending g r =
      let text : List ℕ = stream opened conn before in
      let whole = laws.unique 0 (text ++ bytes) given (g.given ++ g.more) ending g.later r g.longer_is in
      let refused : (x : Refusal) → g.ending ≡ RefusedBy x → (g.more ≡ []) × (g.later ≡ RefusedBy x) = λ x e.
      (let u = laws.unique 0 (text ++ bytes) (g.given ++ g.more) g.given g.later (RefusedBy x) g.longer_is
      (laws.refused_stays 0 text bytes g.given x (subst (λ y. Requests 0 text g.given y) e g.text_is)) in
      (append_cancel_left g.given g.more [] (u.0 ∙ sym (append-nil g.given)), u.1)) in
      let closed : g.ending ≡ Closed → (g.more ≡ []) × (g.later ≡ Closed) = λ e.
      (let u = laws.unique 0 (text ++ bytes) (g.given ++ g.more) g.given g.later Closed g.longer_is
      (laws.closed_stays 0 text bytes g.given (subst (λ y. Requests 0 text g.given y) e g.text_is)) in
      (append_cancel_left g.given g.more [] (u.0 ∙ sym (append-nil g.given)), u.1)) in
      ap (λ xs. xs ++ gained) (was g.given g.ending g.text_is)
      ∙ ap (λ xs. brought_by plans g.given g.ending ++ xs) g.gained_is
      ∙ brought_more plans g.ending g.later g.given g.more refused closed
      ∙ ap (λ xs. brought_by plans xs g.later) (sym whole.0) ∙ ap (λ e. brought_by plans given e) (sym whole.1)

  abbrev Brings : List ℕ → List Occurrence → Type 0
  Brings bytes os = (gained : List Coming) × Gains plans (stream opened conn before) (stream opened conn before ++ bytes) gained × (os ≡ map (Comes conn) gained)

  own_piece : (b : Bool) (bytes : List ℕ) (os : List Occurrence) (given : List HttpRequest) (ending : StreamEnd) → MatchBool b (Brings bytes os) (os ≡ [])
      → Requests 0 (if b then stream opened conn before ++ piece_of conn (Piece conn bytes) else stream opened conn before) given ending
      → came_whole conn (occurrences past) ++ gained_on conn os ≡ brought_by plans given ending
  own_piece true bytes os given ending (gained, g, os_is) r =
      let here : (conn == conn) ≡ true = eq-eqb conn conn refl in
      let read : Requests 0 (stream opened conn before ++ bytes) given ending =
      subst (λ b. Requests 0 (stream opened conn before ++ (if b then bytes else [])) given ending) here r in
      ap (λ xs. came_whole conn (occurrences past) ++ gained_on conn xs) os_is
      ∙ ap (λ xs. came_whole conn (occurrences past) ++ xs) (comings_gained conn conn gained ∙ ap (λ b. if b then gained else []) here)
      ∙ gains bytes gained given ending g read
  own_piece false bytes os given ending none r =
      ap (λ xs. came_whole conn (occurrences past) ++ gained_on conn xs) none ∙ append-nil (came_whole conn (occurrences past)) ∙ was given ending r

  -- what another stream brings
  other_piece : (c : ℕ) (bytes : List ℕ) (os : List Occurrence) → (c == conn) ≡ false → OccursAt plans opened (Piece c bytes) before os → gained_on conn os ≡ []
  other_piece c bytes os other at = grind (arith, nat_tests, comings_gained)

  at_event : (e : Event) (os : List Occurrence) (given : List HttpRequest) (ending : StreamEnd) → OccursAt plans opened e before os
      → Requests 0 (stream opened conn (e ∷ before)) given ending → came_whole conn (occurrences past) ++ gained_on conn os ≡ brought_by plans given ending
  at_event e os given ending h4 h5 = grind (arith, nat_tests, quiet, once_gained, eqb-true, own_piece, other_piece)

whole_are : (laws : StreamLaws) (plans : List PlanRecord) (opened : List ℕ) (conn : ℕ) (es : Before) (occurred : List Placed) (given : List HttpRequest) (ending : StreamEnd)
    → Occurs plans opened es occurred → Requests 0 (stream opened conn es) given ending → came_whole conn (occurrences occurred) ≡ brought_by plans given ending
whole_are laws plans opened conn [] occurred given ending o r =
    let none = laws.unique 0 [] given [] ending (Open []) r laws.first in
    ap (λ xs. came_whole conn (occurrences xs)) o ∙ ap (λ xs. brought_by plans xs (Open [])) (sym none.0) ∙ ap (λ e. brought_by plans given e) (sym none.1)
whole_are laws plans opened conn (e ∷ before) occurred given ending (past, o, (os, at, occurred_is)) r =
    ap (λ xs. came_whole conn (occurrences xs)) occurred_is ∙ came_onto conn (length before) os past
    ∙ at_event laws plans opened conn before past (λ g x q. whole_are laws plans opened conn before past g x o q) e os given ending at r

pub came_are : (laws : StreamLaws) (plans : List PlanRecord) (opened : List ℕ) (conn : ℕ) (es : Before) (occurred : List Placed) (given : List HttpRequest) (ending : StreamEnd)
    → Occurs plans opened es occurred → Requests 0 (stream opened conn es) given ending → came_on conn (occurrences occurred) ≡ brought_by plans given ending
came_are laws plans opened conn es occurred given ending o r =
    came_unbroken conn (occurrences occurred) (none_breaks plans opened es occurred o conn) ∙ whole_are laws plans opened conn es occurred given ending o r

-- ---- and by numbers

eqb_suc : (n k : ℕ) → (suc n == suc k) ≡ (n == k)
eqb_suc n k = grind arith

at_end : {A : Type 0} (xs : List A) (x : A) (k : ℕ) → slice_get (xs ++ x ∷ []) k ≡ option_or (slice_get xs k) (if length xs == k then Some x else None)
at_end [] x zero = refl
at_end [] x (suc k) = sym (ap (λ b. if b then Some x else None) (ne_eqb 0 (suc k) (λ same. omega (arith, same))))
at_end (y ∷ xs) x zero = refl
at_end (y ∷ xs) x (suc k) = at_end xs x k ∙ ap (λ b. option_or (slice_get xs k) (if b then Some x else None)) (sym (eqb_suc (length xs) k))

came_count : (conn : ℕ) (os : List Occurrence) → arrivals conn (marked os) ≡ length (came_on conn os)
came_count conn [] = refl
came_count conn (o ∷ os) = by_what (coming_on conn o (is_broken conn (marked os))) (came_count conn os)
  where
    pushed : (xs : List Coming) (x : Coming) → length (xs ++ x ∷ []) ≡ suc (length xs)
    pushed [] x = refl
    pushed (y ∷ xs) x = ap suc (pushed xs x)

    by_what : (x : Option Coming) → arrivals conn (marked os) ≡ length (came_on conn os)
        → (if is_some x then suc (arrivals conn (marked os)) else arrivals conn (marked os)) ≡ length (came_on conn os ++ option_to_list x)
    by_what None e = e ∙ ap (λ (xs : List Coming). length xs) (sym (append-nil (came_on conn os)))
    by_what (Some x) e = ap suc e ∙ sym (pushed (came_on conn os) x)

-- what came as that request
abbrev entering_of : Option (Coming × Bool) → Option Coming
entering_of o = option_map (λ x. x.0) o

both_of : (a b : Option (Coming × Bool)) → entering_of (option_or a b) ≡ option_or (entering_of a) (entering_of b)
both_of None b = refl
both_of (Some a) b = refl

-- request k of a connection is number k of what came on it
pub came_at : (conn k : ℕ) (os : List Occurrence) → option_map {U = Coming} (λ x. x.0) (came (call_id conn k) (marked os)) ≡ slice_get (came_on conn os) k
came_at conn k [] = refl
came_at conn k (o ∷ os) = grind (arith, nat_tests, came_at conn k os, both_of, or_none, append-nil, came_count, at_end)
