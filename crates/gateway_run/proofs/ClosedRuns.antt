-- A connection that was closed: nothing more is queued for it, and it does not break any more.
use Rattle.gateway_run.proofs.Names.{and_none, ◌≡◌, ℕ, zero, suc, Bool, true, false, List, [], ◌∷◌, ◌++◌, map, length, None, Some, refl, sym, ap, ◌∙◌, subst, arith, ⊎_elim, reverse, ⊤, ◌⊎◌, if◌then◌else◌, ◌&&◌, ◌||◌, not, ◌==◌, nat_lt, eqb-true, ne_eqb, reverse-append, PlanRecord, Before, OccursAt, is_open, listens, once, Event, Coming, Occurrence, Comes, Break, is_break, without_breaks, Past, breaks, coming_on, count_below, is_broken, is_shut, mark_of, marked, queued_entries, Placed, occurrences, Still, still_queue, nat_tests}
use Rattle.gateway_model.specs.Occurrence.{Opening, HangUp, Moment, Result, Drain, Closing}
use Rattle.gateway_model.specs.Breaks.{BreakAsTheyMay}
use Rattle.gateway_model.specs.Concerns.{can_break, decided_by}
use Rattle.gateway_theory.specs.Core.{at_place}
use Rattle.gateway_theory.specs.lemmas.Adding.{occurrences_at}
use Rattle.gateway_theory.specs.lemmas.ServedJoins.{last_event}
use Rattle.gateway_model.specs.declared.event.Event.TheVariants as events

-- ---- each of a list

abbrev Each : (Occurrence → Type 0) → List Occurrence → Type 0
Each Q [] = ⊤
Each Q (o ∷ os) = Q o × Each Q os

each_more : (Q : Occurrence → Type 0) (xs ys : List Occurrence) → Each Q xs → Each Q ys → Each Q (xs ++ ys)
each_more Q [] ys a b = b
each_more Q (x ∷ xs) ys a b = (a.0, each_more Q xs ys a.1 b)

each_reverse : (Q : Occurrence → Type 0) (xs : List Occurrence) → Each Q xs → Each Q (reverse xs)
each_reverse Q [] a = tt
each_reverse Q (x ∷ xs) a = subst (λ ys. Each Q ys) (sym (reverse-append (x ∷ []) xs)) (each_more Q (reverse xs) (x ∷ []) (each_reverse Q xs a.1) (a.0, tt))

-- it is a break, or this is so of it
abbrev OrBreak : (Occurrence → Type 0) → Occurrence → Type 0
OrBreak Q o = (is_break o ≡ true) ⊎ Q o

each_newer : (Q : Occurrence → Type 0) (newer : List Occurrence) → Each Q (without_breaks newer) → Each (OrBreak Q) newer
each_newer Q [] a = tt
each_newer Q (o ∷ newer) a = grind (arith, each_newer Q newer)

-- ---- what leaves a connection as it is

-- nothing comes on its stream, whether it is broken or not
abbrev Passes : ℕ → Occurrence → Type 0
Passes c o = (b : Bool) → coming_on c o b ≡ None

-- a connection closes
abbrev Closes : Occurrence → Type 0
Closes o = (d : ℕ) × (o ≡ Closing d)

still_shut : (c : ℕ) (o : Occurrence) (past : Past) → is_shut c past ≡ true → Passes c o → Still c (mark_of past o) past
still_shut c o past shut passes = record { none_comes = passes (is_broken c past); no_event = λ k. rw shut refl }

passes_break : (c : ℕ) (o : Occurrence) → is_break o ≡ true → Passes c o
passes_break c (Break d) e b = refl
passes_break c Opening e b = refl
passes_break c (Comes d x) e b = absurd (cc)
passes_break c (HangUp d) e b = refl
passes_break c (Moment m) e b = refl
passes_break c (Result id i r) e b = refl
passes_break c Drain e b = refl
passes_break c (Closing d) e b = refl

-- at a closing nothing happens to a call
at_closing : (c d : ℕ) (past : Past) → Still c (mark_of past (Closing d)) past
at_closing c d past = grind arith

at_any_break : (c : ℕ) (o : Occurrence) (past : Past) → is_break o ≡ true → Still c (mark_of past o) past
at_any_break c o past h3 = grind (arith, nat_tests)

-- the newer ones leave the connection as it is: nothing happens to it, and it does not break
abbrev pub AllStill : ℕ → List Occurrence → List Occurrence → Type 0
AllStill c [] os = ⊤
AllStill c (o ∷ newer) os = Still c (mark_of (marked (newer ++ os)) o) (marked (newer ++ os)) × (breaks c o ≡ false) × AllStill c newer os

queue_stays : (c : ℕ) (newer os : List Occurrence) → AllStill c newer os → queued_entries c (marked (newer ++ os)) ≡ queued_entries c (marked os)
queue_stays c [] os h = refl
queue_stays c (o ∷ newer) os h = still_queue c (mark_of (marked (newer ++ os)) o) (marked (newer ++ os)) h.0 ∙ queue_stays c newer os h.2

broken_stays : (c : ℕ) (newer os : List Occurrence) → AllStill c newer os → is_broken c (marked (newer ++ os)) ≡ is_broken c (marked os)
broken_stays c [] os h = refl
broken_stays c (o ∷ newer) os h = ap (λ b. b || is_broken c (marked (newer ++ os))) h.1 ∙ broken_stays c newer os h.2

shut_stays : (c : ℕ) (newer os : List Occurrence) → is_shut c (marked os) ≡ true → is_shut c (marked (newer ++ os)) ≡ true
shut_stays c [] os e = e
shut_stays c (o ∷ newer) os e = grind (arith, shut_stays c newer os e)

-- ---- what occurs at an event

comings_pass : (c d : ℕ) (xs : List Coming) → (d == c) ≡ false → Each (Passes c) (map (Comes d) xs)
comings_pass c d [] ne = tt
comings_pass c d (x ∷ xs) ne = (λ b. ap (λ y. if y && not b then Some x else None) ne, comings_pass c d xs ne)

once_passes : (Q : Occurrence → Type 0) (b : Bool) (o : Occurrence) → Q o → Each Q (once b o)
once_passes Q true o q = (q, tt)
once_passes Q false o q = tt

-- of one that is not open nothing comes
event_passes : (plans : List PlanRecord) (opened : List ℕ) (c : ℕ) (e : Event) (es : Before) (os : List Occurrence) → OccursAt plans opened e es os → is_open opened c es ≡ false → Each (Passes c) os
event_passes plans opened c e es os h6 h7 = grind (arith, nat_tests, once_passes, comings_pass, ne_eqb)

-- ---- it does not break

none_decided : (n : ℕ) (p : ℕ → Bool) → ((k : ℕ) → p k ≡ false) → count_below n p ≡ 0
none_decided zero p h = refl
none_decided (suc n) p h = ap (λ b. if b then suc (count_below n p) else count_below n p) (h n) ∙ none_decided n p h

undecided_none : (c : ℕ) (o : Occurrence) (past : Past) → is_shut c past ≡ true → nat_lt 0 (decided_by c o past) ≡ false
undecided_none c o past shut = grind (arith, nat_tests, none_decided)

-- of one that is not open no piece is taken
not_listening : (opened : List ℕ) (c d : ℕ) (es : Before) → is_open opened c es ≡ false → ((c == d) && listens opened d es) ≡ true → ⊥
not_listening opened c d es off can = grind arith

-- a connection that is shut and not open can't break by an event
can_not : (opened : List ℕ) (c : ℕ) (e : Event) (es : Before) (past : Past) → is_open opened c es ≡ false → is_shut c past ≡ true → can_break c opened e es past ≡ true → ⊥
can_not opened c e es past h5 h6 h7 = grind (arith, nat_tests, not_listening, undecided_none, eqb-true, and_none)

-- ---- the event

-- no break of the connection is among the newest, where it can't break by the event
none_breaks : (opened : List ℕ) (c : ℕ) (e : Event) (es : Before) (newer : List Occurrence) (lived : List Placed)
    → BreakAsTheyMay opened (e ∷ es) (at_place (length es) newer ++ lived)
    → ((us : List Occurrence) → can_break c opened e es (marked (us ++ occurrences lived)) ≡ true → ⊥)
    → Each (λ o. breaks c o ≡ false) newer
none_breaks opened c e es [] lived b can = tt
none_breaks opened c e es (o ∷ newer) lived b can = search (arith, nat_tests, none_breaks opened c e es newer lived b.1 can, eqb-true, last_event, occurrences_at)

module _ (plans : List PlanRecord) (opened : List ℕ) (c : ℕ) (e : Event) (es : Before) (newer os : List Occurrence) (lived : List Placed)
    (at : OccursAt plans opened e es os) (same : without_breaks newer ≡ reverse os) (may : BreakAsTheyMay opened (e ∷ es) (at_place (length es) newer ++ lived)) where
  -- it was closed before
  pub was_closed : is_open opened c es ≡ false → is_shut c (marked (occurrences lived)) ≡ true → AllStill c newer (occurrences lived)
  was_closed off shut = all newer
      (each_newer (Passes c) newer (subst (Each (Passes c)) (sym same) (each_reverse (Passes c) os (event_passes plans opened c e es os at off))))
      (none_breaks opened c e es newer lived may (λ us can. can_not opened c e es (marked (us ++ occurrences lived)) off (shut_stays c us (occurrences lived) shut) can))
    where
      all : (xs : List Occurrence) → Each (OrBreak (Passes c)) xs → Each (λ o. breaks c o ≡ false) xs → AllStill c xs (occurrences lived)
      all [] a b = tt
      all (x ∷ xs) a b = (
        still_shut c x (marked (xs ++ occurrences lived)) (shut_stays c xs (occurrences lived) shut) (⊎_elim (λ (k : is_break x ≡ true). passes_break c x k) (λ (p : Passes c x). p) a.0),
        b.0,
        all xs a.1 b.1,
      )

  -- a connection closes by the event
  pub closes_now : (d : ℕ) → e ≡ events.Closing d → AllStill c newer (occurrences lived)
  closes_now d e_is = all newer
      (each_newer Closes newer (subst (Each Closes) (sym same) (each_reverse Closes os (subst (Each Closes) (sym (subst (λ f. OccursAt plans opened f es os) e_is at)) (once_passes Closes (is_open opened d es) (Closing d) (d, refl))))))
      (none_breaks opened c e es newer lived may (λ us can. let clash : true ≡ false = sym can ∙ ap (λ f. can_break c opened f es (marked (us ++ occurrences lived))) e_is in cc))
    where
      all : (xs : List Occurrence) → Each (OrBreak Closes) xs → Each (λ o. breaks c o ≡ false) xs → AllStill c xs (occurrences lived)
      all [] a b = tt
      all (x ∷ xs) a b = (
        ⊎_elim (λ (k : is_break x ≡ true). at_any_break c x (marked (xs ++ occurrences lived)) k)
            (λ (p : Closes x). subst (λ y. Still c (mark_of (marked (xs ++ occurrences lived)) y) (marked (xs ++ occurrences lived))) (sym p.1) (at_closing c p.0 (marked (xs ++ occurrences lived)))) a.0,
        b.0,
        all xs a.1 b.1,
      )

  -- what stays then
  pub queue_then : AllStill c newer (occurrences lived) → queued_entries c (marked (occurrences (at_place (length es) newer ++ lived))) ≡ queued_entries c (marked (occurrences lived))
  queue_then h = ap (λ us. queued_entries c (marked us)) (occurrences_at (length es) newer lived) ∙ queue_stays c newer (occurrences lived) h

  pub broken_then : AllStill c newer (occurrences lived) → is_broken c (marked (occurrences (at_place (length es) newer ++ lived))) ≡ is_broken c (marked (occurrences lived))
  broken_then h = ap (λ us. is_broken c (marked us)) (occurrences_at (length es) newer lived) ∙ broken_stays c newer (occurrences lived) h
