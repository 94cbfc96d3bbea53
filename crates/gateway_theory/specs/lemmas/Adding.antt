-- How one event adds to what was lived, perhaps with breaks.
use Rattle.std.specs.Prelude.{◌≡◌, ◌≤◌, ◌∷◌, ◌++◌, ◌+◌, if◌then◌else◌, ◌==◌}
use Rattle.gateway_theory.specs.lemmas.Names.{ℕ, Bool, list_any, suc, true, false, List, [], length, refl, sym, ap, ◌∙◌, subst, arith, append_assoc, nat_tests, ⊤, not, reverse, map-append, reverse-append, filter-append, BreakAsTheyMay, CanBreakAt, InOrder, MayOccur, by_events, can_break, Before, onto, Occurs, OccursAt, Occurrence, Opening, Comes, HangUp, Moment, Result, Drain, Closing, Break, is_break, without_breaks, is_broken, marked, Placed, occurrences, Event, breaks_of, AllStand, at_place, Adds, CoreValue, HasConns, Lives, Served, then_came, History, after_event, calls_arrived, calls_in}

-- ---- which may break

-- the connection may break at the event, where this has occurred
abbrev pub MayBreak : List ℕ → Event → Before → ℕ → List Occurrence → Type 0
MayBreak opened e es c os = (is_broken c (marked os) ≡ false) × (can_break c opened e es (marked os) ≡ true)

-- what breaks is a connection of which this is so
abbrev pub BreakSo : (ℕ → List Occurrence → Type 0) → Occurrence → List Occurrence → Type 0
BreakSo P (Break c) os = P c os
BreakSo P o os = ⊤

-- so it is of each break among the newer ones
abbrev pub AreBreaks : (ℕ → List Occurrence → Type 0) → List Occurrence → List Occurrence → Type 0
AreBreaks P [] os = ⊤
AreBreaks P (o ∷ newer) os = BreakSo P o (newer ++ os) × AreBreaks P newer os

-- what an event adds that brings these, perhaps with breaks, so that it comes to this
pub record Newer (P : ℕ → List Occurrence → Type 0) (S : List Occurrence → Type 0) (brought os : List Occurrence) : Type 0 where
  pub newer : List Occurrence
  pub same : without_breaks newer ≡ reverse brought
  pub may : AreBreaks P newer os
  pub stands : S (newer ++ os)

pub breaks_join : (P : ℕ → List Occurrence → Type 0) (xs ys os : List Occurrence) → AreBreaks P xs (ys ++ os) → AreBreaks P ys os → AreBreaks P (xs ++ ys) os
breaks_join P [] ys os a b = b
breaks_join P (x ∷ xs) ys os a b = (subst (λ us. BreakSo P x us) (sym (append_assoc xs ys os)) a.0, breaks_join P xs ys os a.1 b)

-- breaks alone are nothing by the events
pub without_these : (cs : List ℕ) → without_breaks (breaks_of cs) ≡ []
without_these [] = refl
without_these (c ∷ cs) = without_these cs

pub without_both : (xs ys : List Occurrence) → without_breaks (xs ++ ys) ≡ without_breaks xs ++ without_breaks ys
without_both xs ys = filter-append (λ o. not (is_break o)) xs ys

-- ---- places

pub occurrences_at : (n : ℕ) (newer : List Occurrence) (lived : List Placed) → occurrences (at_place n newer ++ lived) ≡ newer ++ occurrences lived
occurrences_at n [] lived = refl
occurrences_at n (o ∷ newer) lived = ap (λ os. o ∷ os) (occurrences_at n newer lived)

pub onto_is : (n : ℕ) (os : List Occurrence) (past : List Placed) → onto n os past ≡ at_place n (reverse os) ++ past
onto_is n [] past = refl
onto_is n (o ∷ os) past =
    onto_is n os ((n, o) ∷ past)
    ∙ sym (append_assoc (at_place n (reverse os)) ((n, o) ∷ []) past)
    ∙ ap (λ xs. xs ++ past) (sym (map-append (λ (x : Occurrence). (n, x)) (reverse os) (o ∷ [])) ∙ ap (λ us. at_place n us) (sym (reverse-append (o ∷ []) os)))

events_at : (n : ℕ) (newer : List Occurrence) → by_events (at_place n newer) ≡ at_place n (without_breaks newer)
events_at n [] = refl
events_at n (o ∷ newer) = grind (arith, events_at n newer)

pub events_are : (n : ℕ) (newer os : List Occurrence) (lived : List Placed) → without_breaks newer ≡ reverse os → by_events (at_place n newer ++ lived) ≡ onto n os (by_events lived)
events_are n newer os lived same = grind (arith, nat_tests, filter-append, events_at, onto_is)

order_more : (n m : ℕ) (lived : List Placed) → n ≤ m → InOrder n lived → InOrder m lived
order_more n m [] le h = tt
order_more n m (o ∷ lived) le h = let lt = h.0 in (omega (arith, lt, le), h.1)

pub order_at : (n : ℕ) (newer : List Occurrence) (lived : List Placed) → InOrder n lived → InOrder (suc n) (at_place n newer ++ lived)
order_at n [] lived h = order_more n (suc n) lived (omega arith) h
order_at n (o ∷ newer) lived h = (omega arith, order_at n newer lived h)

-- ---- breaks, by one event more

may_later : (opened later : List ℕ) (e : Event) (es : Before)
    → ((c place : ℕ) (p : _) → CanBreakAt c place opened es p → CanBreakAt c place later (e ∷ es) p)
    → (o : Occurrence) (place : ℕ) (lived : List Placed) → MayOccur opened es place o (marked (occurrences lived)) → MayOccur later (e ∷ es) place o (marked (occurrences lived))
may_later opened later e es each o place lived fact = grind (arith, nat_tests)

pub breaks_later : (opened later : List ℕ) (e : Event) (es : Before)
    → ((c place : ℕ) (p : _) → CanBreakAt c place opened es p → CanBreakAt c place later (e ∷ es) p)
    → (lived : List Placed) → BreakAsTheyMay opened es lived → BreakAsTheyMay later (e ∷ es) lived
breaks_later opened later e es f [] b = tt
breaks_later opened later e es f (o ∷ lived) b = (may_later opened later e es f o.1 o.0 lived b.0, breaks_later opened later e es f lived b.1)

-- the same openings succeeded
pub can_later : (opened : List ℕ) (e : Event) (es : Before) (c place : ℕ) (p : _) → CanBreakAt c place opened es p → CanBreakAt c place opened (e ∷ es) p
can_later opened e es c place p b = record {
  later = e ∷ b.later;
  event = b.event;
  before = b.before;
  events_are = ap (λ xs. e ∷ xs) b.events_are;
  place_is = b.place_is;
  first = b.first;
  can = b.can;
}

may_now : (opened : List ℕ) (e : Event) (es : Before) (o : Occurrence) (us : List Occurrence) (lived : List Placed) → occurrences lived ≡ us → BreakSo (MayBreak opened e es) o us
    → MayOccur opened (e ∷ es) (length es) o (marked (occurrences lived))
may_now opened e es (Break c) us lived same b =
    subst (λ xs. CanBreakAt c (length es) opened (e ∷ es) (marked xs)) (sym same)
    (record { later = []; event = e; before = es; events_are = refl; place_is = refl; first = b.0; can = b.1 })
may_now opened e es Opening us lived same b = tt
may_now opened e es (Comes c x) us lived same b = tt
may_now opened e es (HangUp c) us lived same b = tt
may_now opened e es (Moment m) us lived same b = tt
may_now opened e es (Result id i r) us lived same b = tt
may_now opened e es Drain us lived same b = tt
may_now opened e es (Closing c) us lived same b = tt

pub breaks_now : (opened : List ℕ) (e : Event) (es : Before) (newer : List Occurrence) (lived : List Placed) → AreBreaks (MayBreak opened e es) newer (occurrences lived)
    → BreakAsTheyMay opened (e ∷ es) lived → BreakAsTheyMay opened (e ∷ es) (at_place (length es) newer ++ lived)
breaks_now opened e es [] lived a b = b
breaks_now opened e es (o ∷ newer) lived a b =
    (may_now opened e es o (newer ++ occurrences lived) (at_place (length es) newer ++ lived) (occurrences_at (length es) newer lived) a.0, breaks_now opened e es newer lived a.1 b)

no_break : (P : ℕ → List Occurrence → Type 0) (o : Occurrence) (os : List Occurrence) → is_break o ≡ false → BreakSo P o os
no_break P o os is = grind (arith, nat_tests)

module _ (P : ℕ → List Occurrence → Type 0) (S : List Occurrence → Type 0) (os : List Occurrence) where
  -- connections break, and this occurs behind it
  pub one_newer : (o : Occurrence) (cs : List ℕ) → is_break o ≡ false → AreBreaks P (breaks_of cs) os → S (o ∷ (breaks_of cs ++ os)) → Newer P S (o ∷ []) os
  one_newer o cs plain may stands = record {
    newer = o ∷ breaks_of cs;
    same = ap (λ b. if not b then o ∷ without_breaks (breaks_of cs) else without_breaks (breaks_of cs)) plain ∙ ap (λ us. o ∷ us) (without_these cs);
    may = (no_break P o (breaks_of cs ++ os) plain, may);
    stands = stands;
  }

  -- nothing occurs
  pub none_newer : S os → Newer P S [] os
  none_newer stands = record { newer = []; same = refl; may = tt; stands = stands }

-- ---- which break

abbrev pub listed : List ℕ → ℕ → Bool
listed cs c = list_any (λ d. d == c) cs

-- no number is there twice
abbrev pub AreOnce : List ℕ → Type 0
AreOnce [] = ⊤
AreOnce (n ∷ ns) = (listed ns n ≡ false) × AreOnce ns

pub breaks_each : (P : ℕ → List Occurrence → Type 0) (os : List Occurrence) (cs : List ℕ) → AreOnce cs
    → ((c : ℕ) (ds : List ℕ) → listed cs c ≡ true → listed ds c ≡ false → P c (breaks_of ds ++ os)) → AreBreaks P (breaks_of cs) os
breaks_each P os [] once f = tt
breaks_each P os (c ∷ cs) once f = grind (arith, breaks_each P os cs once.1)

abbrev pub StandsNow : History → CoreValue → List Occurrence → Type 0
StandsNow h w os = AllStand w.now w.conns h.taken h.handed w.waiting os

-- as many calls were begun more, at most, as come with what occurs at it
abbrev pub BeginsFew : List ℕ → Event → History → CoreValue → CoreValue → Type 0
BeginsFew opened e h v w = HasConns v h.opened h.events → (os : List Occurrence) → OccursAt v.plans opened e h.events os → w.begun ≤ v.begun + calls_arrived os

pub none_more : (opened : List ℕ) (e : Event) (h : History) (v w : CoreValue) → w.begun ≡ v.begun → BeginsFew opened e h v w
none_more opened e h v w same = λ c os at. omega (arith, same)

pub calls_both : (xs ys : List Occurrence) → calls_arrived (xs ++ ys) ≡ calls_arrived xs + calls_arrived ys
calls_both [] ys = omega arith
calls_both (x ∷ xs) ys = let rest = calls_both xs ys in omega (arith, rest)

calls_back : (xs : List Occurrence) → calls_arrived (reverse xs) ≡ calls_arrived xs
calls_back [] = refl
calls_back (x ∷ xs) =
    let split : calls_arrived (reverse (x ∷ xs)) ≡ calls_arrived (reverse xs) + calls_arrived (x ∷ []) = ap calls_arrived (reverse-append (x ∷ []) xs) ∙ calls_both (reverse xs) (x ∷ []) in
    let rest = calls_back xs in omega (arith, split, rest)

calls_solid : (xs : List Occurrence) → calls_arrived (without_breaks xs) ≡ calls_arrived xs
calls_solid [] = refl
calls_solid (Break c ∷ xs) = let rest = calls_solid xs in omega (arith, rest)
calls_solid (Opening ∷ xs) = ap (λ n. 0 + n) (calls_solid xs)
calls_solid (Comes c x ∷ xs) = ap (λ n. calls_in x + n) (calls_solid xs)
calls_solid (HangUp c ∷ xs) = ap (λ n. 0 + n) (calls_solid xs)
calls_solid (Moment m ∷ xs) = ap (λ n. 0 + n) (calls_solid xs)
calls_solid (Result of i outcome ∷ xs) = ap (λ n. 0 + n) (calls_solid xs)
calls_solid (Drain ∷ xs) = ap (λ n. 0 + n) (calls_solid xs)
calls_solid (Closing c ∷ xs) = ap (λ n. 0 + n) (calls_solid xs)

module _ (opened : List ℕ) (e : Event) (h : History) (v w : CoreValue) (plans_are : w.plans ≡ v.plans) where
  abbrev StepsBy : Type 0
  StepsBy = HasConns v h.opened h.events → (lived : List Placed) → Lives v h lived → (os : List Occurrence) → OccursAt v.plans opened e h.events os
      → Newer (MayBreak opened e h.events) (StandsNow h w) os (occurrences lived)

  pub adds_counted : (HasConns v h.opened h.events → HasConns w opened (e ∷ h.events))
      → (HasConns v h.opened h.events → (lived : List Placed) → Lives v h lived → Occurs v.plans opened h.events (by_events lived) × BreakAsTheyMay opened (e ∷ h.events) lived)
      → (step : StepsBy)
      → ((c : HasConns v h.opened h.events) (lived : List Placed) (l : Lives v h lived) (os : List Occurrence) (at : OccursAt v.plans opened e h.events os)
      → w.begun ≤ calls_arrived ((step c lived l os at).newer ++ occurrences lived))
      → Adds opened e h v w
  adds_counted conns before step counts = record {
    plans_are = plans_are;
    conns = conns;
    lives = λ lived l os at. let x = step l.conns lived l os at in (
      x.newer,
      x.same,
      record {
        occurs = grind (arith, nat_tests, events_are);
        in_order = order_at (length h.events) x.newer lived l.in_order;
        breaks = breaks_now opened e h.events x.newer lived x.may (before l.conns lived l).1;
        conns = conns l.conns;
        stands = subst (StandsNow h w) (sym (occurrences_at (length h.events) x.newer lived)) x.stands;
        begun_is = subst (λ us. w.begun ≤ calls_arrived us) (sym (occurrences_at (length h.events) x.newer lived)) (counts l.conns lived l os at);
      },
    );
  }

  begun_then : BeginsFew opened e h v w → (newer os : List Occurrence) (lived : List Placed) → HasConns v h.opened h.events → without_breaks newer ≡ reverse os
      → OccursAt v.plans opened e h.events os → v.begun ≤ calls_arrived (occurrences lived) → w.begun ≤ calls_arrived (newer ++ occurrences lived)
  begun_then begins newer os lived c same at was = grind (arith, nat_tests, calls_solid, calls_back, calls_both)

  pub adds_by : BeginsFew opened e h v w
      → (HasConns v h.opened h.events → HasConns w opened (e ∷ h.events))
      → (HasConns v h.opened h.events → (lived : List Placed) → Lives v h lived → Occurs v.plans opened h.events (by_events lived) × BreakAsTheyMay opened (e ∷ h.events) lived)
      → StepsBy → Adds opened e h v w
  adds_by begins conns before step = adds_counted conns before step (λ c lived l os at. let x = step c lived l os at in begun_then begins x.newer os lived c x.same at l.begun_is)

-- what holds for whatever occurred
module _ (opened : List ℕ) (e : Event) (h : History) (v w : CoreValue) (plans_are : w.plans ≡ v.plans) where
  pub served_by : ((past : List Placed) → HasConns v h.opened h.events → Occurs v.plans opened h.events past → Occurs v.plans h.opened h.events past)
      → Adds opened e h v w → Served v h → Served w (then_came opened e h)
  served_by back a s = record {
    conns = a.conns s.conns;
    stands = λ occurred all. by_past occurred (subst (λ plans. Occurs plans opened (e ∷ h.events) occurred) plans_are all);
  }
    where
      by_past : (occurred : List Placed) → Occurs v.plans opened (e ∷ h.events) occurred
          → (lived : List Placed) × (by_events lived ≡ occurred) × Lives w (then_came opened e h) lived
      by_past occurred (past, before, (os, at, is)) =
          let was = s.stands past (back past s.conns before) in
          let x = a.lives was.0 was.2 os at in (
            at_place (length h.events) x.0 ++ was.0,
            events_are (length h.events) x.0 os was.0 x.1 ∙ ap (λ us. onto (length h.events) os us) was.1 ∙ sym is,
            x.2,
          )

-- where no opening succeeded
module _ (e : Event) (h : History) (v w : CoreValue) (plans_are : w.plans ≡ v.plans) where
  pub adds_event : BeginsFew h.opened e h v w
      → (HasConns v h.opened h.events → HasConns w h.opened (e ∷ h.events))
      → (HasConns v h.opened h.events → (lived : List Placed) → Lives v h lived → (os : List Occurrence) → OccursAt v.plans h.opened e h.events os
      → Newer (MayBreak h.opened e h.events) (StandsNow h w) os (occurrences lived))
      → Adds h.opened e h v w
  adds_event begins conns step = adds_by h.opened e h v w plans_are begins conns stays step
    where
      stays : HasConns v h.opened h.events → (lived : List Placed) → Lives v h lived → Occurs v.plans h.opened h.events (by_events lived) × BreakAsTheyMay h.opened (e ∷ h.events) lived
      stays c lived l = (l.occurs, breaks_later h.opened h.opened e h.events (can_later h.opened e h.events) lived l.breaks)

  pub served_event : Adds h.opened e h v w → Served v h → Served w (after_event e h)
  served_event a s = served_by h.opened e h v w plans_are (λ past conns o. o) a s
