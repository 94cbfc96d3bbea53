-- A run with one event more, by what the step and the log make of it.
use Rattle.gateway_run.proofs.Names.{◌≡◌, ℕ, suc, ◌+◌, ◌<◌, ◌≤◌, Bool, true, false, List, [], ◌∷◌, ◌++◌, length, map, refl, sym, ap, ◌∙◌, subst, arith, if◌then◌else◌, ◌||◌, ◌==◌, eq-eqb, eqb-true, length-append, ReplyEntry, Before, IsOpened, IsRising, OpensAt, connections, is_closing_of, most_open, open_connections, succeeds, Closing, Opening, Event, GatewayValue, JobValue, Adds, HasConns, Served, Seen, History, history_of, KeepsBut, job_started, HasRun, LogValue, StartsAll, AddsStep, CollectsFor, after_step, log_after, opened_by, Done, Opened, NotOpened, Saw, Fault, Broke, sym_eqb as turned, nat_tests}
use Rattle.gateway_run.specs.declared.stepping.Stepped.{Stepped}
use Rattle.gateway_run.proofs.Flags.{more_default}
use Rattle.gateway_run.proofs.CoreLaws.{OpeningsLaws}
use Rattle.gateway_run.proofs.Gathering.{collected_run}
use Rattle.gateway_run.proofs.RunSteps.{Steps, run_on}
use Rattle.gateway_theory.specs.lemmas.ServedOpens.{succeeds_more}
use Rattle.gateway_model.specs.declared.event.Event.TheVariants as events

-- the same connections were gathered
pub same_gathered : (f g : ℕ → Bool) (v : GatewayValue) (log : LogValue) (es : Before) → ((c : ℕ) → f c ≡ g c) → HasRun f v log es → HasRun g v log es
same_gathered f g v log es same h = grind arith

-- what is queued for the connection that the event closes was taken
collected_for : (e : Event) (v w : GatewayValue) (log later : LogValue) (es : Before) → HasRun (λ c. false) v log es → CollectsFor e v w log later
    → HasRun (λ c. is_closing_of c e) w later es
collected_for e v w log later es h x = by_event e x
  where
    kept : (w ≡ v) × (later ≡ log) → HasRun (λ c. false) w later es
    kept y = subst (λ u. HasRun (λ c. false) u later es) (sym y.0) (subst (λ l. HasRun (λ c. false) v l es) (sym y.1) h)

    by_event : (f : Event) → CollectsFor f v w log later → HasRun (λ c. is_closing_of c f) w later es
    by_event (Closing n) y = same_gathered (λ c. false || c == n) (λ c. n == c) w later es (λ c. turned c n) (collected_run (λ c. false) n v w log later es h y)
    by_event Opening y = kept y
    by_event (events.Piece n bytes) y = kept y
    by_event (events.HangUp n) y = kept y
    by_event (events.Moment m) y = kept y
    by_event (events.BranchResult n k i r) y = kept y
    by_event events.Drain y = kept y

-- ---- the openings that succeeded

rising_more : (opened : List ℕ) (n : ℕ) → IsRising opened → ((place : ℕ) → succeeds opened place ≡ true → place < n) → IsRising (opened ++ n ∷ [])
rising_more [] n rising below = tt
rising_more (p ∷ []) n rising below = (below p (ap (λ b. b || false) (eq-eqb p p refl)), tt)
rising_more (p ∷ q ∷ opened) n rising below = (rising.0, rising_more (q ∷ opened) n rising.1 (λ place its. below place (later (p == place) its)))
  where
    later : {b : Bool} (a : Bool) → b ≡ true → (a || b) ≡ true
    later true e = refl
    later false e = e

opens_later : (opened : List ℕ) (e : Event) (es : Before) (place : ℕ) → OpensAt opened es place → OpensAt opened (e ∷ es) place
opens_later opened e es place o = record {
  later = e ∷ o.later;
  before = o.before;
  event_is = ap (λ xs. e ∷ xs) o.event_is;
  place_is = o.place_is;
  few = o.few;
}

module _ (e : Event) (es : Before) (v w : GatewayValue) (opened : List ℕ) where
  -- none succeeded at this event
  steps_on : {seen : List Seen} → ((taken : ℕ → List ReplyEntry) (handed : List JobValue) → Served v (history_of opened es taken handed) → Served w (history_of opened (e ∷ es) taken handed))
      → ((taken : ℕ → List ReplyEntry) (handed : List JobValue) → Adds opened e (history_of opened es taken handed) v w)
      → KeepsBut (λ c. is_closing_of c e) (λ c. true) seen v w → Steps e es v w opened opened
  steps_on {seen} served adds keeps = grind (arith, nat_tests, opens_later)

  -- one did
  steps_open : {seen : List Seen} → OpeningsLaws → e ≡ Opening → open_connections opened es < most_open
      → ((taken : ℕ → List ReplyEntry) (handed : List JobValue) → Served v (history_of opened es taken handed) → Served w (history_of (opened ++ length es ∷ []) (e ∷ es) taken handed))
      → ((taken : ℕ → List ReplyEntry) (handed : List JobValue) → Adds (opened ++ length es ∷ []) e (history_of opened es taken handed) v w)
      → KeepsBut (λ c. is_closing_of c e) (λ c. true) seen v w → Steps e es v w opened (opened ++ length es ∷ [])
  steps_open {seen} openings e_is few served adds keeps = record {
    served = served;
    adds = adds;
    seen = seen;
    keeps = keeps;
    opened_are = λ o h. record {
      rising = rising_more opened (length es) o.rising h.below;
      openings = λ place its. by_place o h place (succeeds opened place) refl its;
    };
    same_count = λ h. openings.connections opened (length es) es h.below (omega arith);
    same_open = λ h. openings.is_open opened (length es) es h.below (omega arith);
    before = λ occurred h o. (openings.occurs v.plans opened (length es) es occurred h.below (omega arith)).0 o;
  }
    where
      -- as many were open
      few_before : (before : Before) → length before ≤ length es → HasConns v opened es → open_connections opened before < most_open → open_connections (opened ++ length es ∷ []) before < most_open
      few_before before le h lt = subst (λ n. n < most_open) (sym (openings.open_connections opened (length es) before h.below le)) lt

      shorter : (later before : Before) → es ≡ later ++ Opening ∷ before → length before ≤ length es
      shorter later before is =
          let whole : length es ≡ length later + length (Opening ∷ before) = ap (λ (xs : Before). length xs) is ∙ length-append later (Opening ∷ before) in omega (arith, whole)

      by_place : IsOpened opened es → HasConns v opened es → (place : ℕ) (b : Bool) → succeeds opened place ≡ b → succeeds (opened ++ length es ∷ []) place ≡ true
          → OpensAt (opened ++ length es ∷ []) (e ∷ es) place
      by_place o h place true x its = let was = o.openings place x in record {
        later = e ∷ was.later;
        before = was.before;
        event_is = ap (λ xs. e ∷ xs) was.event_is;
        place_is = was.place_is;
        few = few_before was.before (shorter was.later was.before was.event_is) h was.few;
      }
      by_place o h place false x its = record {
        later = [];
        before = es;
        event_is = ap (λ y. y ∷ es) e_is;
        place_is = eqb-true (length es) place (sym (succeeds_more opened (length es) place ∙ ap (λ b. b || (length es == place)) x) ∙ its);
        few = few_before es (omega arith) h few;
      }

-- ---- the event

module _ {H : Type 0} (openings : OpeningsLaws) (e : Event) (es : Before) (v u w x : GatewayValue) (log gathered next end : LogValue) (stepped : Stepped H) where
  pub event_run : {seen : List Seen} → HasRun (λ c. false) v log es → CollectsFor e v u log gathered
      → ((history : History) → Served u history → Served w (after_step stepped e history))
      → ((conn : ℕ) → stepped ≡ Opened conn → e ≡ Opening)
      → ((conn : ℕ) (history : History) → stepped ≡ Opened conn → Served u history → open_connections history.opened history.events < most_open)
      → AddsStep stepped e u w → KeepsBut (λ c. is_closing_of c e) (λ c. true) seen u w → next ≡ log_after stepped (length es) gathered → StartsAll (length es) w x next end
      → HasRun (λ c. false) x end (e ∷ es)
  event_run h collects served opens few adds keeps next_is starts = by_step stepped refl
    where
      mid : HasRun (λ c. is_closing_of c e) u gathered es
      mid = collected_for e v u log gathered es h collects

      starts_on : (l : LogValue) → next ≡ l → StartsAll (length es) w x l end
      starts_on l is = subst (λ y. StartsAll (length es) w x y end) is starts

      now : Served w (history_of (opened_by stepped (length es) gathered.opened) (e ∷ es) mid.taken (map job_started mid.started))
      now = served (history_of gathered.opened es mid.taken (map job_started mid.started)) mid.served

      none_new : (r : Stepped H) → stepped ≡ r → ((opened : List ℕ) → opened_by r (length es) opened ≡ opened) → log_after r (length es) gathered ≡ gathered
          → (e ≡ Opening → succeeds gathered.opened (length es) ≡ false) → HasRun (λ c. false) x end (e ∷ es)
      none_new r r_is same kept fails = run_on e es u w gathered gathered mid
          (steps_on e es u w gathered.opened (λ taken handed s. subst (λ o. Served w (history_of o (e ∷ es) taken handed)) (ap (λ y. opened_by y (length es) gathered.opened) r_is ∙ same gathered.opened)
          (served (history_of gathered.opened es taken handed) s))
          (λ taken handed. subst (λ o. Adds o e (history_of gathered.opened es taken handed) u w) (ap (λ y. opened_by y (length es) gathered.opened) r_is ∙ same gathered.opened) (adds (history_of gathered.opened es taken handed))) keeps)
          (λ c. refl) (λ c. refl) refl refl x end (starts_on gathered (next_is ∙ ap (λ y. log_after y (length es) gathered) r_is ∙ kept))
          (mid.opened_size ∙ size) (mid.queued_size ∙ size) (mid.broke_size ∙ size)
        where
          served_now : Served w (history_of gathered.opened (e ∷ es) mid.taken (map job_started mid.started))
          served_now = subst (λ o. Served w (history_of o (e ∷ es) mid.taken (map job_started mid.started))) (ap (λ y. opened_by y (length es) gathered.opened) r_is ∙ same gathered.opened) now

          no_more : (f : Event) → e ≡ f → connections gathered.opened (f ∷ es) ≡ connections gathered.opened es
          no_more Opening f_is = ap (λ b. if b then suc (connections gathered.opened es) else connections gathered.opened es) (fails f_is)
          no_more (events.Piece n bytes) f_is = refl
          no_more (events.HangUp n) f_is = refl
          no_more (events.Moment m) f_is = refl
          no_more (events.BranchResult n k i o) f_is = refl
          no_more events.Drain f_is = refl
          no_more (Closing n) f_is = refl

          size : u.opened ≡ w.opened
          size = sym mid.served.conns.count_is ∙ sym (no_more e refl) ∙ served_now.conns.count_is

      not_yet : succeeds gathered.opened (length es) ≡ false
      not_yet = by_it (succeeds gathered.opened (length es)) refl
        where
          by_it : (b : Bool) → succeeds gathered.opened (length es) ≡ b → succeeds gathered.opened (length es) ≡ false
          by_it true y = absurd (let lt = mid.served.conns.below (length es) y in omega (arith, lt))
          by_it false y = y

      by_step : (r : Stepped H) → stepped ≡ r → HasRun (λ c. false) x end (e ∷ es)
      by_step (Opened conn) r_is = run_on e es u w gathered (log_after {H = H} (Opened conn) (length es) gathered) mid
          (steps_open e es u w gathered.opened openings e_is (few conn (history_of gathered.opened es mid.taken (map job_started mid.started)) r_is mid.served)
          (λ taken handed s. subst (λ o. Served w (history_of o (e ∷ es) taken handed)) (ap (λ y. opened_by y (length es) gathered.opened) r_is) (served (history_of gathered.opened es taken handed) s))
          (λ taken handed. subst (λ o. Adds o e (history_of gathered.opened es taken handed) u w) (ap (λ y. opened_by y (length es) gathered.opened) r_is) (adds (history_of gathered.opened es taken handed))) keeps)
          (λ c. more_default gathered.queued c []) (λ c. more_default gathered.broke c false) refl refl x end (starts_on (log_after {H = H} (Opened conn) (length es) gathered) (next_is ∙ ap (λ y. log_after y (length es) gathered) r_is))
          (length-append gathered.opened (length es ∷ []) ∙ (let a = mid.opened_size in omega (arith, a, size)))
          (length-append gathered.queued ([] ∷ []) ∙ (let a = mid.queued_size in omega (arith, a, size)))
          (length-append gathered.broke (false ∷ []) ∙ (let a = mid.broke_size in omega (arith, a, size)))
        where
          e_is : e ≡ Opening
          e_is = opens conn r_is

          served_now : Served w (history_of (gathered.opened ++ length es ∷ []) (e ∷ es) mid.taken (map job_started mid.started))
          served_now = subst (λ o. Served w (history_of o (e ∷ es) mid.taken (map job_started mid.started))) (ap (λ y. opened_by y (length es) gathered.opened) r_is) now

          succeeded : succeeds (gathered.opened ++ length es ∷ []) (length es) ≡ true
          succeeded = succeeds_more gathered.opened (length es) (length es) ∙ ap (λ b. succeeds gathered.opened (length es) || b) (eq-eqb (length es) (length es) refl) ∙ or_true (succeeds gathered.opened (length es))
            where
              or_true : (b : Bool) → (b || true) ≡ true
              or_true true = refl
              or_true false = refl

          size : w.opened ≡ u.opened + 1
          size =
              let n : connections (gathered.opened ++ length es ∷ []) es ≡ u.opened = openings.connections gathered.opened (length es) es mid.served.conns.below (omega arith) ∙ mid.served.conns.count_is in
              sym served_now.conns.count_is ∙ ap (λ y. connections (gathered.opened ++ length es ∷ []) (y ∷ es)) e_is
              ∙ ap (λ b. if b then suc (connections (gathered.opened ++ length es ∷ []) es) else connections (gathered.opened ++ length es ∷ []) es) succeeded ∙ (omega (arith, n))
      by_step Done r_is = none_new Done r_is (λ opened. refl) refl (λ o. not_yet)
      by_step (NotOpened hooks error) r_is = none_new (NotOpened hooks error) r_is (λ opened. refl) refl (λ o. not_yet)
      by_step (Saw took) r_is = none_new (Saw took) r_is (λ opened. refl) refl (λ o. not_yet)
      by_step (Fault fault) r_is = none_new (Fault fault) r_is (λ opened. refl) refl (λ o. not_yet)
      by_step Broke r_is = none_new Broke r_is (λ opened. refl) refl (λ o. not_yet)
