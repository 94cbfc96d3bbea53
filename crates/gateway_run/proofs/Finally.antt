-- What a run comes to once all its events were taken and all that is queued was gathered.
use Rattle.gateway_run.proofs.Names.{◌≡◌, ℕ, zero, suc, ◌+◌, ◌<◌, ◌≤◌, Bool, true, false, List, [], ◌∷◌, ◌++◌, append-nil, length, map, Result, Ok, Err, refl, sym, ap, ◌∙◌, subst, arith, ⊎_elim, OnOk, ◌||◌, ◌==◌, filter, nat_lt, slice_index_or, range_with_len, cases_lt, ltb-true, ltb-false, PlanRecord, Before, IsRising, Occurs, Event, is_open_conn, GatewayValue, is_broken, marked, queued, queued_entries, Lives, Served, Placed, occurrences, starts, Collects, absent, gathers, HasLived, HasRun, LogValue, flag_at, log_value, queue_at, IsLived, bytes_of, is_listed, is_start_of, run_start, starts_of, History, history_of, no_history, job_started, CollectsFor, events_occur, nat_tests}
use Rattle.gateway_theory.specs.lemmas.OwnLemmas.{unbroken_queue}
use Rattle.gateway_run.specs.Running.{IsRun}
use Rattle.gateway_run.proofs.Flags.{beyond, run_starts_on, same_starts}
use Rattle.gateway_run.proofs.WholeLemmas.{filter_rising, listed_at, listed_below}
use Rattle.gateway_theory.specs.lemmas.Laws.{broken_lived, queue_lived, unopened_unbroken}

pub on_then : {X E : Type 0} {A B : Type 0} (r : Result X E) → OnOk r A → (A → B) → OnOk r B
on_then (Ok x) a f = f a
on_then (Err e) a f = tt

-- ---- what collecting leaves alone

pub collects_plans : (n : ℕ) (v w : GatewayValue) (log later : LogValue) → Collects n v w log later → w.plans ≡ v.plans
collects_plans n v w log later (absent out w_is later_is) = ap (λ (x : GatewayValue). x.plans) w_is
collects_plans n v w log later (gathers lt t later_is) = t.only.plans_are

pub collects_opened : (n : ℕ) (v w : GatewayValue) (log later : LogValue) → Collects n v w log later → later.opened ≡ log.opened
collects_opened n v w log later (absent out w_is later_is) = ap (λ (x : LogValue). x.opened) later_is
collects_opened n v w log later (gathers lt t later_is) = ap (λ (x : LogValue). x.opened) later_is

pub collects_for_plans : (e : Event) (v w : GatewayValue) (log later : LogValue) → CollectsFor e v w log later → w.plans ≡ v.plans
collects_for_plans e v w log later h5 = grind (arith, nat_tests)

pub below_next : (c n : ℕ) → (nat_lt c n || c == n) ≡ nat_lt c (n + 1)
below_next c n = grind arith

pub at_default : {A : Type 0} (xs : List A) (n : ℕ) (x d : A) → n < length xs → x ≡ slice_index_or xs n x → slice_index_or xs n d ≡ x
at_default [] n x d lt e = absurd (omega (arith, lt))
at_default (y ∷ xs) zero x d lt e = sym e
at_default (y ∷ xs) (suc n) x d lt e = at_default xs n x d (omega (arith, lt)) e

-- ---- a run of no events

pub run_first : (v : GatewayValue) (log : LogValue) → Served v no_history → Lives v no_history [] → log ≡ log_value [] [] [] [] [] → HasRun (λ c. false) v log []
run_first v log served lives log_is = subst (λ l. HasRun (λ c. false) v l []) (sym log_is) (record {
  taken = λ c. [];
  started = [];
  served = served;
  no_jobs = lives.stands.jobs_are;
  opened_are = record { rising = tt; openings = λ place its. absurd (cc) };
  opened_size = served.conns.count_is;
  queued_size = served.conns.count_is;
  broke_size = served.conns.count_is;
  starts_are = refl;
  jobs_are = refl;
  queued_are = λ c. beyond [] c [] (omega arith);
  unflagged = λ c off there. beyond [] c false (omega arith);
  flagged = λ c on there. absurd (cc);
  none_left = λ c on. absurd (cc);
  has_lived = λ occurred none. record {
    lived = [];
    same = sym none;
    lives = lives;
    starts_lived = refl;
    shut = λ c lt off. absurd (let n = served.conns.count_is in omega (arith, n, lt));
  };
})

-- ---- a run whose events were all taken

module _ (count : ℕ) (v : GatewayValue) (log : LogValue) (es : Before) (broken : List ℕ) (h : HasRun (λ c. nat_lt c count) v log es) (count_is : length log.opened ≡ count)
    (broken_is : broken ≡ filter (λ c. slice_index_or log.broke c false) (range_with_len 0 (length log.broke))) where
  sizes : length log.broke ≡ count
  sizes = h.broke_size ∙ sym h.opened_size ∙ count_is

  flag_is : (c : ℕ) → is_listed c broken ≡ flag_at c log
  flag_is c = grind (arith, nat_tests, listed_at, ltb-true, ltb-false, beyond, listed_below)

  open_below : (c : ℕ) → is_open_conn c v ≡ true → nat_lt c count ≡ true
  open_below c there = grind arith

  module _ (occurred : List Placed) (o : Occurs v.plans log.opened es occurred) where
    abbrev was : HasLived v log es h.taken h.started occurred
    was = h.has_lived occurred o

    abbrev now : History
    now = history_of log.opened es h.taken (map job_started h.started)

    flag_lived : (c : ℕ) → flag_at c log ≡ is_broken c (marked (occurrences was.lived))
    flag_lived c = by_open (is_open_conn c v) refl
      where
        -- one that was not opened did not break
        unknown : v.opened ≤ c → flag_at c log ≡ is_broken c (marked (occurrences was.lived))
        unknown le = beyond log.broke c false (let n = h.broke_size in omega (arith, n, le)) ∙ sym (unopened_unbroken v now was.lived was.lives c le)

        by_open : (b : Bool) → is_open_conn c v ≡ b → flag_at c log ≡ is_broken c (marked (occurrences was.lived))
        by_open true e = h.flagged c (open_below c e) e ∙ broken_lived v now was.lived was.lives c e
        by_open false e = ⊎_elim (λ (lt : c < v.opened). (was.shut c lt e).broken_is) (λ (le : v.opened ≤ c). unknown le) (cases_lt c v.opened)

    queue_all : (c : ℕ) → c < length log.opened → queue_at c log ≡ queued c (marked (occurrences was.lived))
    queue_all c lt = h.queued_are c ∙ ap bytes_of (by_open (is_open_conn c v) refl)
      where
        by_open : (b : Bool) → is_open_conn c v ≡ b → h.taken c ≡ queued_entries c (marked (occurrences was.lived))
        by_open true e = sym (append-nil (h.taken c)) ∙ ap (λ xs. h.taken c ++ xs) (sym (h.none_left c (open_below c e))) ∙ queue_lived v now was.lived was.lives c e
        by_open false e = (was.shut c (let m = h.opened_size in omega (arith, lt, m)) e).queue_is

    starts_all : log.starts ≡ starts_of was.lived
    starts_all = h.starts_are ∙ ap (map run_start) was.starts_lived

    run_lived : (lived : List Placed) × IsLived log.opened log.queued log.starts log.jobs broken es occurred lived
    run_lived = grind (arith, nat_tests, flag_is, flag_lived, queue_all, starts_all)

    -- of one that did not break
    module _ (c : ℕ) (off : is_listed c broken ≡ false) where
      whole : is_broken c (marked (occurrences was.lived)) ≡ false
      whole = sym (flag_is c ∙ flag_lived c) ∙ off

      run_queued : c < length log.opened → queue_at c log ≡ queued c (marked (occurrences occurred))
      run_queued lt = queue_all c lt ∙ ap bytes_of (unbroken_queue c (occurrences was.lived) whole
          ∙ ap (λ us. queued_entries c (marked us)) (sym (events_occur was.lived) ∙ ap occurrences was.same))

      run_starts : filter (is_start_of c) log.starts ≡ filter (is_start_of c) (starts_of occurred)
      run_starts = grind (arith, nat_tests, starts_all, run_starts_on, same_starts, whole)

  run_below : (c : ℕ) → is_listed c broken ≡ true → c < length log.opened
  run_below c e = let lt = listed_below (λ n. slice_index_or log.broke n false) 0 (length log.broke) c (sym (ap (is_listed c) broken_is) ∙ e) in omega (arith, lt, sizes, count_is)

  run_rising : IsRising broken
  run_rising = subst IsRising (sym broken_is) (filter_rising (λ c. slice_index_or log.broke c false) 0 (length log.broke))

  run_sizes : length log.queued ≡ length log.opened
  run_sizes = h.queued_size ∙ sym h.opened_size

  -- all of it
  pub run_is : (plans : List PlanRecord) → v.plans ≡ plans → IsRun plans es log.opened log.queued log.starts log.jobs broken
  run_is plans plans_are = grind (arith, nat_tests, run_queued, run_starts, run_lived, run_sizes, run_below, run_rising)
