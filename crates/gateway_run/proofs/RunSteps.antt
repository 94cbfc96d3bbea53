-- How a run goes on with one event more.
use Rattle.gateway_run.proofs.Names.{and_off, ◌≡◌, ℕ, ◌+◌, ◌<◌, Bool, true, false, List, [], ◌∷◌, ◌++◌, length, map, refl, sym, ap, ◌∙◌, subst, arith, append-nil, append_assoc, reverse, if◌then◌else◌, ◌&&◌, not, nat_lt, lt-ltb, ltb-true, ltb-false, append_cancel_left, map-append, ReplyEntry, Before, IsOpened, Occurs, connections, is_closing_of, is_open, onto, Event, Opening, Piece, HangUp, Moment, BranchResult, Drain, Closing, is_open_conn, with_jobs, GatewayValue, JobValue, Occurrence, without_breaks, mark_of, marked, Adds, HasConns, Lives, Served, Seen, KeepsBut, Placed, jobs, jobs_by, occurrences, starts, job_started, start, ClosedSo, HasLived, HasRun, LogValue, StartsAll, flag_at, queue_at, start_at, run_start, history_of, events_occur, is_shut_in, without_shut, nat_tests}
use Rattle.gateway_theory.specs.lemmas.CutLemmas.{jobs_of_starts}
use Rattle.gateway_theory.specs.Core.{at_place}
use Rattle.gateway_run.proofs.ClosedRuns.{AllStill, broken_then, closes_now, queue_then, was_closed}
use Rattle.gateway_run.proofs.Flags.{beyond, jobs_again, starts_at}
use Rattle.gateway_theory.specs.lemmas.Adding.{events_are, occurrences_at}
use Rattle.gateway_theory.specs.lemmas.ConnectionSteps.{closed_by}
use Rattle.gateway_theory.specs.lemmas.Laws.{broken_lived, queue_lived}

-- ---- what starts at the newest

abbrev new_jobs : List Occurrence → List Occurrence → List JobValue
new_jobs [] os = []
new_jobs (o ∷ newer) os = new_jobs newer os ++ jobs_by o (mark_of (marked (newer ++ os)) o) (marked (newer ++ os))

jobs_newer : (newer os : List Occurrence) → jobs (marked (newer ++ os)) ≡ jobs (marked os) ++ new_jobs newer os
jobs_newer [] os = sym (append-nil (jobs (marked os)))
jobs_newer (o ∷ newer) os = grind (arith, nat_tests, jobs_newer newer os, append_assoc)

starts_newer : (n : ℕ) (newer : List Occurrence) (lived : List Placed) → starts (at_place n newer ++ lived) ≡ starts lived ++ map (start n) (new_jobs newer (occurrences lived))
starts_newer n [] lived = sym (append-nil (starts lived))
starts_newer n (o ∷ newer) lived =
    ap (λ us. starts (at_place n newer ++ lived) ++ map (start n) (jobs_by o (mark_of (marked us) o) (marked us))) (occurrences_at n newer lived)
    ∙ ap (λ xs. xs ++ map (start n) (jobs_by o (mark_of (marked (newer ++ occurrences lived)) o) (marked (newer ++ occurrences lived)))) (starts_newer n newer lived)
    ∙ append_assoc (starts lived) (map (start n) (new_jobs newer (occurrences lived))) (map (start n) (jobs_by o (mark_of (marked (newer ++ occurrences lived)) o) (marked (newer ++ occurrences lived))))
    ∙ ap (λ xs. starts lived ++ xs) (sym (map-append (start n) (new_jobs newer (occurrences lived)) (jobs_by o (mark_of (marked (newer ++ occurrences lived)) o) (marked (newer ++ occurrences lived)))))

-- ---- one event

-- what the step of an event comes to
pub record Steps (e : Event) (es : Before) (v w : GatewayValue) (opened later : List ℕ) : Type 0 where
  pub served : (taken : ℕ → List ReplyEntry) (handed : List JobValue) → Served v (history_of opened es taken handed) → Served w (history_of later (e ∷ es) taken handed)
  pub adds : (taken : ℕ → List ReplyEntry) (handed : List JobValue) → Adds later e (history_of opened es taken handed) v w
  pub seen : List Seen
  pub keeps : KeepsBut (λ c. is_closing_of c e) (λ c. true) seen v w
  pub opened_are : IsOpened opened es → HasConns v opened es → IsOpened later (e ∷ es)
  pub same_count : HasConns v opened es → connections later es ≡ connections opened es
  pub same_open : HasConns v opened es → (c : ℕ) → is_open later c es ≡ is_open opened c es
  pub before : (occurred : List Placed) → HasConns v opened es → Occurs v.plans later es occurred → Occurs v.plans opened es occurred

module _ (e : Event) (es : Before) (v w : GatewayValue) (log next : LogValue) (h : HasRun (λ c. is_closing_of c e) v log es) (s : Steps e es v w log.opened next.opened)
    (queued_are : (c : ℕ) → queue_at c next ≡ queue_at c log) (flags_are : (c : ℕ) → flag_at c next ≡ flag_at c log) (starts_same : next.starts ≡ log.starts) (jobs_same : next.jobs ≡ log.jobs) where
  served : Served w (history_of next.opened (e ∷ es) h.taken (map job_started h.started))
  served = s.served h.taken (map job_started h.started) h.served

  abbrev new : List JobValue
  new = w.jobs

  open_before : (c : ℕ) → is_open next.opened c es ≡ is_open_conn c v
  open_before c = s.same_open h.served.conns c ∙ (h.served.conns.each c).open_is

  count_before : connections next.opened es ≡ v.opened
  count_before = s.same_count h.served.conns ∙ h.served.conns.count_is

  open_now : (c : ℕ) → is_open next.opened c (e ∷ es) ≡ is_open_conn c w
  open_now c = (served.conns.each c).open_is

  -- a connection that is open behind the event and was known before was open, and does not close by it
  -- the connection was opened before the event, where it is not open behind it
  known_before : (c : ℕ) → c < w.opened → is_open_conn c w ≡ false → c < connections next.opened es
  known_before c lt off = grind (arith, nat_tests, ltb-true, lt-ltb, served, open_now)

  -- ---- what was lived, with this event

  module _ (occurred : List Placed) (o : Occurs w.plans next.opened (e ∷ es) occurred) where
    abbrev now : Occurs v.plans next.opened (e ∷ es) occurred
    now = subst (λ plans. Occurs plans next.opened (e ∷ es) occurred) s.keeps.plans_are o

    abbrev was : HasLived v log es h.taken h.started now.0
    was = h.has_lived now.0 (s.before now.0 h.served.conns now.1)

    abbrev added : (newer : List Occurrence) × (without_breaks newer ≡ reverse now.2.0) × Lives w (history_of next.opened (e ∷ es) h.taken (map job_started h.started)) (at_place (length es) newer ++ was.lived)
    added = (s.adds h.taken (map job_started h.started)).lives was.lived was.lives now.2.0 now.2.1

    abbrev lived_now : List Placed
    lived_now = at_place (length es) added.0 ++ was.lived

    new_is : new ≡ new_jobs added.0 (occurrences was.lived)
    new_is = append_cancel_left (jobs (marked (occurrences was.lived))) new (new_jobs added.0 (occurrences was.lived))
        (ap (λ js. js ++ new) (sym handed_are) ∙ added.2.stands.jobs_are
        ∙ ap (λ us. jobs (marked us)) (occurrences_at (length es) added.0 was.lived) ∙ jobs_newer added.0 (occurrences was.lived))
      where
        handed_are : map job_started h.started ≡ jobs (marked (occurrences was.lived))
        handed_are = ap (map job_started) was.starts_lived ∙ jobs_of_starts was.lived

    starts_now : h.started ++ map (start (length es)) new ≡ starts lived_now
    starts_now = grind (arith, nat_tests, new_is, starts_newer)

    closed_so : (c : ℕ) → c < w.opened → is_open_conn c w ≡ false → ClosedSo c log h.taken lived_now
    closed_so c lt off = by_open (is_open_conn c v) refl
      where
        known : c < connections next.opened es
        known = known_before c lt off

        ClosedNow : AllStill c added.0 (occurrences was.lived) → ClosedSo c log h.taken was.lived → ClosedSo c log h.taken lived_now
        ClosedNow still so = record {
          broken_is = so.broken_is ∙ sym (broken_then v.plans next.opened c e es added.0 now.2.0 was.lived now.2.1 added.1 added.2.breaks still);
          queue_is = so.queue_is ∙ sym (queue_then v.plans next.opened c e es added.0 now.2.0 was.lived now.2.1 added.1 added.2.breaks still);
        }

        by_open : (b : Bool) → is_open_conn c v ≡ b → ClosedSo c log h.taken lived_now
        by_open false z = ClosedNow
            (was_closed v.plans next.opened c e es added.0 now.2.0 was.lived now.2.1 added.1 added.2.breaks (open_before c ∙ z)
            (without_shut c (occurrences was.lived) (ap (λ us. is_shut_in c us) (sym (events_occur was.lived) ∙ ap occurrences was.same)
            ∙ closed_by v.plans next.opened c es now.0 now.1 known (open_before c ∙ z))))
            (was.shut c (let n = count_before in omega (arith, known, n)) z)
        by_open true z = by_event e refl
          where
            closes : is_closing_of c e ≡ true
            closes = closing (is_closing_of c e) (sym (ap (λ b. if b then is_open next.opened c es && not (is_closing_of c e) else nat_lt c (connections next.opened (e ∷ es))) (lt-ltb c (connections next.opened es) known)
                ∙ ap (λ b. b && not (is_closing_of c e)) (open_before c ∙ z)) ∙ open_now c ∙ off)
              where
                closing : (b : Bool) → not b ≡ false → b ≡ true
                closing true x = refl
                closing false x = absurd (cc)

            so : ClosedSo c log h.taken was.lived
            so = record {
              broken_is = h.flagged c closes z ∙ broken_lived v (history_of log.opened es h.taken (map job_started h.started)) was.lived was.lives c z;
              queue_is = sym (append-nil (h.taken c)) ∙ ap (λ xs. h.taken c ++ xs) (sym (h.none_left c closes)) ∙ queue_lived v (history_of log.opened es h.taken (map job_started h.started)) was.lived was.lives c z;
            }

            by_event : (f : Event) → e ≡ f → ClosedSo c log h.taken lived_now
            by_event (Closing d) f_is = ClosedNow (closes_now v.plans next.opened c e es added.0 now.2.0 was.lived now.2.1 added.1 added.2.breaks d f_is) so
            by_event Opening f_is = absurd (let clash : false ≡ true = ap (is_closing_of c) (sym f_is) ∙ closes in cc)
            by_event (Piece d bytes) f_is = absurd (let clash : false ≡ true = ap (is_closing_of c) (sym f_is) ∙ closes in cc)
            by_event (HangUp d) f_is = absurd (let clash : false ≡ true = ap (is_closing_of c) (sym f_is) ∙ closes in cc)
            by_event (Moment m) f_is = absurd (let clash : false ≡ true = ap (is_closing_of c) (sym f_is) ∙ closes in cc)
            by_event (BranchResult d k i r) f_is = absurd (let clash : false ≡ true = ap (is_closing_of c) (sym f_is) ∙ closes in cc)
            by_event Drain f_is = absurd (let clash : false ≡ true = ap (is_closing_of c) (sym f_is) ∙ closes in cc)

  -- ---- the whole

  pub run_on : (x : GatewayValue) (end : LogValue) → StartsAll (length es) w x next end → length next.opened ≡ w.opened → length next.queued ≡ w.opened → length next.broke ≡ w.opened
      → HasRun (λ c. false) x end (e ∷ es)
  run_on x end t opened_size queued_size broke_size = subst (λ y. HasRun (λ c. false) y end (e ∷ es)) (sym t.rest) (subst (λ l. HasRun (λ c. false) last l (e ∷ es)) (sym t.log_is) (record {
    taken = h.taken;
    started = h.started ++ map (start (length es)) new;
    served = subst (λ js. Served last (history_of next.opened (e ∷ es) h.taken js)) (sym handed_are)
        (subst (λ y. Served y (history_of next.opened (e ∷ es) h.taken (map job_started h.started ++ new))) t.rest (t.served (history_of next.opened (e ∷ es) h.taken (map job_started h.started)) served));
    no_jobs = refl;
    opened_are = s.opened_are h.opened_are h.served.conns;
    opened_size = opened_size;
    queued_size = queued_size;
    broke_size = broke_size;
    starts_are = ap (λ xs. xs ++ map (start_at (length es)) new) (starts_same ∙ h.starts_are) ∙ ap (λ xs. map run_start h.started ++ xs) (starts_at (length es) new)
        ∙ sym (map-append run_start h.started (map (start (length es)) new));
    jobs_are = ap (λ js. js ++ new) (jobs_same ∙ h.jobs_are) ∙ sym handed_are;
    queued_are = λ c. queued_are c ∙ h.queued_are c;
    unflagged = λ c gathered there. flags_are c ∙ open_unflagged c there;
    flagged = λ c gathered there. absurd (cc);
    none_left = λ c gathered. absurd (cc);
    has_lived = λ occurred o. record {
      lived = lived_now occurred o;
      same = events_are (length es) (added occurred o).0 (now occurred o).2.0 (was occurred o).lived (added occurred o).1
          ∙ ap (λ past. onto (length es) (now occurred o).2.0 past) (was occurred o).same ∙ sym (now occurred o).2.2;
      lives = subst (λ js. Lives last (history_of next.opened (e ∷ es) h.taken js) (lived_now occurred o)) (sym handed_are)
          (subst (λ y. Lives y (history_of next.opened (e ∷ es) h.taken (map job_started h.started ++ new)) (lived_now occurred o)) t.rest
          (t.lives (history_of next.opened (e ∷ es) h.taken (map job_started h.started)) (lived_now occurred o) (added occurred o).2));
      starts_lived = starts_now occurred o;
      shut = λ c lt off. let so = closed_so occurred o c lt off in record { broken_is = flags_are c ∙ so.broken_is; queue_is = so.queue_is };
    };
  }))
    where
      last : GatewayValue
      last = with_jobs [] w

      handed_are : map job_started (h.started ++ map (start (length es)) new) ≡ map job_started h.started ++ new
      handed_are = map-append job_started h.started (map (start (length es)) new) ∙ ap (λ js. map job_started h.started ++ js) (jobs_again (length es) new)

      open_unflagged : (c : ℕ) → is_open_conn c w ≡ true → flag_at c log ≡ false
      open_unflagged c there = by_known (nat_lt c (connections next.opened es)) refl
        where
          by_known : (b : Bool) → nat_lt c (connections next.opened es) ≡ b → flag_at c log ≡ false
          by_known true y =
              let on : (is_open next.opened c es && not (is_closing_of c e)) ≡ true =
              sym (ap (λ b. if b then is_open next.opened c es && not (is_closing_of c e) else nat_lt c (connections next.opened (e ∷ es))) y) ∙ open_now c ∙ there in
              let both = and_off (is_open next.opened c es) (is_closing_of c e) on in
              by_open (is_open_conn c v) refl both.0 both.1
            where
              by_open : (b : Bool) → is_open_conn c v ≡ b → is_open next.opened c es ≡ true → is_closing_of c e ≡ false → flag_at c log ≡ false
              by_open true z opens stays = h.unflagged c stays z
              by_open false z opens stays = absurd (let clash : true ≡ false = sym opens ∙ open_before c ∙ z in cc)
          by_known false y = beyond log.broke c false (let a = h.broke_size in let b = ltb-false c (connections next.opened es) y in let n = count_before in omega (arith, a, b, n))
