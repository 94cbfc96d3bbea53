-- What each occurrence makes of a connection, and of all of them, stands for what occurred.
use Rattle.std.specs.Prelude.{◌≡◌, ◌+◌, ◌<◌, ◌∷◌, ◌++◌, ◌==◌, if◌then◌else◌, ◌&&◌, ◌||◌}
use Rattle.gateway_theory.specs.lemmas.Names.{ℕ, true, false, List, [], length, Option, None, refl, sym, ◌∙◌, subst, arith, ⊎_elim, Bool, ap, inl, zero, suc, max, map, Some, append_assoc, nat_tests, not, nat_lt, cond_both, cases_Bool, eq-eqb, eqb-true, ltb-true, lt-ltb, ne_eqb, length-append, get_or_append_left, get_or-eq_default, CallId, Occurrence, Opening, Comes, HangUp, Moment, Result, Drain, Closing, Coming, Break, Past, call_id, is_call, arrivals, coming_on, coming_now, mark_of, is_broken, call, is_shut, marked, Mark, breaks, is_drain, moment_of, shuts, ReplyEntry, entry, slot_at, SlotsStand, option_or, Outcome, PlanRecord, Before, Occurs, connections, is_open, Placed, occurrences, jobs_by, jobs_started, jobs, is_visible, own, ConnectionStands, Now, NowStands, arriving, MayCome, entered, filled, is_shut_value, next, now_after, started_by, stepped, went, AllStand, all_after, all_started, ConnectionValue, CallStands, kept, JobValue, length-map, nat_le, now, crowds, undecided_calls, is_drained, most_calls, arrive, is_full}
use Rattle.std.proofs.Math.Seq.{get_or-append_seam}
use Rattle.gateway_model.specs.declared.event.Event.TheVariants.{Opening, HangUp, Moment, Drain, Closing}
use Rattle.gateway_theory.specs.lemmas.Cases.{and_false, or_true, or_none}
use Rattle.gateway_theory.specs.lemmas.CutLemmas.{back, occurrences_onto}
use Rattle.gateway_theory.specs.lemmas.StandsLemmas.{Quiet, started_same}
use Rattle.gateway_theory.specs.lemmas.OwnLemmas.{own_alike, own_jobs}
use Rattle.gateway_theory.specs.Connection.{closes, step}
use Rattle.gateway_theory.specs.lemmas.Frame.{none_start, unbroken}
use Rattle.gateway_theory.specs.lemmas.BeginsLemmas.{arrives}
use Rattle.gateway_theory.specs.lemmas.GoingOn.{arrivals_same, call_goes, crowd_is, each_slot, is_coming, no_entering, no_entry_yet, other_goes, slots_after}
use Rattle.gateway_theory.specs.lemmas.SlotLemmas.{undecided_count}
use Rattle.gateway_theory.specs.lemmas.PrefixLemmas.{after_break, broken_shut}
use Rattle.gateway_theory.specs.lemmas.ShutConns.{quiet_shut}
use Rattle.gateway_model.specs.Past as past
use Rattle.gateway_theory.specs.LiveStands as one_call
use Rattle.gateway_theory.specs.Step as call_step

-- ---- nothing comes on a stream

-- for any other call nothing comes
pub other_call : (c : ℕ) (x : Coming) (id : CallId) (n : ℕ) (past : Past) → arrivals c past ≡ n → is_call (call_id c n) id ≡ false
    → coming_now id (mark_of past (Comes c x)) past ≡ None
other_call c x id n past n_is other = grind arith

pub more_slots : (c : ℕ) (x : Coming) (old : List (Option ReplyEntry)) (reply : Option ReplyEntry) (past : Past) → SlotsStand c old past → is_broken c past ≡ false
    → ((k : ℕ) → (k ≡ length old → ⊥) → entry (call_id c k) past ≡ entry (call_id c k) (mark_of past (Comes c x) ∷ past))
    → reply ≡ entry (call_id c (length old)) (mark_of past (Comes c x) ∷ past)
    → SlotsStand c (old ++ reply ∷ []) (mark_of past (Comes c x) ∷ past)
more_slots c x old reply past h on others here = search (arith, nat_tests, length-append, eq-eqb, get_or_append_left, get_or-append_seam, get_or-eq_default)

still_closed : (c : ℕ) (new os : List Occurrence) → is_shut c (marked os) ≡ true → is_shut c (marked (back new os)) ≡ true
still_closed c [] os e = e
still_closed c (o ∷ new) os e = still_closed c new (o ∷ os) (ap (λ b. past.shuts c o || b) e ∙ or_true (past.shuts c o))

-- a connection that was opened and is not open has closed
pub closed_by : (plans : List PlanRecord) (opened : List ℕ) (c : ℕ) (es : Before) (occurred : List Placed) → Occurs plans opened es occurred → c < connections opened es
    → is_open opened c es ≡ false → is_shut c (marked (occurrences occurred)) ≡ true
closed_by plans opened c [] occurred o lt shut = absurd (omega (arith, lt))
closed_by plans opened c (e ∷ es) occurred (before, was, (os, at, is)) lt shut =
    by_known (nat_lt c (connections opened es)) refl (λ known gone. closed_by plans opened c es before was known gone)
  where
    after : is_shut c (marked (back os (occurrences before))) ≡ true → is_shut c (marked (occurrences occurred)) ≡ true
    after x = ap (λ us. is_shut c (marked (occurrences us))) is ∙ ap (λ us. is_shut c (marked us)) (occurrences_onto (length es) os before) ∙ x

    by_known : (b : Bool) → nat_lt c (connections opened es) ≡ b → (c < connections opened es → is_open opened c es ≡ false → is_shut c (marked (occurrences before)) ≡ true)
        → is_shut c (marked (occurrences occurred)) ≡ true
    by_known b is each = grind (arith, nat_tests, lt-ltb, after, still_closed, ltb-true, eqb-true, back)

-- what is not changes nothing
pub unseen : (c : ℕ) (v : ConnectionValue) (taken : List ReplyEntry) (o : Occurrence) (os : List Occurrence) → is_visible c o ≡ false
    → ConnectionStands v taken (own c os) → ConnectionStands v taken (own c (o ∷ os))
unseen c v taken o os off h = rw off h

-- what is comes to its own past
pub seen : (c : ℕ) (w : ConnectionValue) (taken : List ReplyEntry) (o : Occurrence) (os : List Occurrence) → is_visible c o ≡ true
    → ConnectionStands w taken (o ∷ own c os) → ConnectionStands w taken (own c (o ∷ os))
seen c w taken o os on h = rw on h

-- it is the same now by all that has occurred, and by what is its own
pub now_own : (c : ℕ) (n : Now) (os : List Occurrence) → NowStands n os → NowStands n (own c os)
now_own c n os h = let a = own_alike c os in record { moment_is = h.moment_is ∙ a.now_is; drained_is = h.drained_is ∙ a.drained_is }

-- ---- the moment, and the drain

pub now_goes : (o : Occurrence) (n : Now) (os : List Occurrence) → NowStands n os → NowStands (now_after o n) (o ∷ os)
now_goes o n os h = record { moment_is = ap (λ m. max m (moment_of o)) h.moment_is; drained_is = ap (λ b. is_drain o || b) h.drained_is }

-- ---- slots

pub filled_size : (reply : ℕ → Option ReplyEntry) (k : ℕ) (slots : List (Option ReplyEntry)) → length (filled reply k slots) ≡ length slots
filled_size reply k [] = refl
filled_size reply k (s ∷ slots) = ap suc (filled_size reply (suc k) slots)

pub filled_at : (reply : ℕ → Option ReplyEntry) (k j : ℕ) (slots : List (Option ReplyEntry)) → j < length slots → slot_at j (filled reply k slots) ≡ option_or (slot_at j slots) (reply (k + j))
filled_at reply k j [] lt = absurd (omega (arith, lt))
filled_at reply k zero (s ∷ slots) lt = ap (λ n. option_or s (reply n)) (omega arith)
filled_at reply k (suc j) (s ∷ slots) lt = filled_at reply (suc k) j slots (omega (arith, lt)) ∙ ap (λ n. option_or (slot_at j slots) (reply n)) (omega arith)

-- ---- closed, or broken

not_closed : (a b : Bool) → (a || b) ≡ false → a ≡ false
not_closed true b e = absurd (let f : ⊥ = cc in f)
not_closed false b e = refl

was_open : (a b : Bool) → (a || b) ≡ false → b ≡ false
was_open true b e = absurd (let f : ⊥ = cc in f)
was_open false b e = e

shut_by : (o : Occurrence) (c : ℕ) (closed broken : Bool) → ((closes c o || closed) || (not (closes c o) && ((breaks c o && not closed) || broken))) ≡ (shuts c o || (closed || broken))
shut_by o c closed broken = grind (arith, nat_tests)

-- broken, unless it is closed
broken_by : (closes_now closed breaks_now before broken : Bool) → broken ≡ (not closed && before)
    → (not closes_now && ((breaks_now && not closed) || broken)) ≡ (not (closes_now || closed) && (breaks_now || before))
broken_by closes_now closed breaks_now before broken is = grind (arith, nat_tests)

was_whole : (closed before broken : Bool) → broken ≡ true → broken ≡ (not closed && before) → before ≡ true
was_whole false before broken on is = sym is ∙ on
was_whole true before broken on is = absurd (let clash : true ≡ false = sym on ∙ is in cc)

module _ (n : Now) (v : ConnectionValue) (taken : List ReplyEntry) (os : List Occurrence) (is_now : NowStands n os) (h : ConnectionStands v taken os) where
  -- ---- an occurrence at which nothing comes

  module _ (o : Occurrence) (plain : is_coming o ≡ false) where
    goes : (k : ℕ) → one_call.Stepped (call_id v.number k) (call_step.step n.moment (call_id v.number k) o (v.calls k)) (mark_of (marked os) o) (marked os)
    goes k = call_goes (call_id v.number k) o (v.calls k) n.moment os (no_entering (call_id v.number k) o (marked os) plain) is_now.moment_is (h.calls k)

    abbrev reply : ℕ → Option ReplyEntry
    reply k = (call_step.step n.moment (call_id v.number k) o (v.calls k)).reply

    -- its slots, until it is closed
    slots_go : (b : Bool) → (b || v.closed) ≡ false → SlotsStand v.number (map Some taken ++ (if b then [] else filled reply v.taken v.slots)) (marked (o ∷ os))
    slots_go true e = absurd (let f : ⊥ = cc in f)
    slots_go false e = slots_after v.number (map Some taken ++ v.slots) (map Some taken ++ filled reply v.taken v.slots) (mark_of (marked os) o) (marked os) reply (h.slots_stand e) (arrivals_same v.number o (marked os) plain)
        (length-append (map Some taken) (filled reply v.taken v.slots) ∙ ap (λ k. length (map Some taken) + k) (filled_size reply v.taken v.slots) ∙ sym (length-append (map Some taken) v.slots))
        (each_slot taken v.slots (filled reply v.taken v.slots) reply (filled_size reply v.taken v.slots)
        (λ j lt. filled_at reply v.taken j v.slots lt ∙ ap (λ k. option_or (slot_at j v.slots) (reply (k + j))) (h.taken_is e)))
        (λ j. (goes j).replies)

    shut_then : is_shut_value (went n o v) ≡ (shuts v.number o || is_shut_value v)
    shut_then = shut_by o v.number v.closed v.broken

    pub goes_on : ConnectionStands (went n o v) taken (o ∷ os)
    goes_on = record {
      taken_is = λ e. h.taken_is (was_open (closes v.number o) v.closed e);
      slots_stand = λ e. slots_go (closes v.number o) e;
      calls = λ k. (goes k).stands;
      broken_is = broken_by (closes v.number o) v.closed (breaks v.number o) (is_broken v.number (marked os)) v.broken h.broken_is;
      shut_is = shut_then ∙ ap (λ b. shuts v.number o || b) h.shut_is;
    }

  -- the jobs that a result starts
  pub result_starts : (k i : ℕ) (outcome : Outcome)
      → started_by n (Result (call_id v.number k) i outcome) v ≡ jobs_by (Result (call_id v.number k) i outcome) (mark_of (marked os) (Result (call_id v.number k) i outcome)) (marked os)
  result_starts k i outcome = (goes (Result (call_id v.number k) i outcome) refl k).starts

  -- ---- something comes on it

  module _ (x : Coming) where
    abbrev its_past : Past
    its_past = marked os

    abbrev mark : Mark
    mark = mark_of (marked os) (Comes v.number x)

    -- it is broken, and nothing comes
    module _ (broken : v.broken ≡ true) where
      is_it : is_broken v.number its_past ≡ true
      is_it = was_whole v.closed (is_broken v.number its_past) v.broken broken h.broken_is

      quiet : (k : ℕ) → Quiet (call_id v.number k) mark its_past
      quiet k = quiet_shut v.number k (Comes v.number x) os ((after_break v.number mark its_past is_it).none_comes, inl (broken_shut v.number its_past is_it))

      none_now : (k : ℕ) → coming_now (call_id v.number k) mark its_past ≡ None
      none_now k = cond_both (arrivals v.number its_past == k) (coming_on v.number (Comes v.number x) (is_broken v.number its_past)) None (λ o. o ≡ None)
          (λ _. (after_break v.number mark its_past is_it).none_comes) (λ _. refl)

      pub stays_broken : ConnectionStands v taken (Comes v.number x ∷ os)
      stays_broken = record {
        taken_is = h.taken_is;
        slots_stand = λ e. grind arith;
        calls = λ k. (other_goes v.number x (call_id v.number k) (v.calls k) n.moment os (none_now k) is_now.moment_is (h.calls k)).stands;
        broken_is = h.broken_is;
        shut_is = h.shut_is;
      }

      pub none_starts : [] ≡ jobs_by (Comes v.number x) mark its_past
      none_starts = sym (none_start (call_id v.number (arrivals v.number its_past)) mark its_past (started_same (call_id v.number (arrivals v.number its_past)) mark its_past (quiet (arrivals v.number its_past))))

    -- it goes on
    module _ (goes_in : is_shut_value v ≡ false) where
      unshut : is_shut v.number its_past ≡ false
      unshut = sym h.shut_is ∙ goes_in

      still : v.closed ≡ false
      still = not_closed v.closed v.broken goes_in

      size : length (map Some taken ++ v.slots) ≡ next v
      size = length-append (map Some taken) v.slots ∙ omega (arith, h.taken_is still, length-map taken (λ (e : ReplyEntry). Some e))

      behind : arrivals v.number its_past ≡ next v
      behind = sym (h.slots_stand still).size_is ∙ size

      comes : one_call.Stepped (call_id v.number (next v)) (arriving n x v) mark its_past
      comes = subst (λ r. one_call.Stepped (call_id v.number (next v)) r mark its_past) (sym right) (arrives (call_id v.number (next v)) x os (record { next = behind; unshut = unshut }))
        where
          full : is_full v.slots ≡ nat_le most_calls (undecided_calls v.number its_past)
          full = ap (λ k. nat_le most_calls k) (undecided_count v.number taken v.slots its_past (h.slots_stand still))

          right : arriving n x v ≡ arrive (now its_past) (is_drained its_past) (crowds (Comes v.number x) its_past) (call_id v.number (next v)) x
          right = crowd_is v.number x (is_full v.slots) its_past n.moment n.drained (call_id v.number (next v)) full
              ∙ (λ i. arrive (is_now.moment_is i) (is_now.drained_is i) (crowds (Comes v.number x) its_past) (call_id v.number (next v)) x)

      -- another call than the one that comes
      other : (k : ℕ) → (next v == k) ≡ false → one_call.Stepped (call_id v.number k) (kept (v.calls k)) mark its_past
      other k apart = other_goes v.number x (call_id v.number k) (v.calls k) n.moment os
          (other_call v.number x (call_id v.number k) (next v) its_past behind (ap (λ b. (v.number == v.number) && b) apart ∙ and_false (v.number == v.number))) is_now.moment_is (h.calls k)

      made : (k : ℕ) → CallStands (call_id v.number k) (if next v == k then (arriving n x v).call else v.calls k) (mark ∷ its_past)
      made k = ⊎_elim
          (λ (it : (next v == k) ≡ true). rw it (subst (λ j. CallStands (call_id v.number j) (arriving n x v).call (mark ∷ its_past)) (eqb-true (next v) k it) comes.stands))
          (λ (apart : (next v == k) ≡ false). rw apart (other k apart).stands)
          (cases_Bool (next v == k))

      others_stay : (j : ℕ) → (j ≡ length (map Some taken ++ v.slots) → ⊥) → entry (call_id v.number j) its_past ≡ entry (call_id v.number j) (mark ∷ its_past)
      others_stay j ne = sym (or_none (entry (call_id v.number j) its_past)) ∙ (other j (ne_eqb (next v) j (λ e. ne (sym e ∙ sym size)))).replies

      here_is : (arriving n x v).reply ≡ entry (call_id v.number (length (map Some taken ++ v.slots))) (mark ∷ its_past)
      here_is = subst (λ k. (arriving n x v).reply ≡ entry (call_id v.number k) (mark ∷ its_past)) (sym size)
          (ap (λ o. option_or o (arriving n x v).reply) (sym (no_entry_yet v.number (next v) its_past (omega (arith, behind)))) ∙ comes.replies)

      pub comes_in : ConnectionStands (entered (arriving n x v) v) taken (Comes v.number x ∷ os)
      comes_in = record {
        taken_is = h.taken_is;
        slots_stand = λ e. subst (λ xs. SlotsStand v.number xs (mark ∷ its_past)) (append_assoc (map Some taken) v.slots ((arriving n x v).reply ∷ []))
            (more_slots v.number x (map Some taken ++ v.slots) (arriving n x v).reply its_past (h.slots_stand still) (unbroken v.number its_past unshut) others_stay here_is);
        calls = made;
        broken_is = h.broken_is;
        shut_is = h.shut_is;
      }

      pub coming_starts : (arriving n x v).jobs ≡ jobs_by (Comes v.number x) mark its_past
      coming_starts = comes.starts ∙ ap (λ k. jobs_started (call_id v.number k) mark its_past) (sym behind)

  -- ---- whatever occurs

  comes_by : (x : Coming) → (v.broken ≡ false → is_shut_value v ≡ false) → (b : Bool) → v.broken ≡ b
      → ConnectionStands (if b then stepped v [] else stepped (entered (arriving n x v) v) (arriving n x v).jobs).conn taken (Comes v.number x ∷ os)
  comes_by x may true is = stays_broken x is
  comes_by x may false is = comes_in x (may is)

  starts_by : (x : Coming) → (v.broken ≡ false → is_shut_value v ≡ false) → (b : Bool) → v.broken ≡ b
      → (if b then stepped v [] else stepped (entered (arriving n x v) v) (arriving n x v).jobs).jobs ≡ jobs_by (Comes v.number x) (mark_of (marked os) (Comes v.number x)) (marked os)
  starts_by x may true is = none_starts x is
  starts_by x may false is = coming_starts x (may is)

  may_now : (v.broken ≡ false → v.closed ≡ false) → v.broken ≡ false → is_shut_value v ≡ false
  may_now may is = rw (may is, is) refl

  pub step_stands : (o : Occurrence) → is_visible v.number o ≡ true → MayCome o v → ConnectionStands (step n o v).conn taken (o ∷ os)
  step_stands (Comes c x) on may =
      subst (λ d. ConnectionStands (step n (Comes d x) v).conn taken (Comes d x ∷ os)) (sym (eqb-true c v.number on)) (comes_by x (may_now (may (eqb-true c v.number on))) v.broken refl)
  step_stands Opening on may = goes_on Opening refl
  step_stands (HangUp d) on may = goes_on (HangUp d) refl
  step_stands (Moment m) on may = goes_on (Moment m) refl
  step_stands (Result of i outcome) on may = goes_on (Result of i outcome) refl
  step_stands Drain on may = goes_on Drain refl
  step_stands (Closing d) on may = goes_on (Closing d) refl
  step_stands (Break d) on may = goes_on (Break d) refl

  pub step_jobs : (o : Occurrence) → is_visible v.number o ≡ true → MayCome o v → (step n o v).jobs ≡ jobs_by o (mark_of (marked os) o) (marked os)
  step_jobs (Comes c x) on may =
      subst (λ d. (step n (Comes d x) v).jobs ≡ jobs_by (Comes d x) (mark_of (marked os) (Comes d x)) (marked os)) (sym (eqb-true c v.number on)) (starts_by x (may_now (may (eqb-true c v.number on))) v.broken refl)
  step_jobs (Result of i outcome) on may =
      subst (λ (id : CallId). (step n (Result id i outcome) v).jobs ≡ jobs_by (Result id i outcome) (mark_of (marked os) (Result id i outcome)) (marked os))
      (ap (λ d. call_id d of.request) (sym (eqb-true of.conn v.number on))) (result_starts of.request i outcome)
  step_jobs Opening on may = refl
  step_jobs (HangUp d) on may = refl
  step_jobs (Moment m) on may = refl
  step_jobs Drain on may = refl
  step_jobs (Closing d) on may = refl
  step_jobs (Break d) on may = refl

module _ (n : Now) (conns : ℕ → ConnectionValue) (taken : ℕ → List ReplyEntry) (handed waiting : List JobValue) (os : List Occurrence) (h : AllStand n conns taken handed waiting os)
    (o : Occurrence) (may : (c : ℕ) → MayCome o (conns c)) where
  -- one of them, to which it is visible or not
  each_by : (c : ℕ) (b : Bool) → is_visible c o ≡ b → ConnectionStands (if b then (step n o (conns c)).conn else conns c) (taken c) (own c (o ∷ os))
  each_by c true on =
      seen c (step n o (conns c)).conn (taken c) o os on
      (step_stands n (conns c) (taken c) (own c os) (now_own c n os h.now) (h.each c) o (ap (λ d. is_visible d o) (h.numbers c) ∙ on) (may c))
  each_by c false off = unseen c (conns c) (taken c) o os off (h.each c)

  jobs_on : (c : ℕ) → is_visible c o ≡ true → (step n o (conns c)).jobs ≡ jobs_by o (mark_of (marked os) o) (marked os)
  jobs_on c on = step_jobs n (conns c) (taken c) (own c os) (now_own c n os h.now) (h.each c) o (ap (λ d. is_visible d o) (h.numbers c) ∙ on) (may c) ∙ sym (own_jobs c o os on)

  pub all_stand : (started : List JobValue) → started ≡ jobs_by o (mark_of (marked os) o) (marked os)
      → AllStand (now_after o n) (all_after n o conns) taken handed (waiting ++ started) (o ∷ os)
  all_stand started is = grind (arith, nat_tests, now_goes, each_by, append_assoc)

-- whatever occurs
pub all_step : (n : Now) (conns : ℕ → ConnectionValue) (taken : ℕ → List ReplyEntry) (handed waiting : List JobValue) (os : List Occurrence) (o : Occurrence)
    → AllStand n conns taken handed waiting os → ((c : ℕ) → MayCome o (conns c))
    → AllStand (now_after o n) (all_after n o conns) taken handed (waiting ++ all_started n o conns) (o ∷ os)
all_step n conns taken handed waiting os (Comes c x) h may = all_stand n conns taken handed waiting os h (Comes c x) may _ (jobs_on n conns taken handed waiting os h (Comes c x) may c (eq-eqb c c refl))
all_step n conns taken handed waiting os (Result of i outcome) h may = all_stand n conns taken handed waiting os h (Result of i outcome) may _ (jobs_on n conns taken handed waiting os h (Result of i outcome) may of.conn (eq-eqb of.conn of.conn refl))
all_step n conns taken handed waiting os Opening h may = all_stand n conns taken handed waiting os h Opening may [] refl
all_step n conns taken handed waiting os (HangUp d) h may = all_stand n conns taken handed waiting os h (HangUp d) may [] refl
all_step n conns taken handed waiting os (Moment m) h may = all_stand n conns taken handed waiting os h (Moment m) may [] refl
all_step n conns taken handed waiting os Drain h may = all_stand n conns taken handed waiting os h Drain may [] refl
all_step n conns taken handed waiting os (Closing d) h may = all_stand n conns taken handed waiting os h (Closing d) may [] refl
all_step n conns taken handed waiting os (Break d) h may = all_stand n conns taken handed waiting os h (Break d) may [] refl
