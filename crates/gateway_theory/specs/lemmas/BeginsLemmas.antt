-- What comes on a stream: the call that it begins stands for what has occurred.
use Rattle.std.specs.Prelude.{◌≡◌, ◌+◌, ◌-◌, ◌∷◌}
use Rattle.gateway_theory.specs.lemmas.Names.{ℕ, min, Bool, true, false, List, [], map, length, Option, None, Some, refl, sym, ap, ◌∙◌, arith, nat_tests, is_none, nat_lt, option_and_then, slice_index_or, option_map_or, range_with_len, le-ltb, eq-eqb, get_or-map-range_with_len, length-map-range_with_len, get_or-eq_default, HttpRequest, closes, PlanRecord, CallId, Judged, Asks, job_of, Occurrence, Comes, Coming, Request, Refused, CallEvent, Mark, Past, ArrivedCall, call, arrivals, coming_now, asked_now, asked_by, began, answers, started, is_out, is_shut, is_drained, own_event, ends_at_arrival, decides, decided, now, crowds, mark_of, marked, branches, ReplyEntry, Crowded as Crowding, came, own_events, entry_by, entry, call_entry, step_to, call_state, gone, is_live, tasks_from, Stepped, new_live, begun_live, first_ones, first_jobs, first_out, begins, arrive}
use Rattle.gateway_theory.specs.lemmas.Deadlines.{branch_deadline, deadlines_first, deadlines_of}
use Rattle.gateway_model.specs.declared.entry.ReplyEntry.TheVariants.{Refused as Refusing, Judged as Judging}
use Rattle.gateway_theory.specs.lemmas.LimitLemmas.{unanswered, unbegun}
use Rattle.gateway_theory.specs.lemmas.Frame.{unbroken}
use Rattle.gateway_theory.specs.lemmas.PastLemmas.{Unborn, unborn}
use Rattle.gateway_theory.specs.Step.{ended}
use Rattle.gateway_theory.specs.lemmas.StepLemmas.{deadlines_now, call_entry_is, decided_shut, started_live}

abbrev pub comes : CallId → Coming → Past → Mark
comes id x past = mark_of past (Comes id.conn x)

-- it is the next request of its connection, which is not closed
pub record IsNext (id : CallId) (os : List Occurrence) : Type 0 where
  pub next : arrivals id.conn (marked os) ≡ id.request
  pub unshut : is_shut id.conn (marked os) ≡ false

nothing : (id : CallId) (os : List Occurrence) → IsNext id os → Unborn id (marked os)
nothing id os n = unborn id (marked os) (omega (arith, n.next))

entering_is : (id : CallId) (x : Coming) (os : List Occurrence) → IsNext id os → coming_now id (comes id x (marked os)) (marked os) ≡ Some x
entering_is id x os n = rw (eq-eqb (arrivals id.conn (marked os)) id.request n.next, eq-eqb id.conn id.conn refl, unbroken id.conn (marked os) n.unshut) refl

came_then : (id : CallId) (x : Coming) (os : List Occurrence) → IsNext id os
    → came id (comes id x (marked os) ∷ marked os) ≡ Some (x, crowds (Comes id.conn x) (marked os))
came_then id x os n = rw ((nothing id os n).not_came, entering_is id x os n) refl

-- what follows of the call where this is what it asks for
pub record Asks_now (id : CallId) (x : Coming) (past : Past) (o : Option ArrivedCall) : Type 0 where
  pub asked : asked_now id (comes id x past) past ≡ o

call_then : (id : CallId) (x : Coming) (os : List Occurrence) (o : Option ArrivedCall) → IsNext id os → Asks_now id x (marked os) o
    → call id (comes id x (marked os) ∷ marked os) ≡ o
call_then id x os o n a = rw ((nothing id os n).no_call, a.asked) refl

began_then : (id : CallId) (x : Coming) (os : List Occurrence) (o : Option ArrivedCall) → IsNext id os → Asks_now id x (marked os) o
    → began id (comes id x (marked os) ∷ marked os) ≡ option_map_or (λ c. is_none (ends_at_arrival (marked os) c)) o false
began_then id x os o n a = rw ((nothing id os n).not_begun, a.asked) refl

own_then : (id : CallId) (x : Coming) (os : List Occurrence) (o : Option ArrivedCall) → IsNext id os → Asks_now id x (marked os) o
    → own_event id (comes id x (marked os)) (marked os) ≡ option_and_then (ends_at_arrival (marked os)) o
own_then id x os o n a = rw (n.unshut, (nothing id os n).no_call, a.asked) refl

not_started_yet : (id : CallId) (os : List Occurrence) → IsNext id os → started id (marked os) ≡ 0
not_started_yet id os n = rw ((nothing id os n).not_begun) refl

no_answers : (id : CallId) (x : Coming) (os : List Occurrence) → IsNext id os → answers id (comes id x (marked os) ∷ marked os) ≡ 0
no_answers id x os n = unanswered id os (nothing id os n).not_begun

-- what comes and begins no call, by which the call of that id is nothing that can be decided
begins_none : (id : CallId) (x : Coming) (os : List Occurrence) (r : ReplyEntry) → IsNext id os
    → began id (comes id x (marked os) ∷ marked os) ≡ false → is_live id (comes id x (marked os) ∷ marked os) ≡ false
    → entry id (comes id x (marked os) ∷ marked os) ≡ Some r
    → Stepped id (step_to gone (Some r) []) (comes id x (marked os)) (marked os)
begins_none id x os r n not_begun shut entry_is = search arith

uncalled_shut : (id : CallId) (past : Past) → call id past ≡ None → is_live id past ≡ false
uncalled_shut id past e = rw e refl

-- what comes and asks for no call
uncalled : (id : CallId) (x : Coming) (os : List Occurrence) (r : ReplyEntry) → IsNext id os → Asks_now id x (marked os) None
    → entry_by id (comes id x (marked os) ∷ marked os) (x, crowds (Comes id.conn x) (marked os)) ≡ Some r
    → Stepped id (step_to gone (Some r) []) (comes id x (marked os)) (marked os)
uncalled id x os r n a is =
    begins_none id x os r n (began_then id x os None n a) (uncalled_shut id (comes id x (marked os) ∷ marked os) (call_then id x os None n a))
    (ap (λ o. option_and_then (entry_by id (comes id x (marked os) ∷ marked os)) o) (came_then id x os n) ∙ is)

no_call_asked : (id : CallId) (x : Coming) (os : List Occurrence) → IsNext id os → asked_by (now (marked os)) x ≡ None → Asks_now id x (marked os) None
no_call_asked id x os n none = grind arith

crowded_asked : (id : CallId) (x : Coming) (os : List Occurrence) → crowds (Comes id.conn x) (marked os) ≡ true → Asks_now id x (marked os) None
crowded_asked id x os crowded = record { asked = rw crowded refl }

call_asked : (id : CallId) (x : Coming) (os : List Occurrence) (a : ArrivedCall) → IsNext id os → crowds (Comes id.conn x) (marked os) ≡ false
    → asked_by (now (marked os)) x ≡ Some a → Asks_now id x (marked os) (Some a)
call_asked id x os a n uncrowded asks = record { asked = rw (uncrowded, entering_is id x os n) asks }

-- a call that is decided as it arrives
over : (id : CallId) (x : Coming) (os : List Occurrence) (a : ArrivedCall) (e : CallEvent) → IsNext id os → Asks_now id x (marked os) (Some a)
    → ends_at_arrival (marked os) a ≡ Some e → decides (answers id (marked os)) (branches id (marked os)) e ≡ true
    → entry_by id (comes id x (marked os) ∷ marked os) (x, crowds (Comes id.conn x) (marked os)) ≡ call_entry id (comes id x (marked os) ∷ marked os)
    → Stepped id (ended e (new_live id a) []) (comes id x (marked os)) (marked os)
over id x os a e n asks ends dec by_call = search (arith, nat_tests, own_then, nothing, begins_none, began_then, decided_shut, came_then, call_entry_is, call_then, deadlines_now, unbegun, deadlines_of, branch_deadline)

-- a call that begins
begun : (id : CallId) (x : Coming) (os : List Occurrence) (a : ArrivedCall) → IsNext id os → Asks_now id x (marked os) (Some a)
    → ends_at_arrival (marked os) a ≡ None
    → entry_by id (comes id x (marked os) ∷ marked os) (x, crowds (Comes id.conn x) (marked os)) ≡ call_entry id (comes id x (marked os) ∷ marked os)
    → Stepped id (step_to (call_state (first_out a) (Some (begun_live (now (marked os)) id a))) None (first_jobs (now (marked os)) id a)) (comes id x (marked os)) (marked os)
begun id x os a n asks goes by_call =
    let m : Mark = comes id x (marked os) in
    let past : Past = marked os in
    let own : own_event id m past ≡ None = own_then id x os (Some a) n asks ∙ goes in
    let undec : decided id (m ∷ past) ≡ None = rw ((nothing id os n).undecided, own) refl in
    let events : own_events id (m ∷ past) ≡ [] = rw ((nothing id os n).undecided, own, (nothing id os n).no_events) refl in
    let call_is : call id (m ∷ past) ≡ Some a = call_then id x os (Some a) n asks in
    let began_is : began id (m ∷ past) ≡ true = began_then id x os (Some a) n asks ∙ rw goes refl in
    let none_yet : started id past ≡ 0 = not_started_yet id os n in
    let now_started : started id (m ∷ past) ≡ first_ones a =
    started_live id a (m ∷ past) call_is began_is ∙ ap (λ k. min (length a.plan.branches) (a.plan.limit + k)) (no_answers id x os n) in
    record {
      stands = record {
        out_is = λ i. first_outs a i ∙ sym (out_at_first id i m past none_yet ∙ ap (λ k. nat_lt i k) now_started);
        live_is = record {
          call_is = call_is;
          began_is = began_is;
          undecided = undec;
          unshut = n.unshut;
          size_is = length-map-range_with_len (λ i. nat_lt i (first_ones a)) 0 (length a.plan.branches);
          events_are = sym events;
          answers_are = sym (no_answers id x os n);
          deadlines_are = sym (deadlines_first id a m past (first_ones a) call_is none_yet now_started);
          waiting_are = ap (λ k. tasks_from k id a) (sym now_started);
        };
      };
      replies = grind (arith, nat_tests);
      starts = grind (arith, nat_tests);
    }
  where
    first_outs : (a : ArrivedCall) (i : ℕ) → slice_index_or (first_out a) i false ≡ nat_lt i (first_ones a)
    first_outs a i = grind (arith, nat_tests, get_or-map-range_with_len, get_or-eq_default, length-map-range_with_len, le-ltb)

    out_at_first : (id : CallId) (i : ℕ) (m : Mark) (past : Past) → started id past ≡ 0 → is_out id i (m ∷ past) ≡ nat_lt i (started id (m ∷ past))
    out_at_first id i m past none_yet = rw (le-ltb i (started id past) (omega (arith, none_yet))) refl

    call_entry_none : (id : CallId) (past : Past) → decided id past ≡ None → call_entry id past ≡ None
    call_entry_none id past e = rw e refl

    first_started : (moment : ℕ) (id : CallId) (a : ArrivedCall) (s t : ℕ) → s ≡ 0 → t ≡ first_ones a
        → map (λ j. job_of id j a moment) (range_with_len s (t - s)) ≡ first_jobs moment id a
    first_started moment id a s t is also = grind (arith, nat_tests)

ends_decide : (past : Past) (a : ArrivedCall) (e : CallEvent) (k n : ℕ) → ends_at_arrival past a ≡ Some e → decides k n e ≡ true
ends_decide past a e k n h = grind arith

-- a request for a plan, which is not crowded out
called : (id : CallId) (q : HttpRequest) (plan : PlanRecord) (timeout : Option ℕ) (rid : Option (List ℕ)) (os : List Occurrence) (a : ArrivedCall) → IsNext id os
    → crowds (Comes id.conn (Request q (Asks plan timeout rid))) (marked os) ≡ false → asked_by (now (marked os)) (Request q (Asks plan timeout rid)) ≡ Some a
    → Stepped id (begins (now (marked os)) (ends_at_arrival (marked os) a) id a) (comes id (Request q (Asks plan timeout rid)) (marked os)) (marked os)
called id q plan timeout rid os a n uncrowded asks = by_end (ends_at_arrival (marked os) a) refl
  where
    x : Coming
    x = Request q (Asks plan timeout rid)

    by_call : entry_by id (comes id x (marked os) ∷ marked os) (x, crowds (Comes id.conn x) (marked os)) ≡ call_entry id (comes id x (marked os) ∷ marked os)
    by_call = ap (λ b. entry_by id (comes id x (marked os) ∷ marked os) (x, b)) uncrowded

    by_end : (o : Option CallEvent) → ends_at_arrival (marked os) a ≡ o → Stepped id (begins (now (marked os)) o id a) (comes id x (marked os)) (marked os)
    by_end (Some e) o_is =
        over id x os a e n (call_asked id x os a n uncrowded asks) o_is (ends_decide (marked os) a e (answers id (marked os)) (branches id (marked os)) o_is) by_call
    by_end None o_is = begun id x os a n (call_asked id x os a n uncrowded asks) o_is by_call

pub arrives : (id : CallId) (x : Coming) (os : List Occurrence) → IsNext id os
    → Stepped id (arrive (now (marked os)) (is_drained (marked os)) (crowds (Comes id.conn x) (marked os)) id x) (comes id x (marked os)) (marked os)
arrives id (Refused r) os n = uncalled id (Refused r) os (Refusing r) n (no_call_asked id (Refused r) os n refl) refl
arrives id (Request q (Judged v)) os n =
    uncalled id (Request q (Judged v)) os (Judging v (closes q)) n (no_call_asked id (Request q (Judged v)) os n refl) refl
arrives id (Request q (Asks plan timeout rid)) os n = by_crowd (crowds (Comes id.conn (Request q (Asks plan timeout rid))) (marked os)) refl
  where
    x : Coming
    x = Request q (Asks plan timeout rid)

    by_crowd : (b : Bool) → crowds (Comes id.conn x) (marked os) ≡ b
        → Stepped id (arrive (now (marked os)) (is_drained (marked os)) b id x) (comes id x (marked os)) (marked os)
    by_crowd true b_is =
        uncalled id x os (Crowding (closes q)) n (crowded_asked id x os b_is) (ap (λ b. entry_by id (comes id x (marked os) ∷ marked os) (x, b)) b_is)
    by_crowd false b_is = called id q plan timeout rid os _ n b_is refl
