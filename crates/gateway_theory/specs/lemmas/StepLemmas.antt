-- What an occurrence makes of one call.
use Rattle.std.specs.Prelude.{◌≡◌, ◌+◌, ◌<◌, ◌-◌, ◌∷◌, ◌++◌, ◌⊎◌, if◌then◌else◌, ◌&&◌, ◌==◌}
use Rattle.gateway_theory.specs.lemmas.Names.{ℕ, min, Bool, true, false, List, [], length, Option, None, Some, refl, sym, ap, ◌∙◌, subst, arith, ⊎_elim, nat_tests, is_some, not, option_and_then, slice_set, slice_index_or, option_or, option_map_or, cases_Bool, cases_eq, ltb-false, lt-ltb, le-ltb, eq-eqb, ne_eqb, and_parts, get_or-set_same, get_or-set_other, length-set, length-append, append-nil, get_or-eq_default, Outcome, Answer, Fail, CallId, Judged, Asks, job_of, task_of, Occurrence, Opening, Comes, HangUp, Moment, Result, Drain, Closing, Coming, Request, Refused, Break, CallEvent, Failed, Mark, Past, ArrivedCall, call, arrivals, coming_now, asked_now, asked_by, began, answers, started, is_out, is_result_of, is_answer_to, is_call, is_shut, shuts, event_by, own_event, decides, decided, can_be_decided, branch_deadlines, deadline_from, due_by, now, counts, mark_of, of_branch, Call as Calling, came, own_events, record_deadlines, record_of, entry, call_entry, jobs_started, kept, ended_by, ended_live, ending, entry_as, deadlines_in, deadlines_then, first_of, rest_of, next_out, is_last_answer, counted, result_on, step, moment_after, Live, call_state, is_live, tasks_from, LiveStands, MayLive, CallStands, Stepped}
use Rattle.error_document.specs.declared.document.RpcError.{RpcError}
use Rattle.gateway_model.specs.declared.call_event.CallEvent.TheVariants.{Answer as Answered, HungUp, Drained}
use Rattle.gateway_theory.specs.lemmas.LimitLemmas.{out_started, same_call}
use Rattle.gateway_theory.specs.lemmas.PastLemmas.{unborn}
use Rattle.gateway_theory.specs.lemmas.Cases.{and_none, and_true, and_false, or_none}
use Rattle.gateway_theory.specs.Step.{ended}
use Rattle.gateway_theory.specs.lemmas.Deadlines.{deadlines_same, deadlines_more, expires, outs_are}
use Rattle.gateway_theory.specs.lemmas.Frame.{Past_it, unasked, call_same, began_same, came_same, answers_same, started_same, decided_same, own_same, own_before, not_started, out_after, out_same, none_start, entry_same}

-- ---- what came for a call

came_by : (id : CallId) (m : Mark) (past : Past) (a : ArrivedCall) (x : Option Coming) (crowded : Bool) → coming_now id m past ≡ x → m.crowded ≡ crowded
    → (if crowded then None else option_and_then (asked_by (now past)) x) ≡ Some a → came id past ≡ None
    → (t : Option ℕ) × (came id (m ∷ past) ≡ Some (Request a.request (Asks a.plan t a.request_id), false))
came_by id m past a x true x_is c_is e none = absurd (cc)
came_by id m past a None false x_is c_is e none = absurd (cc)
came_by id m past a (Some (Refused r)) false x_is c_is e none = absurd (cc)
came_by id m past a (Some (Request q (Judged v))) false x_is c_is e none = absurd (cc)
came_by id m past a (Some (Request q (Asks plan t rid))) false x_is c_is e none =
    (t, rw (none, x_is, c_is) (ap (λ (o : Option ArrivedCall). option_map_or (λ (b : ArrivedCall). Some (Request b.request (Asks b.plan t b.request_id), false)) o None) e))

pub entering_at : (id : CallId) (m : Mark) (past : Past) (a : ArrivedCall) → asked_now id m past ≡ Some a → arrivals id.conn past ≡ id.request
entering_at id m past a e = grind arith

-- a call came as the request that asks for it
pub called_came : (id : CallId) (past : Past) (a : ArrivedCall) → call id past ≡ Some a → (t : Option ℕ) × (came id past ≡ Some (Request a.request (Asks a.plan t a.request_id), false))
called_came id [] a e = absurd (cc)
called_came id (m ∷ past) a e = by_call (call id past) refl (called_came id past a)
  where
    by_call : (c : Option ArrivedCall) → call id past ≡ c → (call id past ≡ Some a → (t : Option ℕ) × (came id past ≡ Some (Request a.request (Asks a.plan t a.request_id), false)))
        → (t : Option ℕ) × (came id (m ∷ past) ≡ Some (Request a.request (Asks a.plan t a.request_id), false))
    by_call (Some b) c_is before = grind (arith, nat_tests)
    by_call None c_is before =
        let asks : asked_now id m past ≡ Some a = rw c_is at e in
        let here : arrivals id.conn past ≡ id.request = entering_at id m past a asks in
        came_by id m past a (coming_now id m past) m.crowded refl refl asks (unborn id past (omega (arith, here))).not_came

-- ---- an event that decides a call

decided_then : (id : CallId) (l : Live) (out : List Bool) (m : Mark) (past : Past) (e : CallEvent) → LiveStands id l out past
    → own_event id m past ≡ Some e → decides (answers id past) (length l.asked.plan.branches) e ≡ true → decided id (m ∷ past) ≡ Some e
decided_then id l out m past e h own ends = rw (h.undecided, own, h.call_is, ends) refl

own_then : (id : CallId) (l : Live) (out : List Bool) (m : Mark) (past : Past) (e : CallEvent) → LiveStands id l out past
    → own_event id m past ≡ Some e → own_events id (m ∷ past) ≡ l.events ++ e ∷ []
own_then id l out m past e h own = rw (h.undecided, own, ← h.events_are) refl

entry_before : (id : CallId) (l : Live) (out : List Bool) (past : Past) → LiveStands id l out past → entry id past ≡ None
entry_before id l out past h = let c = called_came id past l.asked h.call_is in rw (c.1, h.undecided) refl

pub call_entry_is : (id : CallId) (past : Past) (a : ArrivedCall) (ds : List (Option ℕ)) (es : List CallEvent) (e : CallEvent) → decided id past ≡ Some e
    → call id past ≡ Some a → record_deadlines id past ≡ ds → own_events id past ≡ es → call_entry id past ≡ Some (Calling (record_of a ds es))
call_entry_is id past a ds es e dec call_is deadlines own = rw (dec, call_is, deadlines, own) refl

-- the deadlines of a record grow until its call is decided
pub deadlines_now : (id : CallId) (m : Mark) (past : Past) → decided id past ≡ None → record_deadlines id (m ∷ past) ≡ branch_deadlines id (m ∷ past)
deadlines_now id m past undecided = rw undecided refl

entry_then : (id : CallId) (l : Live) (out : List Bool) (m : Mark) (past : Past) (ds : List (Option ℕ)) (e : CallEvent) → LiveStands id l out past → Past_it id m past
    → own_event id m past ≡ Some e → decided id (m ∷ past) ≡ Some e → branch_deadlines id (m ∷ past) ≡ ds → entry id (m ∷ past) ≡ Some (entry_as ds e l)
entry_then id l out m past ds e h none own dec deadlines = search (arith, nat_tests, called_came, came_same, call_entry_is, call_same, deadlines_now, own_then)

-- a decided call can't be decided any more
pub decided_shut : (id : CallId) (past : Past) (e : CallEvent) → decided id past ≡ Some e → is_live id past ≡ false
decided_shut id past e dec = rw dec (and_false (is_some (call id past)))

ended_replies : (id : CallId) (l : Live) (out : List Bool) (m : Mark) (past : Past) (ds : List (Option ℕ)) (e : CallEvent) → LiveStands id l out past → Past_it id m past
    → own_event id m past ≡ Some e → decided id (m ∷ past) ≡ Some e → branch_deadlines id (m ∷ past) ≡ ds → option_or (entry id past) (Some (entry_as ds e l)) ≡ entry id (m ∷ past)
ended_replies id l out m past ds e h none own dec deadlines =
    rw (entry_before id l out past h) (sym (entry_then id l out m past ds e h none own dec deadlines))

-- no branch has started: the deadlines are those of before
deadlines_kept : (id : CallId) (l : Live) (out : List Bool) (m : Mark) (past : Past) → LiveStands id l out past → Past_it id m past → started id (m ∷ past) ≡ started id past
    → branch_deadlines id (m ∷ past) ≡ l.deadlines
deadlines_kept id l out m past h none same = deadlines_same id m past (call_same id m past none) same ∙ sym h.deadlines_are

ended_stepped : (id : CallId) (l : Live) (out after : List Bool) (m : Mark) (past : Past) (e : CallEvent) → LiveStands id l out past → Past_it id m past
    → own_event id m past ≡ Some e → decides (answers id past) (length l.asked.plan.branches) e ≡ true → started id (m ∷ past) ≡ started id past
    → ((i : ℕ) → slice_index_or after i false ≡ is_out id i (m ∷ past)) → Stepped id (ended e l after) m past
ended_stepped id l out after m past e h none own ends same outs = grind (arith, nat_tests, decided_then, decided_shut, ended_replies, deadlines_kept, none_start)

-- ---- an occurrence that is no event of a call

same_replies : (id : CallId) (m : Mark) (past : Past) → Past_it id m past → decided id (m ∷ past) ≡ decided id past
    → option_or (entry id past) None ≡ entry id (m ∷ past)
same_replies id m past none same = or_none (entry id past) ∙ sym (entry_same id m past none same)

shut_stepped : (id : CallId) (out : List Bool) (m : Mark) (past : Past) → is_live id past ≡ false → Past_it id m past
    → (m.counted && is_answer_to id m.what) ≡ false
    → ((i : ℕ) → slice_index_or out i false ≡ is_out id i (m ∷ past)) → Stepped id (kept (call_state out None)) m past
shut_stepped id out m past shut none no_answer outs = search arith

live_kept : (id : CallId) (l : Live) (out after : List Bool) (m : Mark) (past : Past) → LiveStands id l out past → Past_it id m past
    → (m.counted && is_answer_to id m.what) ≡ false → own_event id m past ≡ None → is_shut id.conn (m ∷ past) ≡ false → length after ≡ length out
    → LiveStands id l after (m ∷ past)
live_kept id l out after m past h none no_answer own unshut size = grind (arith, nat_tests, call_same, began_same, decided_same, own_same, answers_same, deadlines_kept, started_same)

live_stepped : (id : CallId) (l : Live) (out : List Bool) (m : Mark) (past : Past) → LiveStands id l out past → Past_it id m past
    → (m.counted && is_answer_to id m.what) ≡ false → own_event id m past ≡ None → is_shut id.conn (m ∷ past) ≡ false
    → ((i : ℕ) → slice_index_or out i false ≡ is_out id i (m ∷ past))
    → Stepped id (kept (call_state out (Some l))) m past
live_stepped id l out m past h none no_answer own unshut outs = grind (arith, nat_tests, live_kept, same_replies, decided_same, none_start, started_same)

-- ---- the kinds of occurrence

-- a moment, a hang-up, the drain, an opening, or what comes on a stream
unresulted : (id : CallId) (o : Occurrence) (out : List Bool) (live : Option Live) (past : Past) → ((i : ℕ) → is_result_of id i o ≡ false)
    → (counts o past && is_answer_to id o) ≡ false → shuts id.conn o ≡ false
    → ((l : Live) → LiveStands id l out past → event_by id l.asked o (counts o past) past ≡ ending (now past) id o l.asked (deadlines_in out l.deadlines))
    → ((l : Live) (e : CallEvent) → ending (now past) id o l.asked (deadlines_in out l.deadlines) ≡ Some e → decides (answers id past) (length l.asked.plan.branches) e ≡ true)
    → Past_it id (mark_of past o) past → CallStands id (call_state out live) past
    → Stepped id (ended_live (now past) id o out live) (mark_of past o) past
unresulted id o out None past no_result no_answer no_closing events ends none h =
    let m : Mark = mark_of past o in
    shut_stepped id out m past h.live_is none no_answer
    (λ i. h.out_is i ∙ sym (out_same id i m past (started_same id m past none no_answer) (no_result i)))
unresulted id o out (Some l) past no_result no_answer no_closing events ends none h = by_ending (ending (now past) id o l.asked (deadlines_in out l.deadlines)) refl
  where
    by_ending : (x : Option CallEvent) → ending (now past) id o l.asked (deadlines_in out l.deadlines) ≡ x → Stepped id (ended_by x l out) (mark_of past o) past
    by_ending None x_is =
        let m : Mark = mark_of past o in
        let s : LiveStands id l out past = h.live_is in
        live_stepped id l out m past s none no_answer
        (own_before id m past none s.unshut ∙ rw s.call_is (events l s ∙ x_is))
        (rw (no_closing, s.unshut) refl)
        (λ i. h.out_is i ∙ sym (out_same id i m past (started_same id m past none no_answer) (no_result i)))
    by_ending (Some e) x_is =
        let m : Mark = mark_of past o in
        let s : LiveStands id l out past = h.live_is in
        let same = started_same id m past none no_answer in
        ended_stepped id l out out m past e s none
        (own_before id m past none s.unshut ∙ rw s.call_is (events l s ∙ x_is))
        (ends l e x_is) same
        (λ i. h.out_is i ∙ sym (out_same id i m past same (no_result i)))

-- a connection is closed, or breaks
shutting : (id : CallId) (o : Occurrence) (conn : ℕ) (out : List Bool) (live : Option Live) (past : Past)
    → shuts id.conn o ≡ (conn == id.conn) → counts o past ≡ false → ((i : ℕ) → is_result_of id i o ≡ false) → ((c : ArrivedCall) → event_by id c o false past ≡ None)
    → Past_it id (mark_of past o) past → CallStands id (call_state out live) past
    → Stepped id (if conn == id.conn then kept (call_state out None) else kept (call_state out live)) (mark_of past o) past
shutting id o conn out live past shuts_is uncounted no_result no_event_at none h = by_own (conn == id.conn) refl live h.live_is
  where
    m : Mark
    m = mark_of past o

    no_answer : (counts o past && is_answer_to id o) ≡ false
    no_answer = ap (λ b. b && is_answer_to id o) uncounted

    same : started id (m ∷ past) ≡ started id past
    same = started_same id m past none no_answer

    outs : (i : ℕ) → slice_index_or out i false ≡ is_out id i (m ∷ past)
    outs i = h.out_is i ∙ sym (out_same id i m past same (no_result i))

    no_event : own_event id m past ≡ None
    no_event = search (arith, nat_tests, m, unasked)

    by_own : (b : Bool) → (conn == id.conn) ≡ b → (live : Option Live) → MayLive id live out past
        → Stepped id (if b then kept (call_state out None) else kept (call_state out live)) m past
    by_own true b_is live l = grind (arith, nat_tests, outs, and_none, m, same_replies, decided_same, no_event, none_start, same, shut_stepped, no_answer, live_stepped)
    by_own false b_is None l = shut_stepped id out m past l none no_answer outs
    by_own false b_is (Some s) l = live_stepped id s out m past l none no_answer no_event (rw (shuts_is, b_is, l.unshut) refl) outs

-- ---- results

pub back_out : (out : List Bool) (i k : ℕ) → slice_index_or (slice_set out i false) k false ≡ (slice_index_or out k false && not (i == k))
back_out out i k = grind (arith, nat_tests, eq-eqb, get_or-set_same, and_false, get_or-eq_default, length-set, ne_eqb, get_or-set_other, and_true)

abbrev comes_back : CallId → ℕ → Outcome → Past → Mark
comes_back id i outcome past = mark_of past (Result id i outcome)

result_of_it : (id : CallId) (i k : ℕ) (outcome : Outcome) → is_result_of id k (Result id i outcome) ≡ (i == k)
result_of_it id i k outcome = rw (eq-eqb id.conn id.conn refl, eq-eqb id.request id.request refl) refl

-- the branch is back where no more start
outs_back : (id : CallId) (i : ℕ) (outcome : Outcome) (out : List Bool) (past : Past) → ((k : ℕ) → slice_index_or out k false ≡ is_out id k past)
    → started id (comes_back id i outcome past ∷ past) ≡ started id past
    → (k : ℕ) → slice_index_or (slice_set out i false) k false ≡ is_out id k (comes_back id i outcome past ∷ past)
outs_back id i outcome out past out_is same k =
    back_out out i k ∙ ap (λ b. b && not (i == k)) (out_is k) ∙ ap (λ b. is_out id k past && not b) (sym (result_of_it id i k outcome))
    ∙ sym (out_after id k (comes_back id i outcome past) past same)

-- where no call is there nothing is out
uncalled_out : (id : CallId) (i : ℕ) (past : Past) → call id past ≡ None → is_out id i past ≡ true → ⊥
uncalled_out id i past none out = grind (arith, nat_tests, out_started)

pub shut_open : (id : CallId) (i : ℕ) (past : Past) → is_live id past ≡ false → is_out id i past ≡ true → can_be_decided id past ≡ false
shut_open id i past shut out = grind (arith, nat_tests, uncalled_out)

no_answer_by : (id : CallId) (i : ℕ) (outcome : Outcome) (counted : Bool) → counted ≡ false → (counted && is_answer_to id (Result id i outcome)) ≡ false
no_answer_by id i outcome counted e = rw e refl

-- a late result
late : (id : CallId) (i : ℕ) (outcome : Outcome) (out : List Bool) (past : Past) → is_live id past ≡ false → Past_it id (comes_back id i outcome past) past
    → ((k : ℕ) → slice_index_or out k false ≡ is_out id k past) → is_out id i past ≡ true
    → Stepped id (kept (call_state (slice_set out i false) None)) (comes_back id i outcome past) past
late id i outcome out past shut none out_is out_i =
    let m : Mark = comes_back id i outcome past in
    let uncounted : counts (Result id i outcome) past ≡ false = rw (shut_open id i past shut out_i) (and_false (is_out id i past)) in
    let no_answer : (m.counted && is_answer_to id m.what) ≡ false = no_answer_by id i outcome m.counted uncounted in
    shut_stepped id (slice_set out i false) m past shut none no_answer (outs_back id i outcome out past out_is (started_same id m past none no_answer))

event_is : (id : CallId) (i : ℕ) (outcome : Outcome) (l : Live) (out : List Bool) (past : Past) → LiveStands id l out past → is_out id i past ≡ true
    → Past_it id (comes_back id i outcome past) past → own_event id (comes_back id i outcome past) past ≡ Some (of_branch i outcome)
event_is id i outcome l out past h out_i none = grind arith

-- a failure that counts
failed : (id : CallId) (i : ℕ) (error : RpcError) (l : Live) (out : List Bool) (past : Past) → LiveStands id l out past → Past_it id (comes_back id i (Fail error) past) past
    → ((k : ℕ) → slice_index_or out k false ≡ is_out id k past) → is_out id i past ≡ true
    → Stepped id (ended (Failed i error) l (slice_set out i false)) (comes_back id i (Fail error) past) past
failed id i error l out past h none out_is out_i =
    let m : Mark = comes_back id i (Fail error) past in
    let same : started id (m ∷ past) ≡ started id past = started_same id m past none (and_false m.counted) in
    ended_stepped id l out (slice_set out i false) m past (Failed i error) h none (event_is id i (Fail error) l out past h out_i none) refl same
    (outs_back id i (Fail error) out past out_is same)

-- ---- an answer that counts

-- either all branches have started, or the next one starts
pub record AllStarted (id : CallId) (l : Live) (m : Mark) (past : Past) : Type 0 where
  pub none_waits : l.waiting ≡ []
  pub same : started id (m ∷ past) ≡ started id past
  pub all : started id past ≡ length l.asked.plan.branches

pub record NextStarts (id : CallId) (l : Live) (m : Mark) (past : Past) : Type 0 where
  pub first_waits : l.waiting ≡ task_of id l.asked (started id past) ∷ tasks_from (started id past + 1) id l.asked
  pub one_more : started id (m ∷ past) ≡ started id past + 1
  pub within : started id past < length l.asked.plan.branches

pub tasks_none : (k : ℕ) (id : CallId) (a : ArrivedCall) → k ≡ length a.plan.branches → tasks_from k id a ≡ []
tasks_none k id a e = grind arith

pub tasks_next : (k : ℕ) (id : CallId) (a : ArrivedCall) → k < length a.plan.branches → tasks_from k id a ≡ task_of id a k ∷ tasks_from (k + 1) id a
tasks_next k id a lt = grind arith

pub started_live : (id : CallId) (a : ArrivedCall) (past : Past) → call id past ≡ Some a → began id past ≡ true → started id past ≡ min (length a.plan.branches) (a.plan.limit + answers id past)
started_live id a past call_is began_is = rw (began_is, call_is) refl

next_case : (id : CallId) (i : ℕ) (body : List ℕ) (l : Live) (out : List Bool) (past : Past) → LiveStands id l out past → is_out id i past ≡ true
    → Past_it id (comes_back id i (Answer body) past) past
    → AllStarted id l (comes_back id i (Answer body) past) past ⊎ NextStarts id l (comes_back id i (Answer body) past) past
next_case id i body l out past h out_i none = grind (arith, nat_tests, started_live, call_same, began_same, tasks_next, tasks_none)

-- what an answer that counts leaves of the branches and of the jobs
pub record GoesOn (id : CallId) (i : ℕ) (l : Live) (out : List Bool) (m : Mark) (past : Past) : Type 0 where
  pub outs : (k : ℕ) → slice_index_or (next_out l.waiting (slice_set out i false)) k false ≡ is_out id k (m ∷ past)
  pub size : length (next_out l.waiting (slice_set out i false)) ≡ length out
  pub starts : first_of (now past) l.waiting ≡ jobs_started id m past
  pub deadlines : branch_deadlines id (m ∷ past) ≡ deadlines_then (now past) l
  pub waiting : rest_of l.waiting ≡ tasks_from (started id (m ∷ past)) id l.asked

-- which branches are out where one more starts
out_more : (id : CallId) (k : ℕ) (m : Mark) (past : Past) → started id (m ∷ past) ≡ started id past + 1 → (k ≡ started id past → ⊥)
    → is_out id k (m ∷ past) ≡ (is_out id k past && not (is_result_of id k m.what))
out_more id k m past one ne = grind (arith, nat_tests, not_started, le-ltb, ltb-false)

out_next : (id : CallId) (m : Mark) (past : Past) → started id (m ∷ past) ≡ started id past + 1 → is_out id (started id past) (m ∷ past) ≡ true
out_next id m past one =
    rw (le-ltb (started id past) (started id past) (omega arith), one) (lt-ltb (started id past) (started id past + 1) (omega arith))

goes_on : (id : CallId) (i : ℕ) (body : List ℕ) (l : Live) (out : List Bool) (past : Past) → LiveStands id l out past → is_out id i past ≡ true
    → Past_it id (comes_back id i (Answer body) past) past → ((k : ℕ) → slice_index_or out k false ≡ is_out id k past)
    → GoesOn id i l out (comes_back id i (Answer body) past) past
goes_on id i body l out past h out_i none out_is =
    ⊎_elim (λ (a : AllStarted id l m past). record {
      outs = λ k. rw a.none_waits (outs_back id i (Answer body) out past out_is a.same k);
      size = rw a.none_waits (length-set out i false);
      starts = rw a.none_waits (sym (none_start id m past a.same));
      deadlines = rw a.none_waits (deadlines_kept id l out m past h none a.same ∙ sym (append-nil l.deadlines));
      waiting = rw (a.none_waits, a.same) (sym (tasks_none (started id past) id l.asked a.all));
    })
    (λ (s : NextStarts id l m past). record {
      outs = λ k. rw s.first_waits (⊎_elim (λ (here : k ≡ started id past).
          subst (λ j. slice_index_or (slice_set (slice_set out i false) (started id past) true) j false ≡ is_out id j (m ∷ past)) (sym here)
          (get_or-set_same (slice_set out i false) (started id past) true false (omega (arith, s.within, h.size_is, length-set out i false))
          ∙ sym (out_next id m past s.one_more)))
          (λ (ne : k ≡ started id past → ⊥).
          get_or-set_other (slice_set out i false) (started id past) k true false ne
          ∙ back_out out i k ∙ ap (λ b. b && not (i == k)) (out_is k) ∙ ap (λ b. is_out id k past && not b) (sym (result_of_it id i k (Answer body)))
          ∙ sym (out_more id k m past s.one_more ne))
          (cases_eq k (started id past)));
      size = rw s.first_waits (length-set (slice_set out i false) (started id past) true ∙ length-set out i false);
      starts = rw s.first_waits (one_starts s);
      deadlines = rw s.first_waits (deadlines_more id l.asked m past h.call_is (call_same id m past none ∙ h.call_is) s.one_more
          ∙ ap (λ ds. ds ++ deadline_from (now past) l.asked.plan (started id past) ∷ []) (sym h.deadlines_are));
      waiting = rw (s.first_waits, s.one_more) refl;
    })
    (next_case id i body l out past h out_i none)
  where
    m : Mark
    m = comes_back id i (Answer body) past

    one_starts : NextStarts id l m past → job_of id (started id past) l.asked (now past) ∷ [] ≡ jobs_started id m past
    one_starts fact = grind (arith, nat_tests)

answered : (id : CallId) (i : ℕ) (body : List ℕ) (l : Live) (out : List Bool) (past : Past) → LiveStands id l out past → Past_it id (comes_back id i (Answer body) past) past
    → ((k : ℕ) → slice_index_or out k false ≡ is_out id k past) → is_out id i past ≡ true
    → Stepped id (counted (now past) i (Answer body) l (slice_set out i false)) (comes_back id i (Answer body) past) past
answered id i body l out past h none out_is out_i = by_last (is_last_answer l) refl
  where
    m : Mark
    m = comes_back id i (Answer body) past

    g : GoesOn id i l out m past
    g = goes_on id i body l out past h out_i none out_is

    own : own_event id m past ≡ Some (Answered i body)
    own = event_is id i (Answer body) l out past h out_i none

    ends : (b : Bool) → is_last_answer l ≡ b → decides (answers id past) (length l.asked.plan.branches) (Answered i body) ≡ b
    ends b e = rw (← h.answers_are) e

    by_last : (b : Bool) → is_last_answer l ≡ b
        → Stepped id (counted (now past) i (Answer body) l (slice_set out i false)) m past
    by_last true b_is =
        let dec : decided id (m ∷ past) ≡ Some (Answered i body) = decided_then id l out m past (Answered i body) h own (ends true b_is) in
        rw b_is (record {
          stands = record { out_is = g.outs; live_is = decided_shut id (m ∷ past) (Answered i body) dec };
          replies = ended_replies id l out m past (deadlines_then (now past) l) (Answered i body) h none own dec g.deadlines;
          starts = g.starts;
        })
    by_last false b_is = grind (arith, m, decided_then, own, ends, g, decided_shut, ended_replies, call_same, began_same, own_then, length-append, same_replies)

-- a result of a branch that is out
result_out : (id : CallId) (i : ℕ) (outcome : Outcome) (out : List Bool) (live : Option Live) (past : Past) → Past_it id (comes_back id i outcome past) past
    → CallStands id (call_state out live) past → is_out id i past ≡ true
    → Stepped id (result_on (now past) i outcome (slice_set out i false) live) (comes_back id i outcome past) past
result_out id i outcome out None past none h out_i = late id i outcome out past h.live_is none h.out_is out_i
result_out id i (Answer body) out (Some l) past none h out_i = answered id i body l out past h.live_is none h.out_is out_i
result_out id i (Fail error) out (Some l) past none h out_i = failed id i error l out past h.live_is none h.out_is out_i

-- a result of a branch that is not out, or of another call
result_apart : (id of : CallId) (i : ℕ) (outcome : Outcome) (out : List Bool) (live : Option Live) (past : Past) → Past_it id (comes_back of i outcome past) past
    → CallStands id (call_state out live) past → (is_call of id && slice_index_or out i false) ≡ false
    → Stepped id (kept (call_state out live)) (comes_back of i outcome past) past
result_apart id of i outcome out live past none h apart = by_live live h.live_is
  where
    m : Mark
    m = comes_back of i outcome past

    out_apart : (is_call of id && is_out id i past) ≡ false
    out_apart = rw (← h.out_is i) apart

    uncounted : (counts (Result of i outcome) past && is_call of id) ≡ false
    uncounted = ⊎_elim (λ (its : is_call of id ≡ true).
        let same : of ≡ id = same_call of id its in
        let shut : is_out id i past ≡ false = rw its at out_apart in
        rw (its, same, shut) refl)
        (λ (other : is_call of id ≡ false). rw other (and_false (counts (Result of i outcome) past)))
        (cases_Bool (is_call of id))

    no_answer : (m.counted && is_answer_to id m.what) ≡ false
    no_answer = grind (arith, nat_tests, uncounted, and_false)

    same : started id (m ∷ past) ≡ started id past
    same = started_same id m past none no_answer

    outs : (k : ℕ) → slice_index_or out k false ≡ is_out id k (m ∷ past)
    outs k = h.out_is k ∙ sym (out_after id k m past same ∙ ⊎_elim
        (λ (here : i ≡ k). by_call (is_call of id) refl here)
        (λ (ne : i ≡ k → ⊥). rw (ne_eqb i k ne, and_false (is_call of id)) (and_true (is_out id k past)))
        (cases_eq i k))
      where
        by_call : (b : Bool) → is_call of id ≡ b → i ≡ k → (is_out id k past && not (is_result_of id k m.what)) ≡ is_out id k past
        by_call b is also = grind (arith, nat_tests)

    by_live : (live : Option Live) → MayLive id live out past → Stepped id (kept (call_state out live)) m past
    by_live None l = shut_stepped id out m past l none no_answer outs
    by_live (Some s) l =
        live_stepped id s out m past l none no_answer
        (own_before id m past none l.unshut ∙ rw (l.call_is, uncounted) refl)
        (rw l.unshut refl) outs

resulted : (id of : CallId) (i : ℕ) (outcome : Outcome) (out : List Bool) (live : Option Live) (past : Past) → Past_it id (comes_back of i outcome past) past
    → CallStands id (call_state out live) past
    → Stepped id (step (now past) id (Result of i outcome) (call_state out live)) (comes_back of i outcome past) past
resulted id of i outcome out live past none h = by_own (is_call of id && slice_index_or out i false) refl
  where
    by_own : (b : Bool) → (is_call of id && slice_index_or out i false) ≡ b
        → Stepped id (if b then result_on (now past) i outcome (slice_set out i false) live else kept (call_state out live)) (comes_back of i outcome past) past
    by_own true b_is =
        let p = and_parts (is_call of id) (slice_index_or out i false) b_is in
        let same : of ≡ id = same_call of id p.0 in
        subst (λ x. Past_it id (comes_back x i outcome past) past → Stepped id (result_on (now past) i outcome (slice_set out i false) live) (comes_back x i outcome past) past)
        (sym same) (λ n. result_out id i outcome out live past n h (sym (h.out_is i) ∙ p.1)) none
    by_own false b_is = result_apart id of i outcome out live past none h b_is

-- ---- each occurrence

pub moment_ends : (moment : ℕ) (d : Option ℕ) (outs : List (Option ℕ)) (e : CallEvent) (a n : ℕ) → due_by moment d outs ≡ Some e → decides a n e ≡ true
moment_ends moment d outs e a n h = ⊎_elim (λ own. rw own.0 refl) (λ branch. rw branch.1 refl) (expires moment d outs e h)

hang_ends : (b : Bool) (e : CallEvent) (a n : ℕ) → (if b then Some HungUp else None) ≡ Some e → decides a n e ≡ true
hang_ends b e a n is = grind (arith, nat_tests)

drain_ends : (e : CallEvent) (a n : ℕ) → Some Drained ≡ Some e → decides a n e ≡ true
drain_ends e a n is = grind (arith, nat_tests)

pub stepped : (id : CallId) (o : Occurrence) (out : List Bool) (live : Option Live) (past : Past) → Past_it id (mark_of past o) past
    → CallStands id (call_state out live) past → Stepped id (step (now past) id o (call_state out live)) (mark_of past o) past
stepped id Opening out live past none h = unresulted id Opening out live past (λ i. refl) refl refl (λ l s. refl) (λ l e x. absurd (cc)) none h
stepped id (Comes conn x) out live past none h =
    unresulted id (Comes conn x) out live past (λ i. refl) (and_false (counts (Comes conn x) past)) refl (λ l s. refl) (λ l e x. absurd (cc)) none h
stepped id (HangUp conn) out live past none h =
    unresulted id (HangUp conn) out live past (λ i. refl) refl refl (λ l s. refl) (λ l e x. hang_ends (conn == id.conn) e _ _ x) none h
stepped id (Moment t) out live past none h =
    unresulted id (Moment t) out live past (λ i. refl) refl refl
    (λ l s. ap (due_by (moment_after (now past) t) l.asked.deadline) (outs_are id l.asked out past s.call_is s.size_is h.out_is ∙ ap (deadlines_in out) (sym s.deadlines_are)))
    (λ l e x. moment_ends (moment_after (now past) t) l.asked.deadline (deadlines_in out l.deadlines) e _ _ x) none h
stepped id (Result of i outcome) out live past none h = resulted id of i outcome out live past none h
stepped id Drain out live past none h = unresulted id Drain out live past (λ i. refl) refl refl (λ l s. refl) (λ l e x. drain_ends e _ _ x) none h
stepped id (Closing conn) out live past none h = shutting id (Closing conn) conn out live past refl refl (λ i. refl) (λ c. refl) none h
stepped id (Break conn) out live past none h = shutting id (Break conn) conn out live past refl refl (λ i. refl) (λ c. refl) none h
