-- The record of a decided call is lawful, and decided.
use Rattle.std.specs.Prelude.{◌≡◌, ◌+◌, ◌<◌, ◌∷◌, ◌++◌, ◌&&◌, ◌||◌, ◌==◌, if◌then◌else◌}
use Rattle.gateway_theory.specs.lemmas.Names.{ℕ, Bool, true, false, List, [], length, Option, None, Some, refl, sym, ap, ◌∙◌, subst, arith, append_assoc, ⊎_elim, nat_tests, is_some, is_none, not, nat_lt, option_map, slice_index_or, option_or, cases_Bool, and_parts, lt-ltb, le-ltb, eq-eqb, ne_eqb, ltb-false, and_from as and_both, Outcome, Answer, Fail, Call as Calling, CallEvent, Failed, Expired, BranchExpired, CallId, Judged, Asks, CallRecord, answer_in, answer_of_branch, Occurrence, Opening, Comes, HangUp, Moment, Result, Drain, Closing, Coming, Request, Refused, Break, Mark, Past, ArrivedCall, call, answers, asked_now, began, branches, counts, decided, decides, event_by, is_answer_to, is_call, is_shut, is_due, branch_deadlines, can_be_decided, deadlines_out, is_out, is_result_of, mark_of, marked, now, own_event, started, came, call_entry, entry, entry_by, own_events, record_deadlines, record_of}
use Rattle.std.proofs.Common.{append-nil}
use Rattle.gateway_model.specs.declared.call_event.CallEvent.TheVariants.{Answer as Answered, HungUp, Drained}
use Rattle.gateway_model.specs.Record.{answers_among, is_out_after, may_come, may_follow, ends_at_start, is_lawful, is_ending, is_decided}
use Rattle.gateway_theory.specs.lemmas.LimitLemmas.{out_started, same_call, started_grows, unanswered, unanswered_next}
use Rattle.gateway_theory.specs.lemmas.PastLemmas.{call_stays, Unborn, unborn}
use Rattle.gateway_theory.specs.lemmas.Deadlines.{deadlines_same, expires, reached_out}
use Rattle.gateway_theory.specs.lemmas.Frame.{Past_it, call_same, started_same}
use Rattle.gateway_theory.specs.lemmas.GoingOn.{no_entering}
use Rattle.gateway_theory.specs.lemmas.StepLemmas.{deadlines_now, entering_at, started_live}
use Rattle.gateway_theory.specs.lemmas.StandsLemmas.{last_is}
use Rattle.gateway_theory.specs.lemmas.Cases.{and_false, or_true}

-- ---- lists of events

-- no event of these decides, behind those
abbrev pub none_decides : CallRecord → List CallEvent → List CallEvent → Bool
none_decides r before [] = true
none_decides r before (e ∷ es) = not (decides (answers_among before) (length r.plan.branches) e) && none_decides r (before ++ e ∷ []) es

is_last_more : (es : List CallEvent) (e : CallEvent) → (length (es ++ e ∷ []) == 0) ≡ false
is_last_more [] e = refl
is_last_more (x ∷ es) e = ne_eqb (length (x ∷ es ++ e ∷ [])) 0 (λ none. omega (arith, none))

follow_more : (r : CallRecord) (before es : List CallEvent) (e : CallEvent) → may_follow r before es ≡ true → none_decides r before es ≡ true
    → may_come r (before ++ es) e ≡ true → may_follow r before (es ++ e ∷ []) ≡ true
follow_more r before [] e f g c = grind (arith, nat_tests, append-nil)
follow_more r before (x ∷ es) e f g c =
    let fp = and_parts (may_come r before x && (length es == 0 || not (decides (answers_among before) (length r.plan.branches) x))) (may_follow r (before ++ x ∷ []) es) f in
    let fq = and_parts (may_come r before x) (length es == 0 || not (decides (answers_among before) (length r.plan.branches) x)) fp.0 in
    let gp = and_parts (not (decides (answers_among before) (length r.plan.branches) x)) (none_decides r (before ++ x ∷ []) es) g in
    let rest : may_follow r (before ++ x ∷ []) (es ++ e ∷ []) ≡ true =
    follow_more r (before ++ x ∷ []) es e fp.1 gp.1 (subst (λ xs. may_come r xs e ≡ true) (sym (append_assoc before (x ∷ []) es)) c) in
    rw (fq.0, is_last_more es e, gp.0) rest

on_more : (r : CallRecord) (before es : List CallEvent) (e : CallEvent) → none_decides r before es ≡ true
    → decides (answers_among (before ++ es)) (length r.plan.branches) e ≡ false → none_decides r before (es ++ e ∷ []) ≡ true
on_more r before [] e g d = grind (arith, nat_tests, append-nil)
on_more r before (x ∷ es) e g d =
    let gp = and_parts (not (decides (answers_among before) (length r.plan.branches) x)) (none_decides r (before ++ x ∷ []) es) g in
    rw gp.0 (on_more r (before ++ x ∷ []) es e gp.1
    (subst (λ xs. decides (answers_among xs) (length r.plan.branches) e ≡ false) (sym (append_assoc before (x ∷ []) es)) d))

-- the events of a record are not looked at for what may follow
pub same_follow : (a : ArrivedCall) (ds : List (Option ℕ)) (events before es : List CallEvent) → may_follow (record_of a ds events) before es ≡ may_follow (record_of a ds []) before es
same_follow a ds events before [] = refl
same_follow a ds events before (Answered i body ∷ es) =
    ap (λ b. (is_out_after (record_of a ds []) before i) && (length es == 0 || not (answers_among before + 1 == length a.plan.branches)) && b) (same_follow a ds events (before ++ Answered i body ∷ []) es)
same_follow a ds events before (Failed i error ∷ es) =
    ap (λ b. (is_out_after (record_of a ds []) before i) && (length es == 0 || not true) && b) (same_follow a ds events (before ++ Failed i error ∷ []) es)
same_follow a ds events before (Expired t ∷ es) =
    ap (λ b. (is_due t a.deadline) && (length es == 0 || not true) && b) (same_follow a ds events (before ++ Expired t ∷ []) es)
same_follow a ds events before (BranchExpired i t ∷ es) =
    ap (λ b. (is_out_after (record_of a ds []) before i && is_due t (slice_index_or ds i None)) && (length es == 0 || not true) && b) (same_follow a ds events (before ++ BranchExpired i t ∷ []) es)
same_follow a ds events before (HungUp ∷ es) = ap (λ b. true && (length es == 0 || not true) && b) (same_follow a ds events (before ++ HungUp ∷ []) es)
same_follow a ds events before (Drained ∷ es) = ap (λ b. true && (length es == 0 || not true) && b) (same_follow a ds events (before ++ Drained ∷ []) es)

pub among_more : (es : List CallEvent) (e : CallEvent) → answers_among (es ++ e ∷ []) ≡ answers_among es + answers_among (e ∷ [])
among_more [] e = omega arith
among_more (Answered i body ∷ es) e = omega (arith, among_more es e)
among_more (Failed i error ∷ es) e = among_more es e
among_more (Expired t ∷ es) e = among_more es e
among_more (BranchExpired i t ∷ es) e = among_more es e
among_more (HungUp ∷ es) e = among_more es e
among_more (Drained ∷ es) e = among_more es e

none_or : (x y : Option (List ℕ)) → is_none x ≡ true → is_none y ≡ true → is_none (option_or x y) ≡ true
none_or None y hx hy = hy
none_or (Some a) y hx hy = hx

-- a branch that had no answer has none by an event of another one
no_answer_more : (k : ℕ) (es : List CallEvent) (e : CallEvent) → is_none (answer_of_branch k es) ≡ true → is_none (answer_in k e) ≡ true
    → is_none (answer_of_branch k (es ++ e ∷ [])) ≡ true
no_answer_more k [] e h n = n
no_answer_more k (x ∷ es) e h n =
    let parts = none_parts (answer_of_branch k es) (answer_in k x) h in
    none_or (answer_of_branch k (es ++ e ∷ [])) (answer_in k x) (no_answer_more k es e parts.0 n) parts.1
  where
    none_parts : (x y : Option (List ℕ)) → is_none (option_or x y) ≡ true → (is_none x ≡ true) × (is_none y ≡ true)
    none_parts x y is = grind (arith, nat_tests)

other_answer : (k i : ℕ) (body : List ℕ) → (i ≡ k → ⊥) → is_none (answer_in k (Answered i body)) ≡ true
other_answer k i body ne = rw (ne_eqb i k ne) refl

-- ---- a call that goes on

abbrev blank : ArrivedCall → List (Option ℕ) → CallRecord
blank a ds = record_of a ds []

-- the events so far of a call that can be decided: all of them answers, so whatever deadlines its branches have
pub record Going (id : CallId) (a : ArrivedCall) (past : Past) : Type 0 where
  pub early : is_due a.start a.deadline ≡ false
  pub follow : (ds : List (Option ℕ)) → may_follow (blank a ds) [] (own_events id past) ≡ true
  pub on : (ds : List (Option ℕ)) → none_decides (blank a ds) [] (own_events id past) ≡ true
  pub counted : answers_among (own_events id past) ≡ answers id past
  pub outs : (i : ℕ) → is_out id i past ≡ true → is_none (answer_of_branch i (own_events id past)) ≡ true
  pub below : (i : ℕ) → nat_lt i (started id past) ≡ false → is_none (answer_of_branch i (own_events id past)) ≡ true

-- the events of a call that is decided
pub record Done (id : CallId) (a : ArrivedCall) (past : Past) : Type 0 where
  pub follow : may_follow (blank a (record_deadlines id past)) [] (own_events id past) ≡ true
  pub start : (not (is_due a.start a.deadline) || ends_at_start (own_events id past)) ≡ true
  pub ending : is_decided (record_of a (record_deadlines id past) (own_events id past)) ≡ true

pub record Lawful (id : CallId) (a : ArrivedCall) (past : Past) : Type 0 where
  pub going : decided id past ≡ None → is_shut id.conn past ≡ false → Going id a past
  pub done : (e : CallEvent) → decided id past ≡ Some e → Done id a past

-- what is known of a call that goes on, at one occurrence more
record Undecided (id : CallId) (a : ArrivedCall) (m : Mark) (past : Past) : Type 0 where
  call_is : call id past ≡ Some a
  undecided : decided id past ≡ None
  unshut : is_shut id.conn past ≡ false
  going : Going id a past

own_is : (id : CallId) (a : ArrivedCall) (m : Mark) (past : Past) → Undecided id a m past → own_event id m past ≡ event_by id a m.what m.counted past
own_is id a m past h = rw (h.unshut, h.call_is) refl

events_same : (id : CallId) (a : ArrivedCall) (m : Mark) (past : Past) → Undecided id a m past → own_event id m past ≡ None → own_events id (m ∷ past) ≡ own_events id past
events_same id a m past h own = rw (h.undecided, own) (append-nil (own_events id past))

decided_then : (id : CallId) (a : ArrivedCall) (m : Mark) (past : Past) (e : CallEvent) → Undecided id a m past → own_event id m past ≡ Some e
    → decided id (m ∷ past) ≡ (if decides (answers id past) (length a.plan.branches) e then Some e else None)
decided_then id a m past e h own = rw (h.undecided, own, h.call_is) refl

began_out : (id : CallId) (i : ℕ) (past : Past) → is_out id i past ≡ true → began id past ≡ true
began_out id i past out = grind (arith, nat_tests, out_started)

-- a branch that is out is so by the record
out_of_record : (id : CallId) (a : ArrivedCall) (m : Mark) (past : Past) (i : ℕ) → Undecided id a m past → is_out id i past ≡ true
    → is_out_after (blank a []) (own_events id past) i ≡ true
out_of_record id a m past i h out = grind (arith, nat_tests, out_started, started_live, began_out, and_both, lt-ltb)

-- nothing happens to it
goes_quiet : (id : CallId) (a : ArrivedCall) (m : Mark) (past : Past) → Undecided id a m past → own_event id m past ≡ None → (m.counted && is_answer_to id m.what) ≡ false
    → Lawful id a (m ∷ past)
goes_quiet id a m past h own none = grind (arith, nat_tests, events_same, le-ltb, ltb-false, started_grows, and_parts)

-- an event ends it
goes_ends : (id : CallId) (a : ArrivedCall) (m : Mark) (past : Past) (e : CallEvent) → Undecided id a m past → own_event id m past ≡ Some e
    → decides (answers id past) (length a.plan.branches) e ≡ true → may_come (blank a (record_deadlines id (m ∷ past))) (own_events id past) e ≡ true
    → is_ending (answers_among (own_events id past ++ e ∷ [])) (length a.plan.branches) e ≡ true → Lawful id a (m ∷ past)
goes_ends id a m past e h own dec come ends = search (arith, nat_tests, decided_then, follow_more, last_is)

-- an answer that leaves others open
none_decides_answered : (id : CallId) (a : ArrivedCall) (past : Past) (o : Occurrence) (i : ℕ) (body : List ℕ) → Undecided id a (mark_of past o) past
    → own_event id (mark_of past o) past ≡ Some (Answered i body) → is_out id i past ≡ true → (counts o past && is_answer_to id o) ≡ true
    → ((k : ℕ) → is_result_of id k o ≡ (i == k))
    → decides (answers id past) (length a.plan.branches) (Answered i body) ≡ false → Lawful id a (mark_of past o ∷ past)
none_decides_answered id a past o i body h own out_i one of_it dec = search (arith, nat_tests, decided_then, out_started, follow_more, out_of_record, on_more, among_more, le-ltb, ltb-false, started_grows, no_answer_more, other_answer, and_parts, eq-eqb)

-- ---- each occurrence

resulted : (id of : CallId) (a : ArrivedCall) (i : ℕ) (outcome : Outcome) (past : Past) → Undecided id a (mark_of past (Result of i outcome)) past
    → Lawful id a (mark_of past (Result of i outcome) ∷ past)
resulted id of a i outcome past h = by_count (counts (Result of i outcome) past && is_call of id) outcome refl h
  where
    no_answer : (o : Outcome) (counted : Bool) → (counted && is_call of id) ≡ false → (counted && is_answer_to id (Result of i o)) ≡ false
    no_answer o counted is = grind (arith, nat_tests)

    by_count : (b : Bool) (o : Outcome) → (counts (Result of i o) past && is_call of id) ≡ b → Undecided id a (mark_of past (Result of i o)) past
        → Lawful id a (mark_of past (Result of i o) ∷ past)
    by_count false o b_is h = grind (arith, nat_tests, goes_quiet, own_is, no_answer, and_parts, same_call, goes_ends, out_of_record, among_more, none_decides_answered)
    by_count true (Fail error) b_is h =
        let p = and_parts (counts (Result of i (Fail error)) past) (is_call of id) b_is in
        let same : of ≡ id = same_call of id p.1 in
        let out : is_out id i past ≡ true = subst (λ x. is_out x i past ≡ true) same (and_parts (is_out of i past) (can_be_decided of past) p.0).0 in
        goes_ends id a (mark_of past (Result of i (Fail error))) past (Failed i error) h
        (own_is id a (mark_of past (Result of i (Fail error))) past h ∙ rw b_is refl) refl
        (out_of_record id a (mark_of past (Result of i (Fail error))) past i h out) refl
    by_count true (Answer body) b_is h =
        let p = and_parts (counts (Result of i (Answer body)) past) (is_call of id) b_is in
        let same : of ≡ id = same_call of id p.1 in
        let out : is_out id i past ≡ true = subst (λ x. is_out x i past ≡ true) same (and_parts (is_out of i past) (can_be_decided of past) p.0).0 in
        let m : Mark = mark_of past (Result of i (Answer body)) in
        let own : own_event id m past ≡ Some (Answered i body) = own_is id a m past h ∙ rw b_is refl in
        ⊎_elim (λ (last : decides (answers id past) (length a.plan.branches) (Answered i body) ≡ true).
        goes_ends id a m past (Answered i body) h own last (out_of_record id a m past i h out)
        (let count : answers_among (own_events id past ++ Answered i body ∷ []) ≡ answers id past + 1 =
        among_more (own_events id past) (Answered i body) ∙ omega (arith, h.going.counted) in rw count last))
        (λ (more : decides (answers id past) (length a.plan.branches) (Answered i body) ≡ false).
        none_decides_answered id a past (Result of i (Answer body)) i body h own out b_is (λ k. rw p.1 refl) more)
        (cases_Bool (decides (answers id past) (length a.plan.branches) (Answered i body)))

-- a branch expires
branch_ends : (id : CallId) (a : ArrivedCall) (t k : ℕ) (past : Past) → Undecided id a (mark_of past (Moment t)) past
    → event_by id a (Moment t) false past ≡ Some (BranchExpired k (now (mark_of past (Moment t) ∷ past))) → k < length (deadlines_out id a.plan past)
    → is_due (now (mark_of past (Moment t) ∷ past)) (slice_index_or (deadlines_out id a.plan past) k None) ≡ true → Lawful id a (mark_of past (Moment t) ∷ past)
branch_ends id a t k past h event lt due =
    goes_ends id a m past (BranchExpired k moment) h (own_is id a m past h ∙ event) refl
    (and_both (is_out_after (blank a []) (own_events id past) k) (is_due moment (slice_index_or (record_deadlines id (m ∷ past)) k None))
    (out_of_record id a m past k h reached.0) (rw deadlines reached.1)) refl
  where
    m : Mark
    m = mark_of past (Moment t)

    moment : ℕ
    moment = now (m ∷ past)

    reached : (is_out id k past ≡ true) × (is_due moment (slice_index_or (branch_deadlines id past) k None) ≡ true)
    reached = reached_out id a past moment k h.call_is lt due

    none : Past_it id m past
    none = no_entering id (Moment t) past refl

    deadlines : record_deadlines id (m ∷ past) ≡ branch_deadlines id past
    deadlines = deadlines_now id m past h.undecided ∙ deadlines_same id m past (call_same id m past none) (started_same id m past none refl)

moved : (id : CallId) (a : ArrivedCall) (t : ℕ) (past : Past) → Undecided id a (mark_of past (Moment t)) past → Lawful id a (mark_of past (Moment t) ∷ past)
moved id a t past h = by_event (event_by id a (Moment t) false past) refl
  where
    m : Mark
    m = mark_of past (Moment t)

    by_event : (o : Option CallEvent) → event_by id a (Moment t) false past ≡ o → Lawful id a (m ∷ past)
    by_event None o_is = goes_quiet id a m past h (own_is id a m past h ∙ o_is) refl
    by_event (Some e) o_is = ⊎_elim
        (λ own. goes_ends id a m past (Expired (now (m ∷ past))) h (own_is id a m past h ∙ o_is ∙ ap Some own.0) refl own.1 refl)
        (λ branch. branch_ends id a t branch.0 past h (o_is ∙ ap Some branch.1) branch.2 branch.3)
        (expires (now (m ∷ past)) a.deadline (deadlines_out id a.plan past) e o_is)

hung : (id : CallId) (a : ArrivedCall) (conn : ℕ) (past : Past) → Undecided id a (mark_of past (HangUp conn)) past → Lawful id a (mark_of past (HangUp conn) ∷ past)
hung id a conn past h =
    let m : Mark = mark_of past (HangUp conn) in
    ⊎_elim (λ (its : (conn == id.conn) ≡ true). goes_ends id a m past HungUp h (own_is id a m past h ∙ rw its refl) refl refl refl)
    (λ (above : (conn == id.conn) ≡ false). goes_quiet id a m past h (own_is id a m past h ∙ rw above refl) refl)
    (cases_Bool (conn == id.conn))

opened_on : (id : CallId) (a : ArrivedCall) (o : Occurrence) (past : Past) → Undecided id a (mark_of past o) past → Lawful id a (mark_of past o ∷ past)
opened_on id a Opening past h = goes_quiet id a (mark_of past Opening) past h (own_is id a (mark_of past Opening) past h) refl
opened_on id a (Comes c x) past h =
    goes_quiet id a (mark_of past (Comes c x)) past h (own_is id a (mark_of past (Comes c x)) past h) (and_false (counts (Comes c x) past))
opened_on id a (HangUp conn) past h = hung id a conn past h
opened_on id a (Moment t) past h = moved id a t past h
opened_on id a (Result of i outcome) past h = resulted id of a i outcome past h
opened_on id a Drain past h = goes_ends id a (mark_of past Drain) past Drained h (own_is id a (mark_of past Drain) past h) refl refl refl
opened_on id a (Closing c) past h = goes_quiet id a (mark_of past (Closing c)) past h (own_is id a (mark_of past (Closing c)) past h) refl
opened_on id a (Break c) past h = goes_quiet id a (mark_of past (Break c)) past h (own_is id a (mark_of past (Break c)) past h) refl

-- ---- a call that arrives

pub record Arriving (id : CallId) (a : ArrivedCall) (os : List Occurrence) (m : Mark) : Type 0 where
  pub nothing : Unborn id (marked os)
  pub asked : asked_now id m (marked os) ≡ Some a

arrives_closed : (id : CallId) (a : ArrivedCall) (os : List Occurrence) (m : Mark) → Arriving id a os m → is_shut id.conn (marked os) ≡ true → Lawful id a (m ∷ marked os)
arrives_closed id a os m h shut = grind arith

arrives_open : (id : CallId) (a : ArrivedCall) (os : List Occurrence) (o : Occurrence) → Arriving id a os (mark_of (marked os) o) → is_shut id.conn (marked os) ≡ false
    → answers id (mark_of (marked os) o ∷ marked os) ≡ 0 → Lawful id a (mark_of (marked os) o ∷ marked os)
arrives_open id a os o h unshut none = search (arith, nat_tests, or_true)

-- ---- every list of what occurs

abbrev LawfulIf : CallId → List Occurrence → Type 0
LawfulIf id os = (a : ArrivedCall) → call id (marked os) ≡ Some a → Lawful id a (marked os)

-- a call that comes now had not come before
nothing_before : (id : CallId) (os : List Occurrence) (o : Occurrence) (a : ArrivedCall) → asked_now id (mark_of (marked os) o) (marked os) ≡ Some a → Unborn id (marked os)
nothing_before id os o a e = unborn id (marked os) (omega (arith, entering_at id (mark_of (marked os) o) (marked os) a e))

-- no answer of it has come either
none_answered : (id : CallId) (os : List Occurrence) (o : Occurrence) → Unborn id (marked os) → answers id (mark_of (marked os) o ∷ marked os) ≡ 0
none_answered id os o u = unanswered_next id (marked os) o u.not_begun (unanswered id os u.not_begun)

lawful_next : (id : CallId) (os : List Occurrence) (o : Occurrence) (a : ArrivedCall) → LawfulIf id os → call id (mark_of (marked os) o ∷ marked os) ≡ Some a
    → Lawful id a (mark_of (marked os) o ∷ marked os)
lawful_next id os o a before call_is = by_call (call id (marked os)) refl
  where
    past : Past
    past = marked os

    m : Mark
    m = mark_of past o

    decided_before : (b : ArrivedCall) → b ≡ a → call id past ≡ Some b → (e : CallEvent) → decided id past ≡ Some e → Lawful id b past → Lawful id a (m ∷ past)
    decided_before b same b_is e dec l =
        let d : Done id b past = l.done e dec in
        let events : own_events id (m ∷ past) ≡ own_events id past = rw dec refl in
        let deadlines : record_deadlines id (m ∷ past) ≡ record_deadlines id past = rw dec refl in
        subst (λ x. Lawful id x (m ∷ past)) same (record {
          going = λ none _. absurd (let some : decided id (m ∷ past) ≡ Some e = rw dec refl in let bad : Some e ≡ None = sym some ∙ none in cc);
          done = λ _ _. record { follow = rw (events, deadlines) d.follow; start = rw events d.start; ending = rw (events, deadlines) d.ending };
        })

    shut_before : (b : ArrivedCall) → b ≡ a → call id past ≡ Some b → decided id past ≡ None → is_shut id.conn past ≡ true → Lawful id a (m ∷ past)
    shut_before b is also last fact = grind (arith, nat_tests)

    called_before : (b : ArrivedCall) → call id past ≡ Some b → b ≡ a → Lawful id a (m ∷ past)
    called_before b b_is same = by_each (decided id past) (is_shut id.conn past) refl refl
      where
        by_each : (d : Option CallEvent) (shut : Bool) → decided id past ≡ d → is_shut id.conn past ≡ shut → Lawful id a (m ∷ past)
        by_each (Some e) shut d_is s_is = decided_before b same b_is e d_is (before b b_is)
        by_each None true d_is s_is = shut_before b same b_is d_is s_is
        by_each None false d_is s_is =
            subst (λ x. Lawful id x (m ∷ past)) same
            (opened_on id b o past (record { call_is = b_is; undecided = d_is; unshut = s_is; going = (before b b_is).going d_is s_is }))

    by_call : (c : Option ArrivedCall) → call id past ≡ c → Lawful id a (m ∷ past)
    by_call (Some b) c_is =
        called_before b c_is (let both : Some b ≡ Some a = sym (call_stays id m past b c_is) ∙ call_is in cc)
    by_call None c_is =
        let asked : asked_now id m past ≡ Some a = rw c_is at call_is in
        let h : Arriving id a os m = record { nothing = nothing_before id os o a asked; asked = asked } in
        ⊎_elim (λ (shut : is_shut id.conn past ≡ true). arrives_closed id a os m h shut)
        (λ (unshut : is_shut id.conn past ≡ false). arrives_open id a os o h unshut (none_answered id os o h.nothing))
        (cases_Bool (is_shut id.conn past))

pub lawful : (id : CallId) (os : List Occurrence) → LawfulIf id os
lawful id [] a e = absurd (cc)
lawful id (o ∷ os) a e = lawful_next id os o a (lawful id os) e

-- the record of an entry
pub entry_lawful : (id : CallId) (os : List Occurrence) (r : CallRecord) → entry id (marked os) ≡ Some (Calling r) → (is_lawful r ≡ true) × (is_decided r ≡ true)
entry_lawful id os r e = by_came (came id (marked os)) refl
  where
    past : Past
    past = marked os

    by_call : (d : Option CallEvent) (c : Option ArrivedCall) → decided id past ≡ d → call id past ≡ c
        → (if is_some d then option_map (λ a. Calling (record_of a (record_deadlines id past) (own_events id past))) c else None) ≡ Some (Calling r) → (is_lawful r ≡ true) × (is_decided r ≡ true)
    by_call None c d_is c_is x = absurd (cc)
    by_call (Some v) None d_is c_is x = absurd (cc)
    by_call (Some v) (Some a) d_is c_is x =
        let l : Done id a past = (lawful id os a c_is).done v d_is in
        let same : record_of a (record_deadlines id past) (own_events id past) ≡ r = cc in
        subst (λ z. (is_lawful z ≡ true) × (is_decided z ≡ true)) same
        (and_both _ _ (same_follow a (record_deadlines id past) (own_events id past) [] (own_events id past) ∙ l.follow) l.start, l.ending)

    by_came : (y : Option (Coming × Bool)) → came id past ≡ y → (is_lawful r ≡ true) × (is_decided r ≡ true)
    by_came None y_is = absurd (let bad : None ≡ Some (Calling r) = rw y_is at e in cc)
    by_came (Some (Refused q, crowded)) y_is = absurd (let bad : entry_by id past (Refused q, crowded) ≡ Some (Calling r) = rw y_is at e in cc)
    by_came (Some (Request q (Judged v), crowded)) y_is = absurd (let bad : entry_by id past (Request q (Judged v), crowded) ≡ Some (Calling r) = rw y_is at e in cc)
    by_came (Some (Request q (Asks plan timeout rid), true)) y_is =
        absurd (let bad : entry_by id past (Request q (Asks plan timeout rid), true) ≡ Some (Calling r) = rw y_is at e in cc)
    by_came (Some (Request q (Asks plan timeout rid), false)) y_is =
        by_call (decided id past) (call id past) refl refl (let x : call_entry id past ≡ Some (Calling r) = rw y_is at e in x)
