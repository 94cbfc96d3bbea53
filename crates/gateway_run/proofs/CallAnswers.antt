-- The answer to a call: all its answers joined, or the error of the event that decided it.
use Rattle.gateway_run.proofs.Names.{answers, ArrivedCall, Mark, Past, branches, call, count_below, counts, decided, decides, mark_of, marked, own_event, past_of, min, ◌≡◌, ℕ, zero, suc, ◌+◌, ◌≤◌, ◌<◌, Bool, true, false, List, [], ◌∷◌, ◌++◌, length, reverse, Option, None, Some, refl, sym, ap, ◌∙◌, subst, arith, append_assoc, ⊎_elim, ◌==◌, ◌&&◌, ◌||◌, not, nat_lt, if◌then◌else◌, is_none, is_some, option_and_then, option_map, option_to_list, option_or, option_map_or, and_parts, cases_eq, eq-eqb, eqb-true, ltb-true, reverse-reverse, CallId, Occurrence, Coming, answer_of, call_entry, came, entry, entry_by, own_events, record_deadlines, record_of, AllAnswered, AnswersCall, failed, joined, HasAnswered, IsAnswered, nat_tests}
use Rattle.gateway_model.specs.Occurrence.{Result}
use Rattle.gateway_model.specs.declared.call_event.CallEvent.{CallEvent}
use Rattle.connect_codec.specs.Reply.{error_reply}
use Rattle.connect_codec.specs.declared.answer.Outcome.TheVariants.{Answer}
use Rattle.gateway_model.specs.declared.entry.ReplyEntry.TheVariants.{Call as Calling}
use Rattle.gateway_model.specs.declared.call_event.CallEvent.TheVariants.{Answer as Answered, Failed, Expired, BranchExpired, HungUp, Drained}
use Rattle.gateway_model.specs.Branch.{branch_at}
use Rattle.gateway_model.specs.CallRecord.{CallRecord, answer_in, answer_of_branch, last_event}
use Rattle.gateway_model.specs.Errors.{branch_error, error_of}
use Rattle.gateway_model.specs.Decided.{IsDecidedAt}
use Rattle.gateway_theory.specs.Replies.{joined_reply}
use Rattle.gateway_model.specs.Record.{answers_among, is_decided, is_ending, is_lawful, may_come, may_follow}
use Rattle.gateway_model.specs.Reply.{reply_of}
use Rattle.gateway_theory.specs.lemmas.LimitLemmas.{count_most}
use Rattle.gateway_theory.specs.lemmas.RecordLemmas.{among_more as among_behind}
use Rattle.gateway_theory.specs.lemmas.StandsLemmas.{last_is as last_behind, answer_after as answer_behind}

-- ---- counts

-- where all are counted, each has the property
count_full : (n : ℕ) (p : ℕ → Bool) → n ≤ count_below n p → (i : ℕ) → i < n → p i ≡ true
count_full zero p le i lt = absurd (omega (arith, lt))
count_full (suc n) p le i lt = by_last (p n) refl le (λ below. count_full n p below i)
  where
    by_last : (b : Bool) → p n ≡ b → suc n ≤ (if b then suc (count_below n p) else count_below n p) → (n ≤ count_below n p → i < n → p i ≡ true) → p i ≡ true
    by_last false b_is le rest = absurd (omega (arith, le, count_most n p))
    by_last true b_is le rest = ⊎_elim (λ (here : i ≡ n). ap p here ∙ b_is) (λ (other : i ≡ n → ⊥). rest (omega (arith, le)) (omega (arith, lt, other))) (cases_eq i n)

count_grows : (n : ℕ) (p q : ℕ → Bool) → ((i : ℕ) → p i ≡ true → q i ≡ true) → count_below n p ≤ count_below n q
count_grows zero p q h = omega arith
count_grows (suc n) p q h = grind (arith, count_grows n p q h)

-- one more has it
count_more : (n i : ℕ) (p q : ℕ → Bool) → i < n → p i ≡ false → q i ≡ true → ((j : ℕ) → p j ≡ true → q j ≡ true) → suc (count_below n p) ≤ count_below n q
count_more zero i p q lt p_is q_is h = absurd (omega (arith, lt))
count_more (suc n) i p q lt p_is q_is h =
    ⊎_elim (λ (here : i ≡ n). by_last (p n) (q n) (ap p (sym here) ∙ p_is) (ap q (sym here) ∙ q_is) (count_grows n p q h))
    (λ (other : i ≡ n → ⊥). by_other (p n) (q n) refl refl (count_more n i p q (omega (arith, lt, other)) p_is q_is h)) (cases_eq i n)
  where
    by_last : (a b : Bool) → a ≡ false → b ≡ true → count_below n p ≤ count_below n q
        → suc (if a then suc (count_below n p) else count_below n p) ≤ (if b then suc (count_below n q) else count_below n q)
    by_last false true a_is b_is le = omega (arith, le)
    by_last true b a_is b_is le = absurd (cc)
    by_last false false a_is b_is le = absurd (cc)

    by_other : (a b : Bool) → p n ≡ a → q n ≡ b → suc (count_below n p) ≤ count_below n q
        → suc (if a then suc (count_below n p) else count_below n p) ≤ (if b then suc (count_below n q) else count_below n q)
    by_other true true a_is b_is le = omega (arith, le)
    by_other true false a_is b_is le = absurd (let clash : false ≡ true = sym b_is ∙ h n a_is in cc)
    by_other false true a_is b_is le = omega (arith, le)
    by_other false false a_is b_is le = le

-- ---- the answers among events

abbrev has_answer : List CallEvent → ℕ → Bool
has_answer es i = is_some (answer_of_branch i es)

some_or : {A : Type 0} (x y : Option A) → is_some y ≡ true → is_some (option_or x y) ≡ true
some_or None y e = e
some_or (Some a) y e = refl

-- what had an answer has one
still_has : (es : List CallEvent) (e : CallEvent) (j : ℕ) → has_answer es j ≡ true → has_answer (es ++ e ∷ []) j ≡ true
still_has es e j h = ap (λ o. is_some o) (answer_behind j es e) ∙ some_or (answer_in j e) (answer_of_branch j es) h

none_some : {A : Type 0} (x : Option A) → is_none x ≡ true → is_some x ≡ false
none_some None e = refl
none_some (Some a) e = absurd (cc)

-- there are as many answers as branches that have one, at most
abbrev Counted : ℕ → List CallEvent → Type 0
Counted n es = answers_among es ≤ count_below n (has_answer es)

counted_more : (r : CallRecord) (es : List CallEvent) (e : CallEvent) → may_come r es e ≡ true → Counted (length r.plan.branches) es → Counted (length r.plan.branches) (es ++ e ∷ [])
counted_more r es (Answered i body) come h =
    let n : ℕ = length r.plan.branches in
    let both = and_parts (nat_lt i (min (length r.plan.branches) (r.plan.limit + answers_among es))) (is_none (answer_of_branch i es)) come in
    let within : i < min (length r.plan.branches) (r.plan.limit + answers_among es) = ltb-true i (min (length r.plan.branches) (r.plan.limit + answers_among es)) both.0 in
    let here : has_answer (es ++ Answered i body ∷ []) i ≡ true =
    ap (λ o. is_some o) (answer_behind i es (Answered i body)) ∙ ap (λ b. is_some (option_or (if b then Some body else None) (answer_of_branch i es))) (eq-eqb i i refl) in
    let more : suc (count_below n (has_answer es)) ≤ count_below n (has_answer (es ++ Answered i body ∷ [])) =
    count_more n i (has_answer es) (has_answer (es ++ Answered i body ∷ [])) (omega (arith, within)) (none_some (answer_of_branch i es) both.1) here (still_has es (Answered i body)) in
    omega (arith, more, h, among_behind es (Answered i body))
counted_more r es (Failed i error) come h =
    omega (arith, h, among_behind es (Failed i error), count_grows (length r.plan.branches) (has_answer es) (has_answer (es ++ Failed i error ∷ [])) (still_has es (Failed i error)))
counted_more r es (Expired t) come h =
    omega (arith, h, among_behind es (Expired t), count_grows (length r.plan.branches) (has_answer es) (has_answer (es ++ Expired t ∷ [])) (still_has es (Expired t)))
counted_more r es (BranchExpired i t) come h =
    omega (arith, h, among_behind es (BranchExpired i t), count_grows (length r.plan.branches) (has_answer es) (has_answer (es ++ BranchExpired i t ∷ [])) (still_has es (BranchExpired i t)))
counted_more r es HungUp come h =
    omega (arith, h, among_behind es HungUp, count_grows (length r.plan.branches) (has_answer es) (has_answer (es ++ HungUp ∷ [])) (still_has es HungUp))
counted_more r es Drained come h =
    omega (arith, h, among_behind es Drained, count_grows (length r.plan.branches) (has_answer es) (has_answer (es ++ Drained ∷ [])) (still_has es Drained))

counted_all : (r : CallRecord) (before es : List CallEvent) → may_follow r before es ≡ true → Counted (length r.plan.branches) before → Counted (length r.plan.branches) (before ++ es)
counted_all r before [] follow h = subst (λ xs. Counted (length r.plan.branches) xs) (sym (append_nil' before)) h
  where
    append_nil' : (xs : List CallEvent) → xs ++ [] ≡ xs
    append_nil' [] = refl
    append_nil' (x ∷ xs) = ap (λ ys. x ∷ ys) (append_nil' xs)
counted_all r before (e ∷ es) follow h =
    let outer = and_parts (may_come r before e && (length es == 0 || not (decides (answers_among before) (length r.plan.branches) e))) (may_follow r (before ++ e ∷ []) es) follow in
    let inner = and_parts (may_come r before e) (length es == 0 || not (decides (answers_among before) (length r.plan.branches) e)) outer.0 in
    subst (λ xs. Counted (length r.plan.branches) xs) (append_assoc before (e ∷ []) es)
    (counted_all r (before ++ e ∷ []) es outer.1 (counted_more r before e inner.0 h))

-- a call that an answer decided has all its answers
all_answered : (r : CallRecord) (i : ℕ) (body : List ℕ) → is_lawful r ≡ true → is_decided r ≡ true → last_event r.events ≡ Some (Answered i body) → AllAnswered r
all_answered r i body lawful decided_is last =
    let n : ℕ = length r.plan.branches in
    let count : (answers_among r.events == n) ≡ true =
    sym (ap (λ o. option_map_or (is_ending (answers_among r.events) n) o false) last) ∙ decided_is in
    let follow : may_follow r [] r.events ≡ true = (and_parts (may_follow r [] r.events) _ lawful).0 in
    let all : answers_among r.events ≤ count_below n (has_answer r.events) = counted_all r [] r.events follow (omega arith) in
    count_full n (has_answer r.events) (let same : answers_among r.events ≡ n = eqb-true (answers_among r.events) n count in omega (arith, all, same))

-- ---- the reply

abbrev bytes_by : CallRecord → Option CallEvent → List ℕ
bytes_by r o =
    (option_map_or (λ error. reply_of (error_reply error r.last) r.last) (option_and_then (error_of r.plan) o) (reply_of (joined_reply r.plan r.events r.last) r.last)).bytes

answers_call : (r : CallRecord) (e : CallEvent) → is_lawful r ≡ true → is_decided r ≡ true → last_event r.events ≡ Some e → AnswersCall r e (answer_of (Calling r)).bytes
answers_call r (Answered i body) lawful decided_is last = joined refl (all_answered r i body lawful decided_is last) (ap (bytes_by r) last)
answers_call r (Failed i error) lawful decided_is last = failed (branch_error (branch_at r.plan i).name error) refl (ap (bytes_by r) last)
answers_call r (Expired t) lawful decided_is last = failed _ refl (ap (bytes_by r) last)
answers_call r (BranchExpired i t) lawful decided_is last = failed _ refl (ap (bytes_by r) last)
answers_call r HungUp lawful decided_is last = failed _ refl (ap (bytes_by r) last)
answers_call r Drained lawful decided_is last = failed _ refl (ap (bytes_by r) last)

-- ---- the last event is the one that decided

last_own : (id : CallId) (past : Past) (e : CallEvent) → decided id past ≡ Some e → last_event (own_events id past) ≡ Some e
last_own id [] e d = absurd (cc)
last_own id (m ∷ past) e d = by_decided (decided id past) (own_event id m past) (last_own id past e) d
  where
    by_test : (x : CallEvent) (b : Bool) → (if b then Some x else None) ≡ Some e → last_event (own_events id past ++ x ∷ []) ≡ Some e
    by_test x true d = last_behind (own_events id past) x ∙ d
    by_test x false d = absurd (cc)

    by_decided : (o own : Option CallEvent) → (o ≡ Some e → last_event (own_events id past) ≡ Some e)
        → option_or o (option_and_then (λ x. if decides (answers id past) (branches id past) x then Some x else None) own) ≡ Some e
        → last_event (if is_some o then own_events id past else own_events id past ++ option_to_list own) ≡ Some e
    by_decided (Some x) own before d = before d
    by_decided None None before d = absurd (cc)
    by_decided None (Some x) before d = by_test x (decides (answers id past) (branches id past) x) d

-- ---- the call of an entry

called : (id : CallId) (past : Past) (r : CallRecord) (o : Option (Coming × Bool)) → option_and_then (entry_by id past) o ≡ Some (Calling r) → call_entry id past ≡ Some (Calling r)
called id past r o h4 = grind (arith, nat_tests)

record IsOf (r : CallRecord) (d : Option CallEvent) (c : Option ArrivedCall) (ds : List (Option ℕ)) (es : List CallEvent) : Type 0 where
  asked : ArrivedCall
  call_is : c ≡ Some asked
  record_is : r ≡ record_of asked ds es
  event : CallEvent
  decided_is : d ≡ Some event

is_of : (r : CallRecord) (d : Option CallEvent) (c : Option ArrivedCall) (ds : List (Option ℕ)) (es : List CallEvent)
    → (if is_some d then option_map (λ a. Calling (record_of a ds es)) c else None) ≡ Some (Calling r) → IsOf r d c ds es
is_of r d c ds es h5 = grind (arith, nat_tests)

-- what is known of the definitions
pub record CallLaws : Type 0 where
  pub found : (occurred : List Occurrence) (id : CallId) (e : CallEvent) → decided id (past_of occurred) ≡ Some e
      → (t : ℕ) × (t < length occurred) × IsDecidedAt id occurred t e
  pub lawful : (id : CallId) (occurred : List Occurrence) (r : CallRecord) → entry id (marked occurred) ≡ Some (Calling r)
      → (is_lawful r ≡ true) × (is_decided r ≡ true)

pub is_answered : (laws : CallLaws) (id : CallId) (os : List Occurrence) (r : CallRecord) → entry id (marked os) ≡ Some (Calling r) → IsAnswered id r os
is_answered laws id os r e =
    let past : Past = marked os in
    let it : IsOf r (decided id past) (call id past) (record_deadlines id past) (own_events id past) =
    is_of r (decided id past) (call id past) (record_deadlines id past) (own_events id past) (called id past r (came id past) e) in
    let place = laws.found (reverse os) id it.event (subst (λ xs. decided id (marked xs) ≡ Some it.event) (sym (reverse-reverse os)) it.decided_is) in
    let last : last_event r.events ≡ Some it.event = ap (λ (x : CallRecord). last_event x.events) it.record_is ∙ last_own id past it.event it.decided_is in
    let both = laws.lawful id os r e in
    record {
      asked = it.asked;
      call_is = it.call_is;
      record_is = it.record_is;
      place = place.0;
      event = it.event;
      first = place.2;
      last_is = last;
      answer = answers_call r it.event both.0 both.1 last;
    }

-- ---- where answers come from

own_answer : (id : CallId) (m : Mark) (past : Past) (i : ℕ) (body : List ℕ) → own_event id m past ≡ Some (Answered i body)
    → (m.what ≡ Result id i (Answer body)) × (m.counted ≡ true)
own_answer id m past i body e = search arith

answer_is : (i : ℕ) (e : CallEvent) (body : List ℕ) → answer_in i e ≡ Some body → e ≡ Answered i body
answer_is i e body h3 = grind (arith, nat_tests)

one_later : (id : CallId) (i : ℕ) (body : List ℕ) (o : Occurrence) (os : List Occurrence) → HasAnswered id i body os → HasAnswered id i body (o ∷ os)
one_later id i body o os h = record { later = o ∷ h.later; before = h.before; occurred_is = ap (λ xs. o ∷ xs) h.occurred_is; counted = h.counted }

-- the answer of a branch is that of a result of it that counted
pub has_answered : (id : CallId) (i : ℕ) (body : List ℕ) (os : List Occurrence) → answer_of_branch i (own_events id (marked os)) ≡ Some body → HasAnswered id i body os
has_answered id i body [] e = absurd (cc)
has_answered id i body (o ∷ os) e = by_decided (is_some (decided id (marked os))) (own_event id (mark_of (marked os) o) (marked os)) refl e (λ h. one_later id i body o os (has_answered id i body os h))
  where
    here : own_event id (mark_of (marked os) o) (marked os) ≡ Some (Answered i body) → HasAnswered id i body (o ∷ os)
    here own =
        let both = own_answer id (mark_of (marked os) o) (marked os) i body own in
        record {
          later = [];
          before = os;
          occurred_is = ap (λ x. x ∷ os) both.0;
          counted = ap (λ x. counts x (marked os)) (sym both.0) ∙ both.1;
        }

    by_answer : (x : CallEvent) → own_event id (mark_of (marked os) o) (marked os) ≡ Some x → (a : Option (List ℕ)) → answer_in i x ≡ a
        → option_or a (answer_of_branch i (own_events id (marked os))) ≡ Some body
        → (answer_of_branch i (own_events id (marked os)) ≡ Some body → HasAnswered id i body (o ∷ os)) → HasAnswered id i body (o ∷ os)
    by_answer x own None a_is e before = before e
    by_answer x own (Some b) a_is e before = here (own ∙ ap (λ y. Some y) (answer_is i x body (a_is ∙ e)))

    by_decided : (d : Bool) (own : Option CallEvent) → own_event id (mark_of (marked os) o) (marked os) ≡ own
        → answer_of_branch i (if d then own_events id (marked os) else own_events id (marked os) ++ option_to_list own) ≡ Some body
        → (answer_of_branch i (own_events id (marked os)) ≡ Some body → HasAnswered id i body (o ∷ os)) → HasAnswered id i body (o ∷ os)
    by_decided true own own_is e before = before e
    by_decided false None own_is e before = before (ap (answer_of_branch i) (sym (append_nil' (own_events id (marked os)))) ∙ e)
      where
        append_nil' : (xs : List CallEvent) → xs ++ [] ≡ xs
        append_nil' [] = refl
        append_nil' (x ∷ xs) = ap (λ ys. x ∷ ys) (append_nil' xs)
    by_decided false (Some x) own_is e before = by_answer x own_is (answer_in i x) refl (sym (answer_behind i (own_events id (marked os)) x) ∙ e) before
