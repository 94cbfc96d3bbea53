-- What is known of a connection is by what is visible to it.
use Rattle.std.specs.Prelude.{◌≡◌, ◌<◌, ◌+◌, ◌-◌, ◌∷◌, ◌++◌, ◌==◌, ◌&&◌, ◌||◌, if◌then◌else◌}
use Rattle.gateway_theory.specs.lemmas.Names.{ℕ, zero, suc, min, max, Bool, true, false, List, [], length, map, Option, None, Some, refl, sym, ap, ◌∙◌, subst, arith, nat_tests, filter, not, nat_lt, is_none, is_some, option_and_then, option_map, option_or, option_map_or, range_with_len, eqb-true, append-nil, filter-append, PlanRecord, CallEvent, Expired, Occurrence, Opening, Comes, HangUp, Moment, Result, Drain, Closing, Break, is_visible, own, without_breaks, ArrivedCall, Mark, Past, answers, arrivals, asked_by, asked_now, began, branch_deadlines, branches, breaks, call, call_id, coming_now, coming_on, counts, crowds, deadline_from, deadlines_out, decided, decides, event_by, how_seen, is_answer_to, is_broken, is_drain, is_drained, is_due, is_out, is_result_of, is_shut, mark_of, marked, moment_of, now, own_event, shuts, started, started_when, undecided_calls, is_of, JobValue, job_of, jobs, jobs_by, jobs_started, came, entry, own_events, queued_entries, record_deadlines}
use Rattle.gateway_model.specs.declared.call_event.CallEvent.TheVariants.{Drained}
use Rattle.gateway_theory.specs.lemmas.Cases.{and_false, and_true, or_false, or_none}
use Rattle.gateway_theory.specs.lemmas.Frame.{not_started}
use Rattle.gateway_theory.specs.lemmas.LimitLemmas.{out_started}
use Rattle.gateway_theory.specs.lemmas.StandsLemmas.{none_by}

-- ---- functions that agree

map_or_same : {A B : Type 0} (f g : A → B) (o : Option A) (d : B) → ((a : A) → f a ≡ g a) → option_map_or f o d ≡ option_map_or g o d
map_or_same f g None d h = refl
map_or_same f g (Some a) d h = h a

pub map_range : {A : Type 0} (f g : ℕ → A) (from n : ℕ) → ((i : ℕ) → i < from + n → f i ≡ g i) → map f (range_with_len from n) ≡ map g (range_with_len from n)
map_range f g from zero h = refl
map_range f g from (suc n) h =
    ap (λ x. x ∷ map f (range_with_len (from + 1) n)) (h from (omega arith)) ∙ ap (λ xs. g from ∷ xs) (map_range f g (from + 1) n (λ i lt. h i (omega (arith, lt))))

below : (i n : ℕ) → i < n → nat_lt i n ≡ true
below i n lt = grind (arith, lt)

-- ---- two pasts that are alike to a connection

pub record Alike (c : ℕ) (p q : Past) : Type 0 where
  pub now_is : now p ≡ now q
  pub drained_is : is_drained p ≡ is_drained q
  pub shut_is : is_shut c p ≡ is_shut c q
  pub broken_is : is_broken c p ≡ is_broken c q
  pub arrivals_are : arrivals c p ≡ arrivals c q
  pub call_is : (k : ℕ) → call (call_id c k) p ≡ call (call_id c k) q
  pub began_is : (k : ℕ) → began (call_id c k) p ≡ began (call_id c k) q
  pub answers_are : (k : ℕ) → answers (call_id c k) p ≡ answers (call_id c k) q
  pub out_is : (k i : ℕ) → is_out (call_id c k) i p ≡ is_out (call_id c k) i q
  pub when_is : (k i : ℕ) → nat_lt i (started (call_id c k) p) ≡ true → started_when (call_id c k) i p ≡ started_when (call_id c k) i q
  pub decided_is : (k : ℕ) → decided (call_id c k) p ≡ decided (call_id c k) q
  pub events_are : (k : ℕ) → own_events (call_id c k) p ≡ own_events (call_id c k) q
  pub deadlines_are : (k : ℕ) → record_deadlines (call_id c k) p ≡ record_deadlines (call_id c k) q
  pub came_is : (k : ℕ) → came (call_id c k) p ≡ came (call_id c k) q

-- what has started, by what it is made of
abbrev started_by : Bool → Option ArrivedCall → ℕ → ℕ
started_by b o a = if b then option_map_or (λ (x : ArrivedCall). min (length x.plan.branches) (x.plan.limit + a)) o 0 else 0

started_like : (b d : Bool) (o u : Option ArrivedCall) (a e : ℕ) → b ≡ d → o ≡ u → a ≡ e → started_by b o a ≡ started_by d u e
started_like b d o u a e x y z = ap (λ t. started_by t o a) x ∙ ap (λ t. started_by d t a) y ∙ ap (started_by d u) z

few_same : (c : ℕ) (p q : Past) → Alike c p q → undecided_calls c p ≡ undecided_calls c q
few_same c p q h = grind arith

seen_same : (c : ℕ) (p q : Past) → Alike c p q → (k i : ℕ) → how_seen (call_id c k) i p ≡ how_seen (call_id c k) i q
seen_same c p q h k i = grind arith

-- ---- marks

counts_same : (c : ℕ) (p q : Past) → Alike c p q → (o : Occurrence) → is_visible c o ≡ true → counts o p ≡ counts o q
counts_same c p q h (Result id i outcome) v =
    subst (λ (n : ℕ). (is_out (call_id n id.request) i p && (is_none (decided (call_id n id.request) p) && not (is_shut n p)))
    ≡ (is_out (call_id n id.request) i q && (is_none (decided (call_id n id.request) q) && not (is_shut n q)))) (sym (eqb-true id.conn c v))
    (both (is_out (call_id c id.request) i p) (is_out (call_id c id.request) i q) (decided (call_id c id.request) p) (decided (call_id c id.request) q) (is_shut c p) (is_shut c q)
    (h.out_is id.request i) (h.decided_is id.request) h.shut_is)
  where
    both : (a b : Bool) (d e : Option CallEvent) (s t : Bool) → a ≡ b → d ≡ e → s ≡ t → (a && (is_none d && not s)) ≡ (b && (is_none e && not t))
    both a b d e s t x y z = ap (λ u. u && (is_none d && not s)) x ∙ ap (λ u. b && (is_none u && not s)) y ∙ ap (λ u. b && (is_none e && not u)) z
counts_same c p q h Opening v = refl
counts_same c p q h (Comes d x) v = refl
counts_same c p q h (HangUp d) v = refl
counts_same c p q h (Moment m) v = refl
counts_same c p q h Drain v = refl
counts_same c p q h (Closing d) v = refl
counts_same c p q h (Break d) v = refl

crowds_same : (c : ℕ) (p q : Past) → Alike c p q → (o : Occurrence) → is_visible c o ≡ true → crowds o p ≡ crowds o q
crowds_same c p q fact o is = grind (arith, nat_tests, eqb-true, few_same)

abbrev mark : Occurrence → Bool → Bool → Mark
mark o counted crowded = record { what = o; counted = counted; crowded = crowded }

mark_same : (c : ℕ) (p q : Past) → Alike c p q → (o : Occurrence) → is_visible c o ≡ true → mark_of p o ≡ mark_of q o
mark_same c p q h o v = ap (λ b. mark o b (crowds o p)) (counts_same c p q h o v) ∙ ap (λ b. mark o (counts o q) b) (crowds_same c p q h o v)

-- ---- the same mark more

asked_same : (c : ℕ) (p q : Past) → Alike c p q → (k : ℕ) (m : Mark) → asked_now (call_id c k) m p ≡ asked_now (call_id c k) m q
asked_same c p q h k m = cc

abbrev ends_by : Bool → ℕ → ArrivedCall → Option CallEvent
ends_by drained moment a = if drained then Some Drained else (if is_due moment a.deadline then Some (Expired moment) else None)

abbrev began_by : Bool → Bool → ℕ → Option ArrivedCall → Bool
began_by b drained moment o = b || option_map_or (λ (a : ArrivedCall). is_none (ends_by drained moment a)) o false

began_same : (c : ℕ) (p q : Past) → Alike c p q → (k : ℕ) (m : Mark) → began (call_id c k) (m ∷ p) ≡ began (call_id c k) (m ∷ q)
began_same c p q h k m = grind arith

call_same : (c : ℕ) (p q : Past) → Alike c p q → (k : ℕ) (m : Mark) → call (call_id c k) (m ∷ p) ≡ call (call_id c k) (m ∷ q)
call_same c p q h k m = ap (λ o. option_or o (asked_now (call_id c k) m p)) (h.call_is k) ∙ ap (λ o. option_or (call (call_id c k) q) o) (asked_same c p q h k m)

answers_same : (c : ℕ) (p q : Past) → Alike c p q → (k : ℕ) (m : Mark) → answers (call_id c k) (m ∷ p) ≡ answers (call_id c k) (m ∷ q)
answers_same c p q h k m = ap (λ n. if m.counted && is_answer_to (call_id c k) m.what then suc n else n) (h.answers_are k)

started_then : (c : ℕ) (p q : Past) → Alike c p q → (k : ℕ) (m : Mark) → started (call_id c k) (m ∷ p) ≡ started (call_id c k) (m ∷ q)
started_then c p q h k m = started_like (began (call_id c k) (m ∷ p)) (began (call_id c k) (m ∷ q)) (call (call_id c k) (m ∷ p)) (call (call_id c k) (m ∷ q)) (answers (call_id c k) (m ∷ p)) (answers (call_id c k) (m ∷ q))
    (began_same c p q h k m) (call_same c p q h k m) (answers_same c p q h k m)

out_same : (c : ℕ) (p q : Past) → Alike c p q → (k i : ℕ) (m : Mark) → is_out (call_id c k) i (m ∷ p) ≡ is_out (call_id c k) i (m ∷ q)
out_same c p q h k i m = search arith

when_same : (c : ℕ) (p q : Past) → Alike c p q → (k i : ℕ) (m : Mark) → started_when (call_id c k) i (m ∷ p) ≡ started_when (call_id c k) i (m ∷ q)
when_same c p q h k i m = grind arith

outs_same : (c : ℕ) (p q : Past) → Alike c p q → (k : ℕ) (plan : PlanRecord) → deadlines_out (call_id c k) plan p ≡ deadlines_out (call_id c k) plan q
outs_same c p q h k plan = grind (arith, nat_tests, map_range, below, out_started)

event_same : (c : ℕ) (p q : Past) → Alike c p q → (k : ℕ) (a : ArrivedCall) (o : Occurrence) (counted : Bool) → event_by (call_id c k) a o counted p ≡ event_by (call_id c k) a o counted q
event_same c p q fact k a o counted = grind (arith, nat_tests, outs_same)

event_now : (c : ℕ) (p q : Past) → Alike c p q → (k : ℕ) (m : Mark) → own_event (call_id c k) m p ≡ own_event (call_id c k) m q
event_now c p q h k m = grind (arith, nat_tests, asked_same, map_or_same, event_same)

abbrev deciding_by : ℕ → ℕ → Option CallEvent → Option CallEvent
deciding_by answered n o = option_and_then (λ e. if decides answered n e then Some e else None) o

decided_same : (c : ℕ) (p q : Past) → Alike c p q → (k : ℕ) (m : Mark) → decided (call_id c k) (m ∷ p) ≡ decided (call_id c k) (m ∷ q)
decided_same c p q h k m = search (arith, nat_tests, event_now)

events_same : (c : ℕ) (p q : Past) → Alike c p q → (k : ℕ) (m : Mark) → own_events (call_id c k) (m ∷ p) ≡ own_events (call_id c k) (m ∷ q)
events_same c p q h k m = grind (arith, nat_tests, event_now)

abbrev deadlines_by : (ℕ → ℕ) → ℕ → ArrivedCall → List (Option ℕ)
deadlines_by when n a = map (λ i. deadline_from (when i) a.plan i) (range_with_len 0 n)

all_deadlines : (c : ℕ) (p q : Past) → Alike c p q → (k : ℕ) (m : Mark) → branch_deadlines (call_id c k) (m ∷ p) ≡ branch_deadlines (call_id c k) (m ∷ q)
all_deadlines c p q h k m =
    ap (λ o. option_map_or (deadlines_by (λ i. started_when (call_id c k) i (m ∷ p)) (started (call_id c k) (m ∷ p))) o []) (call_same c p q h k m)
    ∙ ap (λ n. option_map_or (deadlines_by (λ i. started_when (call_id c k) i (m ∷ p)) n) (call (call_id c k) (m ∷ q)) []) (started_then c p q h k m)
    ∙ map_or_same (deadlines_by (λ i. started_when (call_id c k) i (m ∷ p)) (started (call_id c k) (m ∷ q))) (deadlines_by (λ i. started_when (call_id c k) i (m ∷ q)) (started (call_id c k) (m ∷ q)))
    (call (call_id c k) (m ∷ q)) []
    (λ a. map_range (λ i. deadline_from (started_when (call_id c k) i (m ∷ p)) a.plan i) (λ i. deadline_from (started_when (call_id c k) i (m ∷ q)) a.plan i) 0 (started (call_id c k) (m ∷ q))
    (λ i lt. ap (λ w. deadline_from w a.plan i) (when_same c p q h k i m)))

deadlines_same : (c : ℕ) (p q : Past) → Alike c p q → (k : ℕ) (m : Mark) → record_deadlines (call_id c k) (m ∷ p) ≡ record_deadlines (call_id c k) (m ∷ q)
deadlines_same c p q h k m = grind (arith, nat_tests, all_deadlines)

same_more : (c : ℕ) (p q : Past) (m : Mark) → Alike c p q → Alike c (m ∷ p) (m ∷ q)
same_more c p q m h = record {
  now_is = λ i. max (h.now_is i) (moment_of m.what);
  drained_is = λ i. is_drain m.what || h.drained_is i;
  shut_is = λ i. shuts c m.what || h.shut_is i;
  broken_is = λ i. breaks c m.what || h.broken_is i;
  arrivals_are = λ i. if is_some (coming_on c m.what (h.broken_is i)) then suc (h.arrivals_are i) else h.arrivals_are i;
  call_is = λ k. call_same c p q h k m;
  began_is = λ k. began_same c p q h k m;
  answers_are = λ k. answers_same c p q h k m;
  out_is = λ k i. out_same c p q h k i m;
  when_is = λ k i lt. when_same c p q h k i m;
  decided_is = λ k. decided_same c p q h k m;
  events_are = λ k. events_same c p q h k m;
  deadlines_are = λ k. deadlines_same c p q h k m;
  came_is = λ k i. option_or (h.came_is k i) (option_map (λ x. (x, m.crowded)) (if h.arrivals_are i == k then coming_on c m.what (h.broken_is i) else None));
}

-- ---- a mark more that is not visible

record Quiet (c : ℕ) (o : Occurrence) : Type 0 where
  moment_is : moment_of o ≡ 0
  no_drain : is_drain o ≡ false
  no_shut : shuts c o ≡ false
  no_break : breaks c o ≡ false
  none_comes : (b : Bool) → coming_on c o b ≡ None
  no_answer : (k : ℕ) → is_answer_to (call_id c k) o ≡ false
  no_result : (k i : ℕ) → is_result_of (call_id c k) i o ≡ false
  no_event : (k : ℕ) (a : ArrivedCall) (counted : Bool) (past : Past) → event_by (call_id c k) a o counted past ≡ None

quiet_of : (c : ℕ) (o : Occurrence) → is_visible c o ≡ false → Quiet c o
quiet_of c o is = grind (arith, nat_tests)

max_zero : (n m : ℕ) → m ≡ 0 → max n m ≡ n
max_zero n m e = grind (arith, e)

pub none_if : {A : Type 0} (b : Bool) (o : Option A) → o ≡ None → (if b then o else None) ≡ None
none_if true o e = e
none_if false o e = refl

quiet_coming : (c k : ℕ) (p : Past) (m : Mark) → Quiet c m.what → coming_now (call_id c k) m p ≡ None
quiet_coming c k p m u = none_if (arrivals c p == k) (coming_on c m.what (is_broken c p)) (u.none_comes (is_broken c p))

none_or : (b : Bool) (o : Option ArrivedCall) → o ≡ None → (if b then None else o) ≡ None
none_or true o e = refl
none_or false o e = e

quiet_asked : (c k : ℕ) (p : Past) (m : Mark) → Quiet c m.what → asked_now (call_id c k) m p ≡ None
quiet_asked c k p m u = none_or m.crowded (option_and_then (asked_by (now p)) (coming_now (call_id c k) m p)) (ap (λ o. option_and_then (asked_by (now p)) o) (quiet_coming c k p m u))

quiet_call : (c k : ℕ) (p : Past) (m : Mark) → Quiet c m.what → call (call_id c k) (m ∷ p) ≡ call (call_id c k) p
quiet_call c k p m u = ap (λ o. option_or (call (call_id c k) p) o) (quiet_asked c k p m u) ∙ or_none (call (call_id c k) p)

quiet_began : (c k : ℕ) (p : Past) (m : Mark) → Quiet c m.what → began (call_id c k) (m ∷ p) ≡ began (call_id c k) p
quiet_began c k p m u = ap (λ o. began_by (began (call_id c k) p) (is_drained p) (now p) o) (quiet_asked c k p m u) ∙ or_false (began (call_id c k) p)

quiet_answers : (c k : ℕ) (p : Past) (m : Mark) → Quiet c m.what → answers (call_id c k) (m ∷ p) ≡ answers (call_id c k) p
quiet_answers c k p m u = ap (λ b. if m.counted && b then suc (answers (call_id c k) p) else answers (call_id c k) p) (u.no_answer k)
    ∙ ap (λ b. if b then suc (answers (call_id c k) p) else answers (call_id c k) p) (and_false m.counted)

quiet_started : (c k : ℕ) (p : Past) (m : Mark) → Quiet c m.what → started (call_id c k) (m ∷ p) ≡ started (call_id c k) p
quiet_started c k p m u = started_like (began (call_id c k) (m ∷ p)) (began (call_id c k) p) (call (call_id c k) (m ∷ p)) (call (call_id c k) p) (answers (call_id c k) (m ∷ p)) (answers (call_id c k) p)
    (quiet_began c k p m u) (quiet_call c k p m u) (quiet_answers c k p m u)

quiet_out : (c k i : ℕ) (p : Past) (m : Mark) → Quiet c m.what → is_out (call_id c k) i (m ∷ p) ≡ is_out (call_id c k) i p
quiet_out c k i p m u = grind (arith, nat_tests, quiet_started, and_true, not_started)

quiet_event : (c k : ℕ) (p : Past) (m : Mark) → Quiet c m.what → own_event (call_id c k) m p ≡ None
quiet_event c k p m u = grind arith

quiet_decided : (c k : ℕ) (p : Past) (m : Mark) → Quiet c m.what → decided (call_id c k) (m ∷ p) ≡ decided (call_id c k) p
quiet_decided c k p m u = ap (λ e. option_or (decided (call_id c k) p) (deciding_by (answers (call_id c k) p) (branches (call_id c k) p) e)) (quiet_event c k p m u) ∙ or_none (decided (call_id c k) p)

quiet_events : (c k : ℕ) (p : Past) (m : Mark) → Quiet c m.what → own_events (call_id c k) (m ∷ p) ≡ own_events (call_id c k) p
quiet_events c k p m u = grind (arith, nat_tests, quiet_event, append-nil)

quiet_all : (c k : ℕ) (p : Past) (m : Mark) → Quiet c m.what → branch_deadlines (call_id c k) (m ∷ p) ≡ branch_deadlines (call_id c k) p
quiet_all c k p m u = grind (arith, nat_tests, quiet_call, quiet_started, map_or_same, map_range, below)

-- the deadlines of the record, which begin with those of what has started
deadlines_first : (c k : ℕ) (p : Past) → decided (call_id c k) p ≡ None → record_deadlines (call_id c k) p ≡ branch_deadlines (call_id c k) p
deadlines_first c k [] e = refl
deadlines_first c k (m ∷ p) e = grind arith

quiet_deadlines : (c k : ℕ) (p : Past) (m : Mark) → Quiet c m.what → record_deadlines (call_id c k) (m ∷ p) ≡ record_deadlines (call_id c k) p
quiet_deadlines c k p m u = grind (arith, nat_tests, quiet_all, deadlines_first)

same_without : (c : ℕ) (p q : Past) (m : Mark) → Quiet c m.what → Alike c p q → Alike c (m ∷ p) q
same_without c p q m u h = grind (arith, nat_tests, max_zero, quiet_call, quiet_began, quiet_answers, quiet_out, quiet_started, quiet_decided, quiet_events, quiet_deadlines, quiet_coming, or_none)

-- ---- the law

alike_none : (c : ℕ) → Alike c [] []
alike_none c = grind arith

pub own_alike : (c : ℕ) (os : List Occurrence) → Alike c (marked os) (marked (own c os))
own_alike c [] = alike_none c
own_alike c (o ∷ os) = by (is_visible c o) refl (own_alike c os)
  where
    by : (b : Bool) → is_visible c o ≡ b → Alike c (marked os) (marked (own c os)) → Alike c (marked (o ∷ os)) (marked (if b then o ∷ own c os else own c os))
    by true v h = subst (λ (m : Mark). Alike c (marked (o ∷ os)) (m ∷ marked (own c os))) (mark_same c (marked os) (marked (own c os)) h o v)
        (same_more c (marked os) (marked (own c os)) (mark_of (marked os) o) h)
    by false v h = same_without c (marked os) (marked (own c os)) (mark_of (marked os) o) (quiet_of c o v) h

entry_like : (c k : ℕ) (p q : Past) → Alike c p q → entry (call_id c k) p ≡ entry (call_id c k) q
entry_like c k p q h = grind arith

queue_like : (c : ℕ) (p q : Past) → Alike c p q → queued_entries c p ≡ queued_entries c q
queue_like c p q h = grind arith

pub own_queue : (c : ℕ) (os : List Occurrence) → queued_entries c (marked os) ≡ queued_entries c (marked (own c os))
own_queue c os = queue_like c (marked os) (marked (own c os)) (own_alike c os)

pub own_entry : (c k : ℕ) (os : List Occurrence) → entry (call_id c k) (marked os) ≡ entry (call_id c k) (marked (own c os))
own_entry c k os = entry_like c k (marked os) (marked (own c os)) (own_alike c os)

pub own_seen : (c k i : ℕ) (os : List Occurrence) → how_seen (call_id c k) i (marked os) ≡ how_seen (call_id c k) i (marked (own c os))
own_seen c k i os = seen_same c (marked os) (marked (own c os)) (own_alike c os) k i

-- ---- what starts

jobs_like : (c k : ℕ) (p q : Past) (m : Mark) → Alike c p q → jobs_started (call_id c k) m p ≡ jobs_started (call_id c k) m q
jobs_like c k p q m h = λ i.
    option_map_or (λ x. map (λ b. job_of (call_id c k) b x (h.now_is i)) (range_with_len (before i) (started_then c p q h k m i - before i))) (call_same c p q h k m i) []
  where
    before : started (call_id c k) p ≡ started (call_id c k) q
    before = λ i. started_by (h.began_is k i) (h.call_is k i) (h.answers_are k i)

by_like : (c : ℕ) (p q : Past) (m : Mark) (o : Occurrence) → is_visible c o ≡ true → Alike c p q → jobs_by o m p ≡ jobs_by o m q
by_like c p q m (Comes d x) v h = subst (λ (n : ℕ). jobs_started (call_id n (arrivals n p)) m p ≡ jobs_started (call_id n (arrivals n q)) m q) (sym (eqb-true d c v))
    (jobs_like c (arrivals c p) p q m h ∙ ap (λ n. jobs_started (call_id c n) m q) h.arrivals_are)
by_like c p q m (Result id i r) v h = subst (λ (n : ℕ). jobs_started (call_id n id.request) m p ≡ jobs_started (call_id n id.request) m q) (sym (eqb-true id.conn c v)) (jobs_like c id.request p q m h)
by_like c p q m Opening v h = refl
by_like c p q m (HangUp d) v h = refl
by_like c p q m (Moment t) v h = refl
by_like c p q m Drain v h = refl
by_like c p q m (Closing d) v h = refl
by_like c p q m (Break d) v h = refl

-- what starts at something that is visible to it
pub own_jobs : (c : ℕ) (o : Occurrence) (os : List Occurrence) → is_visible c o ≡ true → jobs_by o (mark_of (marked os) o) (marked os) ≡ jobs_by o (mark_of (marked (own c os)) o) (marked (own c os))
own_jobs c o os v =
    by_like c (marked os) (marked (own c os)) (mark_of (marked os) o) o v (own_alike c os)
    ∙ ap (λ m. jobs_by o m (marked (own c os))) (mark_same c (marked os) (marked (own c os)) (own_alike c os) o v)

-- ---- breaks of others

pub own_without : (c : ℕ) (os : List Occurrence) → is_broken c (marked os) ≡ false → own c (without_breaks os) ≡ own c os
own_without c [] e = refl
own_without c (o ∷ os) e = grind (arith, own_without c os)

pub unbroken_queue : (c : ℕ) (os : List Occurrence) → is_broken c (marked os) ≡ false → queued_entries c (marked os) ≡ queued_entries c (marked (without_breaks os))
unbroken_queue c os e = own_queue c os ∙ sym (ap (λ xs. queued_entries c (marked xs)) (own_without c os e)) ∙ sym (own_queue c (without_breaks os))

-- ---- all that starts

unseen_jobs : (c : ℕ) (o : Occurrence) (m : Mark) (past : Past) → is_visible c o ≡ false → filter (is_of c) (jobs_by o m past) ≡ []
unseen_jobs c (Comes d x) m past e = none_by c (Comes d x) m past e
unseen_jobs c (Result id i r) m past e = none_by c (Result id i r) m past e
unseen_jobs c Opening m past e = refl
unseen_jobs c (HangUp d) m past e = refl
unseen_jobs c (Moment t) m past e = refl
unseen_jobs c Drain m past e = refl
unseen_jobs c (Closing d) m past e = refl
unseen_jobs c (Break d) m past e = refl

-- the jobs of a connection are by what is visible to it
pub own_started : (c : ℕ) (os : List Occurrence) → filter (is_of c) (jobs (marked os)) ≡ filter (is_of c) (jobs (marked (own c os)))
own_started c [] = refl
own_started c (o ∷ os) = by (is_visible c o) refl (own_started c os)
  where
    now : List JobValue
    now = jobs_by o (mark_of (marked os) o) (marked os)

    by : (b : Bool) → is_visible c o ≡ b → filter (is_of c) (jobs (marked os)) ≡ filter (is_of c) (jobs (marked (own c os)))
        → filter (is_of c) (jobs (marked os) ++ now) ≡ filter (is_of c) (jobs (marked (if b then o ∷ own c os else own c os)))
    by true v before =
        filter-append (is_of c) (jobs (marked os)) now ∙ ap (λ xs. xs ++ filter (is_of c) now) before
        ∙ ap (λ js. filter (is_of c) (jobs (marked (own c os))) ++ filter (is_of c) js) (own_jobs c o os v)
        ∙ sym (filter-append (is_of c) (jobs (marked (own c os))) (jobs_by o (mark_of (marked (own c os)) o) (marked (own c os))))
    by false v before =
        filter-append (is_of c) (jobs (marked os)) now ∙ ap (λ xs. filter (is_of c) (jobs (marked os)) ++ xs) (unseen_jobs c o (mark_of (marked os) o) (marked os) v)
        ∙ append-nil (filter (is_of c) (jobs (marked os))) ∙ before

pub unbroken_started : (c : ℕ) (os : List Occurrence) → is_broken c (marked os) ≡ false
    → filter (is_of c) (jobs (marked os)) ≡ filter (is_of c) (jobs (marked (without_breaks os)))
unbroken_started c os e = own_started c os ∙ sym (ap (λ xs. filter (is_of c) (jobs (marked xs))) (own_without c os e)) ∙ sym (own_started c (without_breaks os))
