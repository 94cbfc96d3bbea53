-- A connection stands for what has occurred: one occurrence more.
use Rattle.std.specs.Prelude.{◌≡◌, ◌∷◌, ◌==◌, ◌++◌, ◌&&◌}
use Rattle.gateway_theory.specs.lemmas.Names.{ℕ, false, List, [], map, Option, None, Some, refl, option_map_or, CallId, job_of, Occurrence, Opening, Comes, HangUp, Moment, Result, Drain, Closing, Break, Mark, Past, ArrivedCall, call, call_id, arrivals, now, jobs_by, jobs_started, branches_started, starting_conn, is_of, sym, arith, option_or, Outcome, CallEvent, coming_on, asked_now, began, answers, started, is_answer_to, is_call, own_event, is_broken, answer_in, answer_of_branch, last_event}
use Rattle.std.specs.List.{filter}
use Rattle.gateway_theory.specs.lemmas.Cases.{or_false, or_none}

-- ---- jobs

none_of : (c moment : ℕ) (id : CallId) (a : ArrivedCall) (bs : List ℕ) → (id.conn == c) ≡ false → filter (is_of c) (map (λ i. job_of id i a moment) bs) ≡ []
none_of c moment id a [] e = refl
none_of c moment id a (b ∷ bs) e = rw e (none_of c moment id a bs e)

none_started : (c : ℕ) (id : CallId) (m : Mark) (past : Past) → (id.conn == c) ≡ false → filter (is_of c) (jobs_started id m past) ≡ []
none_started c id m past e = by_call (call id (m ∷ past))
  where
    by_call : (o : Option ArrivedCall) → filter (is_of c) (option_map_or (λ a. map (λ i. job_of id i a (now past)) (branches_started id m past)) o []) ≡ []
    by_call None = refl
    by_call (Some a) = none_of c (now past) id a (branches_started id m past) e

-- the jobs that start at an occurrence are its connection's
pub none_by : (c : ℕ) (o : Occurrence) (m : Mark) (past : Past) → (starting_conn o == c) ≡ false → filter (is_of c) (jobs_by o m past) ≡ []
none_by c (Comes d x) m past e = none_started c (call_id d (arrivals d past)) m past e
none_by c (Result of i r) m past e = none_started c of m past e
none_by c Opening m past e = refl
none_by c (HangUp d) m past e = refl
none_by c (Moment t) m past e = refl
none_by c Drain m past e = refl
none_by c (Closing d) m past e = refl
none_by c (Break d) m past e = refl

-- ---- an occurrence that does not concern a call

pub record Quiet (id : CallId) (m : Mark) (past : Past) : Type 0 where
  pub no_coming : coming_on id.conn m.what (is_broken id.conn past) ≡ None
  pub no_answer : (m.counted && is_answer_to id m.what) ≡ false
  pub no_event : own_event id m past ≡ None

pub no_asked : (id : CallId) (m : Mark) (past : Past) → coming_on id.conn m.what (is_broken id.conn past) ≡ None → asked_now id m past ≡ None
no_asked id m past e = grind arith

call_same : (id : CallId) (m : Mark) (past : Past) → Quiet id m past → call id (m ∷ past) ≡ call id past
call_same id m past q = rw (no_asked id m past q.no_coming) (or_none (call id past))

pub began_same : (id : CallId) (m : Mark) (past : Past) → Quiet id m past → began id (m ∷ past) ≡ began id past
began_same id m past q = rw (no_asked id m past q.no_coming) (or_false (began id past))

pub answers_same : (id : CallId) (m : Mark) (past : Past) → Quiet id m past → answers id (m ∷ past) ≡ answers id past
answers_same id m past q = rw q.no_answer refl

pub started_same : (id : CallId) (m : Mark) (past : Past) → Quiet id m past → started id (m ∷ past) ≡ started id past
started_same id m past q = rw (began_same id m past q, call_same id m past q, answers_same id m past q) refl

-- ---- results that do not count

-- a result that does not count for the call changes no word of it, but which branches are out
pub result_quiet : (id of : CallId) (i : ℕ) (outcome : Outcome) (m : Mark) (past : Past) → m.what ≡ Result of i outcome
    → (m.counted && is_call of id) ≡ false → Quiet id m past
result_quiet id of i outcome m past what uncounted = grind arith

-- ---- results that count

pub last_is : (es : List CallEvent) (e : CallEvent) → last_event (es ++ e ∷ []) ≡ Some e
last_is [] e = refl
last_is (x ∷ []) e = refl
last_is (x ∷ y ∷ es) e = last_is (y ∷ es) e

pub or_assoc : {A : Type 0} (x y z : Option A) → option_or (option_or x y) z ≡ option_or x (option_or y z)
or_assoc None y z = refl
or_assoc (Some a) y z = refl

-- the answer of a branch after one more event
pub answer_after : (k : ℕ) (es : List CallEvent) (e : CallEvent) → answer_of_branch k (es ++ e ∷ []) ≡ option_or (answer_in k e) (answer_of_branch k es)
answer_after k [] e = sym (or_none (answer_in k e))
answer_after k (x ∷ es) e =
    rw (answer_after k es e) (or_assoc (answer_in k e) (answer_of_branch k es) (answer_in k x))
