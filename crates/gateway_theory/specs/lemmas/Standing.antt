-- The first connections, a reply or a job that is taken, what is queued, and what is not kept any more.
use Rattle.std.specs.Prelude.{◌≡◌, ◌∷◌, ◌++◌, ◌==◌, ◌||◌, if◌then◌else◌}
use Rattle.gateway_theory.specs.lemmas.Names.{ℕ, List, [], map, Option, None, Some, refl, sym, ap, ◌∙◌, arith, Bool, true, false, append_assoc, nat_tests, range_with_len, ext_get_or, length-append, get_or-map-range_with_len, length-map-range_with_len, Past, call_id, arrivals, is_out, marked, ReplyEntry, entry, front, queued_entries, SlotsStand, eqb-true, JobValue, Occurrence, own, CallStands, has_out, CallState, gone, ConnectionValue, not_kept, AllStand, ConnectionStands, Now, forgets, now_of, reply_taken, PlanRecord, History, after_jobs, no_history, Placed, occurrences, CoreValue, HasConns, Lives, Served, new_stream}
use Rattle.gateway_theory.specs.lemmas.OwnLemmas.{own_alike, own_queue}

-- ---- the queue

slots_are : (c : ℕ) (slots : List (Option ReplyEntry)) (past : Past) → SlotsStand c slots past → slots ≡ map (λ k. entry (call_id c k) past) (range_with_len 0 (arrivals c past))
slots_are c slots past h =
    ext_get_or None slots (map (λ k. entry (call_id c k) past) (range_with_len 0 (arrivals c past)))
    (h.size_is ∙ sym (length-map-range_with_len (λ k. entry (call_id c k) past) 0 (arrivals c past)))
    (λ i lt. h.each i ∙ sym (get_or-map-range_with_len (λ k. entry (call_id c k) past) 0 (arrivals c past) i i None (omega (arith, lt, h.size_is)) (omega arith)))

pub front_behind : (taken : List ReplyEntry) (slots : List (Option ReplyEntry)) → front (map Some taken ++ slots) ≡ taken ++ front slots
front_behind [] slots = refl
front_behind (e ∷ taken) slots = ap (λ es. e ∷ es) (front_behind taken slots)

pub queue_is : (c : ℕ) (taken : List ReplyEntry) (slots : List (Option ReplyEntry)) (past : Past) → SlotsStand c (map Some taken ++ slots) past → taken ++ front slots ≡ queued_entries c past
queue_is c taken slots past h = sym (front_behind taken slots) ∙ ap front (slots_are c (map Some taken ++ slots) past h)

-- nothing has occurred
pub all_first : AllStand (now_of 0 false) (λ c. not_kept false c) (λ c. []) [] [] []
all_first = grind arith

-- ---- what is taken

taken_more : (taken : List ReplyEntry) (e : ReplyEntry) (rest : List (Option ReplyEntry)) → map Some (taken ++ e ∷ []) ++ rest ≡ map Some taken ++ Some e ∷ rest
taken_more [] e rest = refl
taken_more (x ∷ xs) e rest = ap (λ l. Some x ∷ l) (taken_more xs e rest)

-- the first reply of a connection
pub reply_goes : (v : ConnectionValue) (taken : List ReplyEntry) (e : ReplyEntry) (rest : List (Option ReplyEntry)) (os : List Occurrence) → v.slots ≡ Some e ∷ rest
    → ConnectionStands v taken os → ConnectionStands (reply_taken rest v) (taken ++ e ∷ []) os
reply_goes v taken e rest os there h = grind (arith, nat_tests, length-append, taken_more)

module _ (n : Now) (conns : ℕ → ConnectionValue) (taken : ℕ → List ReplyEntry) (handed waiting : List JobValue) (os : List Occurrence) (h : AllStand n conns taken handed waiting os) where
  pub all_reply : (c : ℕ) (e : ReplyEntry) (rest : List (Option ReplyEntry)) → (conns c).slots ≡ Some e ∷ rest
      → AllStand n (λ d. if d == c then reply_taken rest (conns d) else conns d) (λ d. if d == c then taken d ++ e ∷ [] else taken d) handed waiting os
  all_reply c e rest there = record { now = h.now; numbers = λ d. number d (d == c); each = λ d. by d (d == c) refl; jobs_are = h.jobs_are }
    where
      number : (d : ℕ) (b : Bool) → (if b then reply_taken rest (conns d) else conns d).number ≡ d
      number d b = grind (arith, nat_tests)

      by : (d : ℕ) (b : Bool) → (d == c) ≡ b → ConnectionStands (if b then reply_taken rest (conns d) else conns d) (if b then taken d ++ e ∷ [] else taken d) (own d os)
      by d true is = reply_goes (conns d) (taken d) e rest (own d os) (ap (λ k. (conns k).slots) (eqb-true d c is) ∙ there) (h.each d)
      by d false is = h.each d

  pub all_job : (j : JobValue) (more : List JobValue) → waiting ≡ j ∷ more → AllStand n conns taken (handed ++ j ∷ []) more os
  all_job j more is = record { now = h.now; numbers = h.numbers; each = h.each; jobs_are = append_assoc handed (j ∷ []) more ∙ ap (λ js. handed ++ js) (sym is) ∙ h.jobs_are }

  -- ---- what it says

  -- the replies of one that is not closed, taken or not, are its queue
  pub queue_stands : (c : ℕ) → (conns c).closed ≡ false → taken c ++ front (conns c).slots ≡ queued_entries c (marked os)
  queue_stands c still = grind (arith, nat_tests, queue_is, own_queue)

  -- the branches that are out are those of the definitions
  pub outs_stand : (c k i : ℕ) → has_out ((conns c).calls k) i ≡ is_out (call_id c k) i (marked os)
  outs_stand c k i =
      ((h.each c).calls k).out_is i ∙ ap (λ d. is_out (call_id d k) i (marked (own c os))) (h.numbers c) ∙ sym ((own_alike c os).out_is k i)

-- ---- what is not kept any more

-- a call that can't be decided, and none of whose branches is out
call_gone : (c : ℕ) (k : ℕ) (s : CallState) (past : Past) → s.live ≡ None → ((i : ℕ) → has_out s i ≡ false) → CallStands (call_id c k) s past → CallStands (call_id c k) gone past
call_gone c k s past dead back h = grind arith

pub call_forgotten : (v : ConnectionValue) (taken : List ReplyEntry) (k : ℕ) (os : List Occurrence) → (v.calls k).live ≡ None → ((i : ℕ) → has_out (v.calls k) i ≡ false)
    → ConnectionStands v taken os → ConnectionStands (forgets k v) taken os
call_forgotten v taken k os dead back h = grind arith

-- a connection that was closed, and none of whose branches is out
pub connection_forgotten : (v : ConnectionValue) (taken : List ReplyEntry) (os : List Occurrence) → v.closed ≡ true → ((k : ℕ) → (v.calls k).live ≡ None)
    → ((k i : ℕ) → has_out (v.calls k) i ≡ false) → ConnectionStands v taken os → ConnectionStands (not_kept true v.number) taken os
connection_forgotten v taken os shut dead back h = record {
  taken_is = λ e. absurd (let f : ⊥ = cc in f);
  slots_stand = λ e. absurd (let f : ⊥ = cc in f);
  calls = λ k. call_gone v.number k (v.calls k) (marked os) (dead k) (back k) (h.calls k);
  broken_is = refl;
  shut_is = ap (λ b. b || v.broken) (sym shut) ∙ h.shut_is;
}

-- ---- at first

abbrev pub first : List PlanRecord → CoreValue
first plans = record { plans = plans; now = now_of 0 false; conns = λ c. not_kept false c; streams = λ c. new_stream; opened = 0; begun = 0; waiting = [] }

first_conns : (plans : List PlanRecord) → HasConns (first plans) [] []
first_conns plans = grind arith

pub first_lived : (plans : List PlanRecord) → Lives (first plans) no_history []
first_lived plans = record { occurs = refl; in_order = tt; breaks = tt; conns = first_conns plans; stands = all_first; begun_is = omega arith }

pub first_served : (plans : List PlanRecord) → Served (first plans) no_history
first_served plans = record { conns = first_conns plans; stands = λ occurred o. ([], sym o, first_lived plans) }

-- ---- what is taken

-- no event came, and whatever was lived was lived
pub leaves_served : (v w : CoreValue) (h g : History) → g.opened ≡ h.opened → g.events ≡ h.events → w.plans ≡ v.plans → (HasConns v h.opened h.events → HasConns w g.opened g.events)
    → ((lived : List Placed) → Lives v h lived → Lives w g lived) → Served v h → Served w g
leaves_served v w h g opened_are events_are plans_are conns lives s = grind arith

-- the first job that waits
pub job_lived : (v : CoreValue) (h : History) (j : JobValue) (rest : List JobValue) → v.waiting ≡ j ∷ rest → (lived : List Placed) → Lives v h lived → Lives (record v { waiting = rest }) (after_jobs (j ∷ []) h) lived
job_lived v h j rest is lived l = search (arith, nat_tests, all_job)

-- the first reply of a connection
abbrev pub without_reply : ℕ → List (Option ReplyEntry) → CoreValue → CoreValue
without_reply c rest v = record v { conns = λ d. if d == c then reply_taken rest (v.conns d) else v.conns d }

abbrev pub with_entry : ℕ → ReplyEntry → History → History
with_entry c e h = record h { taken = λ d. if d == c then h.taken d ++ e ∷ [] else h.taken d }

module _ (v : CoreValue) (h : History) (c : ℕ) (e : ReplyEntry) (rest : List (Option ReplyEntry)) (is : (v.conns c).slots ≡ Some e ∷ rest) where
  pub reply_conns : HasConns v h.opened h.events → HasConns (without_reply c rest v) h.opened h.events
  reply_conns s = grind (arith, nat_tests)

  pub reply_lived : (lived : List Placed) → Lives v h lived → Lives (without_reply c rest v) (with_entry c e h) lived
  reply_lived lived l = record {
    occurs = l.occurs;
    in_order = l.in_order;
    breaks = l.breaks;
    conns = reply_conns l.conns;
    stands = all_reply v.now v.conns h.taken h.handed v.waiting (occurrences lived) l.stands c e rest is;
    begun_is = l.begun_is;
  }
