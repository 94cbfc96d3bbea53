-- What is still to come is by what is kept: whether requests are answered and streams have ended, and the least deadline.
use Rattle.std.specs.Prelude.{◌≡◌, ◌+◌, ◌<◌, ◌≤◌, ◌==◌, ◌∷◌, ◌++◌, ◌&&◌, ◌||◌, if◌then◌else◌}
use Rattle.gateway_theory.specs.lemmas.Names.{ℕ, zero, suc, Bool, true, false, List, [], length, map, Option, None, Some, refl, sym, ap, ◌∙◌, subst, arith, nat_tests, ⊎_elim, not, max, min, nat_lt, is_none, is_some, list_any, range_with_len, option_and_then, option_map_or, MatchBool, cases_Bool, lt-ltb, ne_eqb, length-append, length-map, map-range_with_len_more, CallEvent, Expired, BranchExpired, CallId, Mark, Moment, Occurrence, ArrivedCall, Past, arrivals, branches, call, call_id, can_be_decided, concerns, count_below, answers, deadlines_out, decided, decided_by, decides, deciding, due_by, is_due, is_shut, is_undecided, is_out, started, started_when, PlanRecord, time_of, least_of, mark_of, marked, now, own_event, smaller, own, front, queued_entries, ReplyEntry, JobValue, Before, hung_up, stream, HasReadTo, Partial, Waiting, Stopped, Done, Reading, is_over, HttpRequest, StreamEnd, Open, RefusedBy, Closed, Requests, AllStand, ConnectionStands, Now, is_shut_value, next, CallStands, LiveStands, MayLive, ConnectionValue, CallState, Live, StreamValue, are_all_there, call_deadline, deadline_among, deadline_in, deadlines_in, is_done, moment_after, HasCome, is_heard, is_waiting, StreamStands, is_open_value}
use Rattle.gateway_model.specs.Ahead.{BringsNoMore, are_answered, conn_deadline, deadline_of, ends_calls, is_final, least_deadline}
use Rattle.gateway_model.specs.Past.{expiry, is_at}
use Rattle.gateway_theory.specs.lemmas.Deadlines.{deadline_out, due_smaller, outs_are}
use Rattle.gateway_theory.specs.lemmas.LimitLemmas.{out_started}
use Rattle.gateway_theory.specs.lemmas.OwnLemmas.{Alike, map_range, own_alike}
use Rattle.gateway_theory.specs.lemmas.Standing.{queue_stands}

-- ---- replies

-- all slots are filled exactly if as many stand in front
front_all : (slots : List (Option ReplyEntry)) → are_all_there slots ≡ (length (front slots) == length slots)
front_all [] = refl
front_all (None ∷ slots) = sym (ne_eqb 0 (length (None ∷ slots)) (λ e. absurd (omega (arith, e))))
front_all (Some e ∷ slots) = front_all slots ∙ same_suc (length (front slots)) (length slots)
  where
    same_suc : (a b : ℕ) → (a == b) ≡ (suc a == suc b)
    same_suc a b = grind (arith, nat_tests)

same_sum : (t f s q a : ℕ) → t + f ≡ q → t + s ≡ a → (f == s) ≡ (q == a)
same_sum t f s q a x y = grind (arith, nat_tests)

-- ---- streams

-- where its pieces are taken
heard_over : (r : Reading) (text : List ℕ) (given : List HttpRequest) → is_waiting r ≡ false → HasReadTo r text given
    → (ending : StreamEnd) × Requests 0 text given ending × (is_over r ≡ is_final ending)
heard_over (Partial left) text given settled reads = (Open left, reads, refl)
heard_over (Waiting q) text given settled reads = absurd (cc)
heard_over (Stopped r) text given settled reads = (RefusedBy r, reads, refl)
heard_over Done text given settled reads = (Closed, reads, refl)

or_right_true : (a : Bool) → (a || true) ≡ true
or_right_true true = refl
or_right_true false = refl

or_right_false : (a : Bool) → (a || false) ≡ a
or_right_false true = refl
or_right_false false = refl

pub stream_over : (opened : List ℕ) (events : Before) (count c : ℕ) (v : ConnectionValue) (s : StreamValue) → StreamStands opened events count c v s
    → is_open_value count c v ≡ true → v.broken ≡ false → BringsNoMore opened c events (is_done s)
stream_over opened events count c v s stands there whole = by s.hung_up refl
  where
    by : (b : Bool) → s.hung_up ≡ b → BringsNoMore opened c events (is_done s)
    by true hung =
        subst (λ b. MatchBool b (is_done s ≡ true) ((given : List HttpRequest) × (ending : StreamEnd) × Requests 0 (stream opened c events) given ending × (is_done s ≡ is_final ending)))
        (sym hung ∙ stands.hung_is there whole)
        (ap (λ b. is_over s.reader.reading || b) hung ∙ or_right_true (is_over s.reader.reading))
    by false still =
        let come : HasCome v s.reader (stream opened c events) = stands.has_come there (rw (whole, still) refl) in
        let end = heard_over s.reader.reading (stream opened c events) come.given come.settled come.reads.reads in
        subst (λ b. MatchBool b (is_done s ≡ true) ((given : List HttpRequest) × (ending : StreamEnd) × Requests 0 (stream opened c events) given ending × (is_done s ≡ is_final ending)))
        (sym still ∙ stands.hung_is there whole)
        (come.given, end.0, end.1, ap (λ b. is_over s.reader.reading || b) still ∙ or_right_false (is_over s.reader.reading) ∙ end.2)

-- ---- the least of several

pub due_least : {X : Type 0} (m : ℕ) (f : X → Option ℕ) (xs : List X) → is_due m (least_of (map f xs)) ≡ list_any (λ x. is_due m (f x)) xs
due_least m f [] = refl
due_least m f (x ∷ xs) = due_smaller m (f x) (least_of (map f xs)) ∙ ap (λ b. is_due m (f x) || b) (due_least m f xs)

-- none has one
none_least : (f : ℕ → Option ℕ) (from n : ℕ) → ((k : ℕ) → f k ≡ None) → least_of (map f (range_with_len from n)) ≡ None
none_least f from zero none = refl
none_least f from (suc n) none = ap (λ d. smaller d (least_of (map f (range_with_len (from + 1) n)))) (none from) ∙ none_least f (from + 1) n none

any_same : {X : Type 0} (p q : X → Bool) (xs : List X) → ((x : X) → p x ≡ q x) → list_any p xs ≡ list_any q xs
any_same p q [] same = refl
any_same p q (x ∷ xs) same = ap (λ b. b || list_any p xs) (same x) ∙ ap (λ b. q x || b) (any_same p q xs same)

any_last : (p : ℕ → Bool) (from n : ℕ) → list_any p (range_with_len from (suc n)) ≡ (list_any p (range_with_len from n) || p (from + n))
any_last p from zero = ap (λ k. p k || false) (omega arith) ∙ or_right_false (p (from + 0))
any_last p from (suc n) =
    ap (λ b. p from || b) (any_last p (from + 1) n)
    ∙ or_again (p from) (list_any p (range_with_len (from + 1) n)) (p ((from + 1) + n))
    ∙ ap (λ k. (p from || list_any p (range_with_len (from + 1) n)) || p k) (omega arith)
  where
    or_again : (a b c : Bool) → (a || (b || c)) ≡ ((a || b) || c)
    or_again true b c = refl
    or_again false b c = refl

-- some number below n passes exactly if their count is not 0
count_any : (p : ℕ → Bool) (n : ℕ) → list_any p (range_with_len 0 n) ≡ nat_lt 0 (count_below n p)
count_any p zero = refl
count_any p (suc n) =
    any_last p 0 n ∙ ap (λ k. list_any p (range_with_len 0 n) || p k) (zero_more n) ∙ ap (λ b. b || p n) (count_any p n) ∙ by (p n) (count_below n p)
  where
    zero_more : (k : ℕ) → 0 + k ≡ k
    zero_more k = omega arith

    by : (b : Bool) (k : ℕ) → (nat_lt 0 k || b) ≡ nat_lt 0 (if b then suc k else k)
    by true k = or_right_true (nat_lt 0 k) ∙ sym (lt-ltb 0 (suc k) (omega arith))
    by false k = or_right_false (nat_lt 0 k)

-- ---- a call

-- what is kept of it says its deadline
pub deadline_stands : (id : CallId) (c : CallState) (past : Past) → CallStands id c past → call_deadline c ≡ deadline_of id past
deadline_stands id c past stands = by c.live refl stands.live_is
  where
    none : (b : Bool) (o : Option ArrivedCall) → (is_some o && b) ≡ false
        → None ≡ (if b then option_and_then (λ (a : ArrivedCall). smaller a.deadline (least_of (deadlines_out id a.plan past))) o else None)
    none b None dead = grind arith
    none true (Some a) dead = absurd (cc)
    none false (Some a) dead = refl

    by : (o : Option Live) → c.live ≡ o → MayLive id o c.out past → call_deadline c ≡ deadline_of id past
    by None is dead = rw is (none (can_be_decided id past) (call id past) dead)
    by (Some l) is s =
        let outs : deadlines_out id l.asked.plan past ≡ deadlines_in c.out l.deadlines =
        outs_are id l.asked c.out past s.call_is s.size_is stands.out_is ∙ ap (deadlines_in c.out) (sym s.deadlines_are) in
        rw (is, s.undecided, s.unshut, s.call_is) (ap (λ ds. smaller l.asked.deadline (least_of ds)) (sym outs))

decides_always : (n b moment at : ℕ) (deadline : Option ℕ) (outs : List (Option ℕ)) (e : CallEvent) → due_by moment deadline outs ≡ Some e → decides n b e ≡ true
decides_always n b moment at deadline outs e is = grind (arith, nat_tests)

-- a moment decides it exactly if it is undecided, and it has reached its deadline
pub moment_decides : (m : ℕ) (id : CallId) (past : Past)
    → is_due (moment_after (now past) m) (deadline_of id past) ≡ (is_undecided id past && is_some (deciding id (mark_of past (Moment m)) past))
moment_decides m id past = by (call id past) refl (decided id past) refl (is_shut id.conn past) refl
  where
    by_due : (n b : ℕ) (deadline : Option ℕ) (outs : List (Option ℕ))
        → is_due (moment_after (now past) m) (smaller deadline (least_of outs))
        ≡ is_some (option_and_then (λ (e : CallEvent). if decides n b e then Some e else None) (due_by (moment_after (now past) m) deadline outs))
    by_due n b deadline outs = grind (arith, nat_tests)

    by : (o : Option ArrivedCall) → call id past ≡ o → (d : Option CallEvent) → decided id past ≡ d → (b : Bool) → is_shut id.conn past ≡ b
        → is_due (moment_after (now past) m) (deadline_of id past) ≡ (is_undecided id past && is_some (deciding id (mark_of past (Moment m)) past))
    by None call_is d d_is b b_is = grind arith
    by (Some a) call_is (Some e) d_is b b_is = rw (call_is, d_is) refl
    by (Some a) call_is None d_is true b_is = rw (call_is, d_is, b_is) refl
    by (Some a) call_is None d_is false b_is = rw (call_is, d_is, b_is) (by_due (answers id past) (length a.plan.branches) a.deadline (deadlines_out id a.plan past))

-- ---- two pasts that are alike to a connection

module _ (c k : ℕ) (p q : Past) (h : Alike c p q) where
  out_alike : (plan : PlanRecord) (i : ℕ) → deadline_out (call_id c k) plan p i ≡ deadline_out (call_id c k) plan q i
  out_alike plan i = by (is_out (call_id c k) i p) refl (time_of plan i)
    where
      by : (b : Bool) → is_out (call_id c k) i p ≡ b → (o : Option ℕ)
          → option_and_then (λ t. if is_out (call_id c k) i p then Some (started_when (call_id c k) i p + t) else None) o
          ≡ option_and_then (λ t. if is_out (call_id c k) i q then Some (started_when (call_id c k) i q + t) else None) o
      by b is None = refl
      by true is (Some t) =
          rw (is, sym (h.out_is k i) ∙ is) (ap (λ at. Some (at + t)) (h.when_is k i (lt-ltb i (started (call_id c k) p) (out_started (call_id c k) i p is))))
      by false is (Some t) = rw (is, sym (h.out_is k i) ∙ is) refl

  call_alike : (a : ArrivedCall) → smaller a.deadline (least_of (deadlines_out (call_id c k) a.plan p)) ≡ smaller a.deadline (least_of (deadlines_out (call_id c k) a.plan q))
  call_alike a = ap (λ ds. smaller a.deadline (least_of ds))
      (map_range (deadline_out (call_id c k) a.plan p) (deadline_out (call_id c k) a.plan q) 0 (length a.plan.branches) (λ i lt. out_alike a.plan i))

  deadline_alike : deadline_of (call_id c k) p ≡ deadline_of (call_id c k) q
  deadline_alike =
      ap (λ d. if is_none d && not (is_shut c p) then option_and_then (of_call p) (call (call_id c k) p) else None) (h.decided_is k)
      ∙ ap (λ b. if is_none (decided (call_id c k) q) && not b then option_and_then (of_call p) (call (call_id c k) p) else None) h.shut_is
      ∙ ap (λ o. if is_none (decided (call_id c k) q) && not (is_shut c q) then option_and_then (of_call p) o else None) (h.call_is k)
      ∙ ap (λ d. if is_none (decided (call_id c k) q) && not (is_shut c q) then d else None) (by (call (call_id c k) q))
    where
      of_call : Past → ArrivedCall → Option ℕ
      of_call past a = smaller a.deadline (least_of (deadlines_out (call_id c k) a.plan past))

      by : (o : Option ArrivedCall) → option_and_then (of_call p) o ≡ option_and_then (of_call q) o
      by None = refl
      by (Some a) = call_alike a

-- ---- all connections

module _ (n : Now) (conns : ℕ → ConnectionValue) (taken : ℕ → List ReplyEntry) (handed waiting : List JobValue) (os : List Occurrence) (h : AllStand n conns taken handed waiting os) where
  arrived : (c : ℕ) → (conns c).closed ≡ false → length (taken c) + length (conns c).slots ≡ arrivals c (marked os)
  arrived c still =
      let size : length (map Some (taken c) ++ (conns c).slots) ≡ arrivals c (marked (own c os)) =
      ((h.each c).slots_stand still).size_is ∙ ap (λ d. arrivals d (marked (own c os))) (h.numbers c) in
      let long = length-append (map Some (taken c)) (conns c).slots in
      let same : length (map Some (taken c)) ≡ length (taken c) = length-map (taken c) Some in
      let alike = (own_alike c os).arrivals_are in
      omega (arith, size, long, same, alike)

  pub answered_stands : (c : ℕ) → (conns c).closed ≡ false → are_all_there (conns c).slots ≡ are_answered c (marked os)
  answered_stands c still =
      let long : length (taken c) + length (front (conns c).slots) ≡ length (queued_entries c (marked os)) =
      sym (length-append (taken c) (front (conns c).slots)) ∙ ap length (queue_stands n conns taken handed waiting os h c still) in
      front_all (conns c).slots
      ∙ same_sum (length (taken c)) (length (front (conns c).slots)) (length (conns c).slots) (length (queued_entries c (marked os))) (arrivals c (marked os)) long (arrived c still)

  deadline_each : (c k : ℕ) → call_deadline ((conns c).calls k) ≡ deadline_of (call_id c k) (marked os)
  deadline_each c k =
      deadline_stands (call_id (conns c).number k) ((conns c).calls k) (marked (own c os)) ((h.each c).calls k)
      ∙ ap (λ d. deadline_of (call_id d k) (marked (own c os))) (h.numbers c)
      ∙ sym (deadline_alike c k (marked os) (marked (own c os)) (own_alike c os))

  shut_none : (c k : ℕ) → (conns c).closed ≡ true → deadline_of (call_id c k) (marked os) ≡ None
  shut_none c k shut =
      let is : is_shut c (marked os) ≡ true =
      (own_alike c os).shut_is ∙ ap (λ d. is_shut d (marked (own c os))) (sym (h.numbers c)) ∙ sym (h.each c).shut_is ∙ ap (λ b. b || (conns c).broken) shut in
      grind (arith, nat_tests)

  deadline_conn : (c : ℕ) → deadline_in (conns c) ≡ conn_deadline c (marked os)
  deadline_conn c = by (conns c).closed refl
    where
      by : (b : Bool) → (conns c).closed ≡ b → deadline_in (conns c) ≡ conn_deadline c (marked os)
      by true shut =
          none_least (λ k. call_deadline ((conns c).calls k)) 0 (next (conns c)) (λ k. deadline_each c k ∙ shut_none c k shut)
          ∙ sym (none_least (λ k. deadline_of (call_id c k) (marked os)) 0 (arrivals c (marked os)) (λ k. shut_none c k shut))
      by false still =
          let count : next (conns c) ≡ arrivals c (marked os) = (let taken_is = (h.each c).taken_is still in let all = arrived c still in omega (arith, taken_is, all)) in
          ap least_of (
          map_range (λ k. call_deadline ((conns c).calls k)) (λ k. deadline_of (call_id c k) (marked os)) 0 (next (conns c)) (λ k lt. deadline_each c k)
          ∙ ap (λ many. map (λ k. deadline_of (call_id c k) (marked os)) (range_with_len 0 many)) count
          )

  pub deadline_all : (opened : ℕ) → deadline_among opened conns ≡ least_deadline opened (marked os)
  deadline_all opened = ap least_of (map_range (λ c. deadline_in (conns c)) (λ c. conn_deadline c (marked os)) 0 opened (λ c lt. deadline_conn c))

  -- a moment has reached it exactly if it concerns one of the connections
  pub ends_all : (opened m : ℕ) → is_due (moment_after n.moment m) (deadline_among opened conns) ≡ ends_calls opened m (marked os)
  ends_all opened m =
      ap (λ now. is_due (moment_after now m) (deadline_among opened conns)) h.now.moment_is
      ∙ ap (is_due (moment_after (now (marked os)) m)) (deadline_all opened)
      ∙ due_least (moment_after (now (marked os)) m) (λ c. conn_deadline c (marked os)) (range_with_len 0 opened)
      ∙ any_same (λ c. is_due (moment_after (now (marked os)) m) (conn_deadline c (marked os))) (λ c. concerns c (Moment m) (marked os)) (range_with_len 0 opened) each
    where
      each : (c : ℕ) → is_due (moment_after (now (marked os)) m) (conn_deadline c (marked os)) ≡ concerns c (Moment m) (marked os)
      each c =
          due_least (moment_after (now (marked os)) m) (λ k. deadline_of (call_id c k) (marked os)) (range_with_len 0 (arrivals c (marked os)))
          ∙ any_same (λ k. is_due (moment_after (now (marked os)) m) (deadline_of (call_id c k) (marked os)))
          (λ k. is_undecided (call_id c k) (marked os) && is_some (deciding (call_id c k) (mark_of (marked os) (Moment m)) (marked os)))
          (range_with_len 0 (arrivals c (marked os))) (λ k. moment_decides m (call_id c k) (marked os))
          ∙ count_any (λ k. is_undecided (call_id c k) (marked os) && is_some (deciding (call_id c k) (mark_of (marked os) (Moment m)) (marked os))) (arrivals c (marked os))
