-- What the calls of the gateway tell.
use Rattle.std.specs.Prelude.{◌≡◌, ◌≤◌, ◌++◌, ◌&&◌, ◌||◌, if◌then◌else◌}
use Rattle.gateway_theory.specs.lemmas.Names.{ℕ, Bool, true, false, List, [], length, None, Some, Err, refl, sym, ap, ◌∙◌, subst, arith, inl, inr, Option, nat_tests, IfOk, OnOk, nat_lt, not, take, ⊤, is_none, is_some, option_map, slice_index_or, lt-ltb, append-nil, HasReadTo, PlanRecord, arrival_of, JobValue, Request, StepFault, is_waiting, if_open, is_broken_conn, call_in, GatewayValue, conn_of, shown, HeldConnection, CallState, Live, call_state, call_at, ConnectionValue, TakesBytes, arriving_in, begins_call, broke, dropped, hears, most_begun, not_fed, read, unread, Forgets, TakesResult, forgotten, has_out_in, left_of, lost, lost_held, result_in, settled, settled_held, stays, stepped_held, unknown, IsServing, NotListening, TakesSome, TellsStep, WouldBegin, Breaks, NoneSpent, Feeds, Moves, absent, there, HangsUpAt, Results, All-get_or, filter_passes, Outcome, History, is_whole, own, Past, call_id, how_seen, marked, record_of, Placed, occurrences, CallId, Counted, Late, Unknown, seen_by, CallStands, MayLive, is_live, is_spent, has_out, IsFound, kept_at, Took, IsSeen, IsWanted, TellsTook}
use Rattle.std.proofs.Common.{Ok, Result}
use Rattle.gateway_theory.specs.declared.fault.StepFault.TheVariants.{Exhausted, Gone, Memory}
use Rattle.gateway_theory.specs.lemmas.StoreLemmas.{some_same, call_found}
use Rattle.gateway_theory.specs.Held.{HangsUp, came, hung, is_listening, unnoticed}
use Rattle.gateway_theory.specs.lemmas.Conns.{if_open_still, absent_value, there_value}
use Rattle.gateway_theory.specs.lemmas.HeldSteps.{hears_parts, like_settled}
use Rattle.gateway_theory.specs.lemmas.Turns.{broken_at}
use Rattle.gateway_model.specs.declared.seen.Seen.{Seen}
use Rattle.gateway_theory.specs.Results.{NoneSpent as NoneSpentIn}
use Rattle.gateway_theory.specs.lemmas.OwnLemmas.{own_alike, own_seen}
use Rattle.gateway_theory.specs.lemmas.StepLemmas.{shut_open}
use Rattle.gateway_theory.specs.Served.{Lives}
use Rattle.gateway_theory.specs.lemmas.CallsAdd.{unknown_same}
use Rattle.gateway_theory.specs.lemmas.HeldValues.{replied_rest}
use Rattle.gateway_theory.specs.lemmas.Moving.{dead_call}
use Rattle.gateway_theory.specs.lemmas.ServingSteps.{left_some, live_goes}

-- ---- one that is not heard

-- .. nobody hears it
pub not_heard : (n : ℕ) (v : GatewayValue) (k : HeldConnection) → conn_of n v ≡ Some k → NotListening n v → hears k ≡ false
not_heard n v k k_is off = grind arith

deaf_kept : (n : ℕ) (v : GatewayValue) (k : HeldConnection) → conn_of n v ≡ Some k → hears k ≡ false → NotListening n v
deaf_kept n v k k_is off l l_is = by k.closed refl (sym (ap if_open k_is) ∙ l_is)
  where
    by : (b : Bool) → k.closed ≡ b → if_open (Some k) ≡ Some l → is_listening l ≡ false
    by true shut e = absurd (let clash : None ≡ Some l = sym (ap (λ b. if b then None else Some k) shut) ∙ e in cc)
    by false still e = ap is_listening (sym (some_same (sym (if_open_still k still) ∙ e))) ∙ sym (ap (λ b. not b && is_listening k) still) ∙ off

none_both : (b : Bool) → (b && false) ≡ false
none_both true = refl
none_both false = refl

-- .. and one that is heard is whole
whole_now : (k : HeldConnection) → hears k ≡ true → (not k.closed && k.broken) ≡ false
whole_now k on = ap (λ b. not k.closed && b) (hears_parts k on).1 ∙ none_both (not k.closed)

-- whether the connection that was kept is broken then
pub broken_now : (n : ℕ) (v w : GatewayValue) (k l : HeldConnection) → conn_of n v ≡ Some k → Moves n (Some l) v w → w.opened ≡ v.opened → IsServing v → is_broken_conn n w ≡ (not l.closed && l.broken)
broken_now n v w k l k_is m opened_is s =
    ap (broken_at w.opened n) m.here ∙ ap (λ b. (b && not l.closed) && l.broken) (ap (nat_lt n) opened_is ∙ lt-ltb n v.opened (s.each n k k_is).born)

-- ---- bytes

module _ {plans : List PlanRecord} {moment : ℕ} {drained : Bool} {bytes : List ℕ} {begun : ℕ} {k : HeldConnection} {then_begun : ℕ} {l : HeldConnection} {jobs : List JobValue} {result : Result ℕ StepFault} where
  gone_fed : TakesBytes plans moment drained bytes begun k then_begun l jobs result → result ≡ Err Gone → (hears k ≡ false) × (l ≡ k) × (jobs ≡ []) × (then_begun ≡ begun)
  gone_fed fact is = grind (arith, nat_tests)

  deaf_fed : TakesBytes plans moment drained bytes begun k then_begun l jobs result → hears k ≡ false → result ≡ Err Gone
  deaf_fed fact is = grind (arith, nat_tests)

  broke_fed : TakesBytes plans moment drained bytes begun k then_begun l jobs result → (f : StepFault) → (f ≡ Gone → ⊥) → result ≡ Err f → (not l.closed && l.broken) ≡ true
  broke_fed fact f each is = grind (arith, nat_tests)

  -- as many were begun as may be
  most_fed : TakesBytes plans moment drained bytes begun k then_begun l jobs result → result ≡ Err Exhausted → most_begun ≤ then_begun
  most_fed fact is = grind (arith, nat_tests)

  -- what was taken leaves it heard
  heard_fed : TakesBytes plans moment drained bytes begun k then_begun l jobs result → OnOk result (hears l ≡ true)
  heard_fed fact = grind (arith, nat_tests)

  -- some bytes, where there are some
  some_fed : is_waiting k.reader.reading ≡ false → TakesBytes plans moment drained bytes begun k then_begun l jobs result → IfOk result (TakesSome (length bytes))
  some_fed is fact = grind (arith, nat_tests)

  -- the request that would begin a call
  begins_fed : (v : GatewayValue) (n : ℕ) → plans ≡ v.plans → moment ≡ v.moment → drained ≡ v.drained → conn_of n v ≡ Some k → TakesBytes plans moment drained bytes begun k then_begun l jobs result → result ≡ Err Exhausted → WouldBegin n bytes v
  begins_fed v n plans_are moment_is drained_is k_is (not_fed off r l_is none same) e = absurd (let clash = sym r ∙ e in cc)
  begins_fed v n plans_are moment_is drained_is k_is (dropped on over r l_is none same) e = absurd (let clash = sym r ∙ e in cc)
  begins_fed v n plans_are moment_is drained_is k_is (unread on going r l_is none same) e = absurd (let clash = sym r ∙ e in cc)
  begins_fed v n plans_are moment_is drained_is k_is (read on going m reader reads none_comes r l_is none same) e = absurd (let clash = sym r ∙ e in cc)
  begins_fed v n plans_are moment_is drained_is k_is (came on going m request reader x reads comes r l_is jobs_are more few) e = absurd (let clash = sym r ∙ e in cc)
  begins_fed v n plans_are moment_is drained_is k_is (broke on going m request reader x reads comes fault (inl why) r l_is none same) e = absurd (let clash = sym r ∙ e in cc)
  begins_fed v n plans_are moment_is drained_is k_is (broke on going m None reader x reads comes fault (inr (why, most, begins)) r l_is none same) e = grind arith
  begins_fed v n plans_are moment_is drained_is k_is (broke on going m (Some q) reader x reads comes fault (inr (why, most, begins)) r l_is none same) e = record {
    conn = k;
    there = ap if_open k_is ∙ if_open_still k (hears_parts k on).0;
    read = m;
    request = q;
    whole = λ text given h. subst (λ y. HasReadTo y (text ++ take m bytes) given) reads.gives.waited (reads.reads.reads text given h).reads;
    begins =
        (λ i. begins_call (arriving_in (sym moment_is i) (sym drained_is i) (Request q (arrival_of (sym plans_are i) q)) k))
        ∙ ap (λ z. begins_call (arriving_in moment drained z k)) (some_same comes) ∙ begins;
  }

module _ (n : ℕ) (bytes : List ℕ) (v w : GatewayValue) (result : Result ℕ StepFault) (s : IsServing v) where
  pub fed_tells : Feeds n bytes v w result → TellsStep n v w result
  fed_tells (absent none r w_is) = grind arith
  fed_tells (there k l jobs k_is t m w_is) = record {
    gone = (λ e. deaf_kept n v k k_is (gone_fed t e).0, λ off. deaf_fed t (not_heard n v k k_is off));
    unchanged = λ e.
        let g = gone_fed t e in
        w_is ∙ (λ i. record v { conns = m.same (ap (λ x. Some x) g.1 ∙ sym k_is) i; jobs = (ap (λ js. v.jobs ++ js) g.2 ∙ append-nil v.jobs) i; begun = g.3 i });
    broke = λ e. is_now ∙ broke_fed t Memory (λ x. absurd cc) e;
    exhausted = λ e. (is_now ∙ broke_fed t Exhausted (λ x. absurd cc) e, most_fed t e);
    unbroken = whole result (heard_fed t);
  }
    where
      is_now : is_broken_conn n w ≡ (not l.closed && l.broken)
      is_now = broken_now n v w k l k_is m (ap (λ (x : GatewayValue). x.opened) w_is) s

      whole : (r : Result ℕ StepFault) → OnOk r (hears l ≡ true) → OnOk r (is_broken_conn n w ≡ false)
      whole (Ok x) on = is_now ∙ whole_now l on
      whole (Err x) on = tt

  pub fed_begins : Feeds n bytes v w result → result ≡ Err Exhausted → WouldBegin n bytes v
  fed_begins (absent none r w_is) e = absurd (let clash = sym r ∙ e in cc)
  fed_begins (there k l jobs k_is t m w_is) e = begins_fed v n refl refl refl k_is t e

  pub fed_takes : Feeds n bytes v w result → IfOk result (TakesSome (length bytes))
  fed_takes (absent none r w_is) = subst (λ x. IfOk x (TakesSome (length bytes))) (sym r) tt
  fed_takes (there k l jobs k_is t m w_is) = some_fed (s.each n k k_is).settled t

  pub fed_listens : Feeds n bytes v w result → OnOk result (NotListening n w → ⊥)
  fed_listens fact = grind (arith, nat_tests)

-- ---- a hang-up

pub hung_tells : (n : ℕ) (v w : GatewayValue) (result : Result ⊤ StepFault) → HangsUpAt n v w result → IsServing v → TellsStep n v w result
hung_tells n v w result (absent none r w_is) s = grind arith
hung_tells n v w result (there k l k_is t m w_is) s = by t
  where
    is_now : is_broken_conn n w ≡ (not l.closed && l.broken)
    is_now = broken_now n v w k l k_is m (ap (λ (x : GatewayValue). x.opened) w_is) s

    by : HangsUp k l result → TellsStep n v w result
    by (unnoticed off r l_is) = record {
      gone = (λ e. deaf_kept n v k k_is off, λ x. r);
      unchanged = λ e. w_is ∙ ap (λ cs. record v { conns = cs }) (m.same (ap (λ x. Some x) l_is ∙ sym k_is));
      broke = λ e. absurd (let clash = sym r ∙ e in cc);
      exhausted = λ e. absurd (let clash = sym r ∙ e in cc);
      unbroken = subst (λ x. OnOk x (is_broken_conn n w ≡ false)) (sym r) tt;
    }
    by (hung on r l_is) = record {
      gone = (λ e. absurd (let clash = sym r ∙ e in cc), λ off. absurd (let clash : true ≡ false = sym on ∙ not_heard n v k k_is off in cc));
      unchanged = λ e. absurd (let clash = sym r ∙ e in cc);
      broke = λ e. absurd (let clash = sym r ∙ e in cc);
      exhausted = λ e. absurd (let clash = sym r ∙ e in cc);
      unbroken = subst (λ x. OnOk x (is_broken_conn n w ≡ false)) (sym r) (is_now ∙ ap (λ b. not l.closed && b) (ap (λ (x : HeldConnection). x.broken) l_is ∙ (hears_parts k on).1) ∙ none_both (not l.closed));
    }
    by (broke on ends r l_is) = record {
      gone = (λ e. absurd (let clash = sym r ∙ e in cc), λ off. absurd (let clash : true ≡ false = sym on ∙ not_heard n v k k_is off in cc));
      unchanged = λ e. absurd (let clash = sym r ∙ e in cc);
      broke = λ e. is_now ∙ ap (λ (x : HeldConnection). not x.closed && x.broken) l_is ∙ ap (λ b. not b && true) (hears_parts k on).0;
      exhausted = λ e. absurd (let clash = sym r ∙ e in cc);
      unbroken = subst (λ x. OnOk x (is_broken_conn n w ≡ false)) (sym r) tt;
    }

pub hung_exhausted : (n : ℕ) (v w : GatewayValue) (result : Result ⊤ StepFault) → HangsUpAt n v w result → result ≡ Err Exhausted → ⊥
hung_exhausted n v w result fact is = grind (arith, nat_tests)

-- ---- how a result is seen

seen_is : (id : CallId) (i : ℕ) (out : List Bool) (live : Option Live) (past : Past) → CallStands id (call_state out live) past
    → (b : Bool) → slice_index_or out i false ≡ b → seen_by (call_state out live) i ≡ how_seen id i past
seen_is id i out live past fact b is = grind (arith, nat_tests, shut_open)

-- what is kept of a call stands for its connection's own past
call_stands : (id : CallId) (v : GatewayValue) (h : History) (lived : List Placed) → Lives v h lived → CallStands id (call_in id v) (marked (own id.conn (occurrences lived)))
call_stands id v h lived l = subst (λ n. CallStands (call_id n id.request) (call_in id v) (marked (own id.conn (occurrences lived)))) (l.stands.numbers id.conn) ((l.stands.each id.conn).calls id.request)

pub seen_told : (id : CallId) (branch : ℕ) (v : GatewayValue) (seen : Seen) → seen ≡ seen_by (call_in id v) branch → IsSeen id branch v seen
seen_told id branch v seen kept = record {
  kept = kept;
  by_lived = λ h lived l.
      kept ∙ seen_is id branch (call_in id v).out (call_in id v).live (marked (own id.conn (occurrences lived))) (call_stands id v h lived l) (slice_index_or (call_in id v).out branch false) refl
      ∙ sym (own_seen id.conn id.request branch (occurrences lived));
}

-- ---- whether a job is wanted

live_stands : (id : CallId) (past : Past) (l : Option Live) (out : List Bool) → MayLive id l out past → is_some l ≡ is_live id past
live_stands id past None out h = sym h
live_stands id past (Some l) out h = rw (h.call_is, h.undecided, h.unshut) refl

recorded_live : (o : Option Live) → is_some o ≡ is_some (option_map (λ (l : Live). record_of l.asked l.deadlines l.events) o)
recorded_live None = refl
recorded_live (Some l) = refl

-- of one that is not whole no call can be decided
not_whole_dead : (id : CallId) (v : GatewayValue) → IsServing v → is_whole id.conn (shown v) ≡ false → (call_in id v).live ≡ None
not_whole_dead id v s off = by (conn_of id.conn v) refl
  where
    by : (o : Option HeldConnection) → conn_of id.conn v ≡ o → (call_in id v).live ≡ None
    by None is = ap (λ (x : ConnectionValue). (x.calls id.request).live) (absent_value id.conn v is)
    by (Some k) is =
        ap (λ (x : ConnectionValue). (x.calls id.request).live) (there_value id.conn v k is)
        ∙ dead_call (call_id k.number id.request) k.calls ((s.each id.conn k is).holds.dead (shut k.closed k.broken refl refl))
      where
        shut : (a b : Bool) → k.closed ≡ a → k.broken ≡ b → (k.closed || k.broken) ≡ true
        shut a b one other = grind (arith, nat_tests)

pub wanted_told : (id : CallId) (v : GatewayValue) → IsServing v → (wanted : Bool) → wanted ≡ is_some (call_in id v).live → IsWanted id v wanted
wanted_told id v s wanted kept = record {
  kept = kept ∙ recorded_live (call_in id v).live;
  broken = λ off. kept ∙ ap (λ (l : Option Live). is_some l) (not_whole_dead id v s off);
  by_lived = λ h lived l.
      let a = own_alike id.conn (occurrences lived) in
      kept ∙ live_stands id (marked (own id.conn (occurrences lived))) (call_in id v).live (call_in id v).out (call_stands id v h lived l).live_is
      ∙ sym (λ i. is_some (a.call_is id.request i) && (is_none (a.decided_is id.request i) && not (a.shut_is i)));
}

-- ---- what a result tells

-- what is found is what is kept
found_in : (id : CallId) (v : GatewayValue) (k : HeldConnection) (i : ℕ) → conn_of id.conn v ≡ Some k → IsServing v → IsFound id k.calls (Some i) → call_in id v ≡ (kept_at i k.calls).call
found_in id v k i k_is s found = ap (λ (x : ConnectionValue). x.calls id.request) (there_value id.conn v k k_is) ∙ ap (λ n. call_at (call_id n id.request) k.calls) (s.each id.conn k k_is).number_is ∙ call_found id k.calls i found

not_unknown : (c : CallState) (branch : ℕ) → has_out c branch ≡ true → seen_by c branch ≡ Unknown → ⊥
not_unknown c branch out e = grind arith

counted_live : (c : CallState) (branch : ℕ) → has_out c branch ≡ true → is_some c.live ≡ true → seen_by c branch ≡ Counted
counted_live c branch out live = ap (λ b. if b then (if is_some c.live then Counted else Late) else Unknown) out ∙ ap (λ b. if b then Counted else Late) live

unknown_seen : (c : CallState) (branch : ℕ) → has_out c branch ≡ false → seen_by c branch ≡ Unknown
unknown_seen c branch out = ap (λ b. if b then (if is_some c.live then Counted else Late) else Unknown) out

-- nothing that is over is kept of the call
none_left : (id : CallId) (k l : HeldConnection) → Forgets id k l → NoneSpentIn id l.calls
none_left id k l (stays spent is) i found = ap is_spent (sym (call_found id l.calls i found)) ∙ ap (λ (x : HeldConnection). is_spent (call_at id x.calls)) is ∙ spent
none_left id k l (forgotten spent is) i found = grind (arith, nat_tests, filter_passes, All-get_or)

none_spent_then : (id : CallId) (v w : GatewayValue) (k l : HeldConnection) → Moves id.conn (left_of l) v w → Forgets id k l → NoneSpent id w
none_spent_then id v w k l m forgets x x_is = grind (arith, nat_tests, left_some, none_left)

-- its own breaks
one_breaks : (n : ℕ) (v w : GatewayValue) (k l : HeldConnection) → conn_of n v ≡ Some k → Moves n (left_of l) v w → w.opened ≡ v.opened → IsServing v → k.broken ≡ false → l.closed ≡ false → l.broken ≡ true → Breaks v w true
one_breaks n v w k l k_is m opened_is s whole still broke_now = (
  n,
  ap (λ x. broken_at x n (conn_of n w)) opened_is ∙ ap (broken_at v.opened n) (m.here ∙ ap (λ b. if b then None else Some l) (ap (λ b. b && not (has_out_in l)) still))
      ∙ rw (lt-ltb n v.opened (s.each n k k_is).born, still, broke_now) refl,
  ap (broken_at v.opened n) k_is ∙ ap (λ b. (nat_lt n v.opened && not k.closed) && b) whole ∙ none_both (nat_lt n v.opened && not k.closed),
)

forgets_broken : (id : CallId) (k l : HeldConnection) → Forgets id k l → (l.broken ≡ k.broken) × (l.closed ≡ k.closed)
forgets_broken id k l (stays spent is) = (ap (λ (x : HeldConnection). x.broken) is, ap (λ (x : HeldConnection). x.closed) is)
forgets_broken id k l (forgotten spent is) = (ap (λ (x : HeldConnection). x.broken) is, ap (λ (x : HeldConnection). x.closed) is)

abbrev took_as : Seen → Bool → Took
took_as seen breaks = record { seen = seen; broke = breaks }

module _ (id : CallId) (branch : ℕ) (v w : GatewayValue) (took : Took) (s : IsServing v) where
  -- of no branch that is out
  unknown_tells : has_out (call_in id v) branch ≡ false → took ≡ took_as Unknown false → w ≡ record v { tally = w.tally } → TellsTook id branch took v w
  unknown_tells out t w_is = record {
    seen = seen_told id branch v took.seen (ap (λ (x : Took). x.seen) t ∙ sym (unknown_seen (call_in id v) branch out));
    counted = λ e. absurd (let clash : true ≡ false = sym e ∙ ap (λ (x : Took). x.broke) t in cc);
    broke = subst (λ b. Breaks v w b) (sym (ap (λ (x : Took). x.broke) t)) (λ c on. sym (ap (is_broken_conn c) w_is) ∙ on);
    unknown = λ e. w_is;
    none_spent = λ other. absurd (other (ap (λ (x : Took). x.seen) t));
  }

  module _ (k l : HeldConnection) (k_is : conn_of id.conn v ≡ Some k) (m : Moves id.conn (left_of l) v w) (opened_is : w.opened ≡ v.opened) where
    out_there : has_out (call_at id k.calls) branch ≡ false → has_out (call_in id v) branch ≡ false
    out_there out = ap (λ (x : ConnectionValue). has_out (x.calls id.request) branch) (there_value id.conn v k k_is) ∙ ap (λ n. has_out (call_at (call_id n id.request) k.calls) branch) (s.each id.conn k k_is).number_is ∙ out

    -- its call made its step, or a branch of it came back
    settled_tells : (between : HeldConnection) (i : ℕ) → between.broken ≡ k.broken → between.closed ≡ k.closed → IsFound id k.calls (Some i) → has_out (kept_at i k.calls).call branch ≡ true
        → took ≡ took_as (seen_by (kept_at i k.calls).call branch) false → Forgets id between l → TellsTook id branch took v w
    settled_tells between i broken_is closed_is found out t forgets = record {
      seen = seen_told id branch v took.seen (ap (λ (x : Took). x.seen) t ∙ ap (λ (c : CallState). seen_by c branch) (sym (found_in id v k i k_is s found)));
      counted = λ e. absurd (let clash : true ≡ false = sym e ∙ ap (λ (x : Took). x.broke) t in cc);
      broke = grind (arith, nat_tests);
      unknown = λ e. absurd (not_unknown (kept_at i k.calls).call branch out (sym (ap (λ (x : Took). x.seen) t) ∙ e));
      none_spent = λ other. none_spent_then id v w between l m forgets;
    }

    -- memory was refused, where it counted
    lost_tells : (i : ℕ) → IsFound id k.calls (Some i) → has_out (kept_at i k.calls).call branch ≡ true → is_some (kept_at i k.calls).call.live ≡ true
        → took ≡ took_as (seen_by (kept_at i k.calls).call branch) true → Forgets id (lost_held i branch k) l → TellsTook id branch took v w
    lost_tells i found out live t forgets = record {
      seen = seen_told id branch v took.seen (ap (λ (x : Took). x.seen) t ∙ ap (λ (c : CallState). seen_by c branch) (sym (found_in id v k i k_is s found)));
      counted = λ e. ap (λ (x : Took). x.seen) t ∙ counted_live (kept_at i k.calls).call branch out live;
      broke = subst (λ b. Breaks v w b) (sym (ap (λ (x : Took). x.broke) t))
          (let f = forgets_broken id (lost_held i branch k) l forgets in let goes = live_goes i k (s.each id.conn k k_is).holds found.0 live in
          one_breaks id.conn v w k l k_is m opened_is s goes.1 (f.1 ∙ goes.0) f.0);
      unknown = λ e. absurd (not_unknown (kept_at i k.calls).call branch out (sym (ap (λ (x : Took). x.seen) t) ∙ e));
      none_spent = λ other. none_spent_then id v w (lost_held i branch k) l m forgets;
    }

pub result_tells : (id : CallId) (branch : ℕ) (outcome : Outcome) (v w : GatewayValue) (took : Took) → Results id branch outcome v w took → IsServing v → TellsTook id branch took v w
result_tells id branch outcome v w took (absent none t tally w_is) s = unknown_tells id branch v w took s (ap (λ (x : ConnectionValue). has_out (x.calls id.request) branch) (absent_value id.conn v none)) t w_is
result_tells id branch outcome v w took (there k l jobs k_is t m tally w_is) s = by t
  where
    opened_is : w.opened ≡ v.opened
    opened_is = ap (λ (x : GatewayValue). x.opened) w_is

    by : TakesResult v.moment id branch outcome k l jobs took → TellsTook id branch took v w
    by (unknown out t l_is none) = unknown_tells id branch v w took s (out_there id branch v w took s k l k_is m opened_is out) t (unknown_same id v w k l jobs k_is s m w_is l_is none)
    by (settled i found out t forgets jobs_are own) = settled_tells id branch v w took s k l k_is m opened_is (settled_held i (result_in v.moment i branch outcome k) k) i
        (ap (λ (x : HeldConnection). x.broken) (replied_rest (kept_at i k.calls).id.request (result_in v.moment i branch outcome k).reply (stepped_held i (result_in v.moment i branch outcome k) k)))
        (like_settled v.moment i branch outcome k).closed_is found out t forgets
    by (lost i found out live t forgets none) = lost_tells id branch v w took s k l k_is m opened_is i found out live t forgets
