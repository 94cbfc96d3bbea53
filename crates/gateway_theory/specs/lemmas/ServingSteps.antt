-- Each call of the gateway leaves what holds between two calls.
use Rattle.std.specs.Prelude.{◌≡◌, ◌+◌, ◌<◌, ◌≤◌, if◌then◌else◌}
use Rattle.gateway_theory.specs.lemmas.Names.{ℕ, Bool, true, false, List, [], length, Option, None, Some, refl, sym, ap, ◌∙◌, subst, arith, nat_tests, sum_by, ⊤, is_some, HasRead, PlanRecord, Outcome, JobValue, CallId, GatewayValue, conn_of, HeldConnection, ReplyValue, moment_after, kept_at, HandedJob, StepFault, Took, Trigger, Drained, HungUp, Reached, one_if_open, open_count, not_fed, dropped, unread, read, broke, unnoticed, hung, ended, unknown, settled, late, lost, CallsEnd, HangsUp, Holds, TakesBytes, TakesReply, TakesResult, TakesStarved, closed_held, hung_held, is_gone, left_of, lost_held, new_held, new_reader, read_held, IsHeld, IsServing, absent, there, shut, Broadcast, Closes, Drains, Feeds, HangsUpAt, MayEnd, Moves, Opens, Reaches, Results, Starves, TakesJob, TakesReplyAt, open_in, append-nil, Answer, is_none, Live, Forgets, Step}
use Rattle.std.proofs.Common.{Result}
use Rattle.std.specs.List.Sorted.{IsStrictlySortedBy}
use Rattle.std.specs.Map.{keys_of, values_of}
use Rattle.std.specs.Ordering.{nat_cmp}
use Rattle.gateway_theory.specs.lemmas.StoreLemmas.{some_same}
use Rattle.gateway_theory.specs.Held.{came}
use Rattle.gateway_theory.specs.Steps.{closes}
use Rattle.gateway_theory.specs.lemmas.Conns.{moves_kept, moves_serving, look, sum_alike, sum_values}
use Rattle.gateway_theory.specs.lemmas.HeldValues.{late_settles, late_step}
use Rattle.gateway_theory.specs.lemmas.HeldSteps.{Like, held_broken, held_closed, held_ended, held_entered, held_hung, held_like, held_new, held_read, hears_parts, like_forgotten, like_itself, like_lost, like_settled, like_then, holds_forgotten, holds_lost, holds_settled}

-- ---- at first, and where nothing of the connections changes

pub same_serving : (v w : GatewayValue) → w.conns ≡ v.conns → w.opened ≡ v.opened → IsServing v → IsServing w
same_serving v w conns_are opened_is s = record {
  each = λ c k is. subst (λ n. IsHeld n c k) (sym opened_is) (s.each c k (ap (λ es. look c es) (sym conns_are) ∙ is));
  sorted = subst (λ es. IsStrictlySortedBy nat_cmp (keys_of es)) (sym conns_are) s.sorted;
  few_open = let few = s.few_open in let same : open_count w ≡ open_count v = ap (λ es. sum_by one_if_open (values_of es)) conns_are in omega (arith, few, same);
}

-- what stays is it, and is not gone
pub left_some : (k l : HeldConnection) → left_of k ≡ Some l → (k ≡ l) × (is_gone k ≡ false)
left_some k l e = grind arith

pub job_serving : (v w : GatewayValue) (job : Option HandedJob) → TakesJob v w job → IsServing v → IsServing w
job_serving v w job t = same_serving v w (ap (λ (x : GatewayValue). x.conns) t.rest) (ap (λ (x : GatewayValue). x.opened) t.rest)

-- ---- openings and closings

pub opens_serving : HasRead new_reader [] [] → (v w : GatewayValue) (number : ℕ) → Opens v w number → IsServing v → IsServing w
opens_serving fresh v w number o s =
    let opened_is : w.opened ≡ v.opened + 1 = ap (λ (x : GatewayValue). x.opened) o.rest in
    moves_serving v.opened (Some (new_held v.opened)) v w o.moves s (omega (arith, opened_is))
    (λ k is. subst (λ x. IsHeld w.opened v.opened x) (some_same is) (subst (λ n. IsHeld n v.opened (new_held v.opened)) (sym opened_is) (held_new v.opened fresh)))
    (let sum = o.moves.open_is in let few = o.few in omega (arith, sum, few))

pub closes_serving : (number : ℕ) (v w : GatewayValue) (result : Bool) → Closes number v w result → IsServing v → IsServing w
closes_serving number v w result (absent none r w_is) s = subst IsServing (sym w_is) s
closes_serving number v w result (shut k k_is off r w_is) s = subst IsServing (sym w_is) s
closes_serving number v w result (closes k k_is still r m w_is) s =
    let opened_is : w.opened ≡ v.opened = ap (λ (x : GatewayValue). x.opened) w_is in
    moves_serving number (left_of (closed_held k)) v w m s (omega (arith, opened_is))
    (λ l l_is. let x = left_some (closed_held k) l l_is in subst (λ n. IsHeld n number l) (sym opened_is) (subst (λ y. IsHeld v.opened number y) x.0 (held_closed v.opened number k x.1 (s.each number k k_is))))
    (let sum = m.open_is in let few = s.few_open in let none : open_in (left_of (closed_held k)) ≡ 0 = none_open (is_gone (closed_held k)) in omega (arith, sum, few, none))
  where
    none_open : (b : Bool) → open_in (if b then None else Some (closed_held k)) ≡ 0
    none_open b = grind (arith, nat_tests)

-- ---- what comes on a connection

pub fed_closed : (plans : List PlanRecord) (moment : ℕ) (drained : Bool) (bytes : List ℕ) (begun : ℕ) (k : HeldConnection) (then_begun : ℕ) (l : HeldConnection) (jobs : List JobValue) (result : Result ℕ StepFault)
    → TakesBytes plans moment drained bytes begun k then_begun l jobs result → l.closed ≡ k.closed
fed_closed plans moment drained bytes begun k then_begun l jobs result fact = grind (arith, nat_tests)

fed_held : (n c : ℕ) (plans : List PlanRecord) (moment : ℕ) (drained : Bool) (bytes : List ℕ) (begun : ℕ) (k : HeldConnection) (then_begun : ℕ) (l : HeldConnection) (jobs : List JobValue) (result : Result ℕ StepFault)
    → TakesBytes plans moment drained bytes begun k then_begun l jobs result → IsHeld n c k → IsHeld n c l
fed_held n c plans moment drained bytes begun k then_begun l jobs result (not_fed off r l_is j b) h = subst (IsHeld n c) (sym l_is) h
fed_held n c plans moment drained bytes begun k then_begun l jobs result (dropped on over r l_is j b) h = subst (IsHeld n c) (sym l_is) h
fed_held n c plans moment drained bytes begun k then_begun l jobs result (unread on going r l_is j b) h = subst (IsHeld n c) (sym l_is) (held_broken n c k (hears_parts k on).0 h)
fed_held n c plans moment drained bytes begun k then_begun l jobs result (read on going m reader reads none r l_is j b) h = subst (IsHeld n c) (sym l_is) (held_read n c plans bytes m None reader k on going reads h)
fed_held n c plans moment drained bytes begun k then_begun l jobs result (came on going m request reader x reads some r l_is j b few) h =
    subst (IsHeld n c) (sym l_is) (held_entered n c plans bytes m request reader k on going reads h moment drained x some)
fed_held n c plans moment drained bytes begun k then_begun l jobs result (broke on going m request reader x reads some fault f r l_is j b) h =
    subst (IsHeld n c) (sym l_is) (held_broken n c (read_held reader k) (hears_parts k on).0 (held_read n c plans bytes m request reader k on going reads h))

pub feeds_serving : (number : ℕ) (bytes : List ℕ) (v w : GatewayValue) (result : Result ℕ StepFault) → Feeds number bytes v w result → IsServing v → IsServing w
feeds_serving number bytes v w result (absent none r w_is) s = subst IsServing (sym w_is) s
feeds_serving number bytes v w result (there k l jobs k_is t m w_is) s =
    moves_kept number (Some l) v w m k l k_is refl (fed_closed v.plans v.moment v.drained bytes v.begun k w.begun l jobs result t) (ap (λ (x : GatewayValue). x.opened) w_is) s
    (fed_held v.opened number v.plans v.moment v.drained bytes v.begun k w.begun l jobs result t)

pub hung_closed : (k l : HeldConnection) (result : Result ⊤ StepFault) → HangsUp k l result → l.closed ≡ k.closed
hung_closed k l result fact = grind (arith, nat_tests)

hung_is_held : (n c : ℕ) (k l : HeldConnection) (result : Result ⊤ StepFault) → HangsUp k l result → IsHeld n c k → IsHeld n c l
hung_is_held n c k l result (unnoticed off r l_is) h = subst (IsHeld n c) (sym l_is) h
hung_is_held n c k l result (hung on r l_is) h = subst (IsHeld n c) (sym l_is) (held_ended n c (HungUp k.number) (hung_held k) (held_hung n c k h))
hung_is_held n c k l result (broke on ends r l_is) h = subst (IsHeld n c) (sym l_is) (held_broken n c (hung_held k) (hears_parts k on).0 (held_hung n c k h))

pub hangs_serving : (number : ℕ) (v w : GatewayValue) (result : Result ⊤ StepFault) → HangsUpAt number v w result → IsServing v → IsServing w
hangs_serving number v w result (absent none r w_is) s = subst IsServing (sym w_is) s
hangs_serving number v w result (there k l k_is t m w_is) s =
    moves_kept number (Some l) v w m k l k_is refl (hung_closed k l result t) (ap (λ (x : GatewayValue). x.opened) w_is) s (hung_is_held v.opened number k l result t)

-- ---- a moment, and the drain

ended_closed : (t : Trigger) (k l : HeldConnection) → CallsEnd t k l → l.closed ≡ k.closed
ended_closed t k l (ended is) = ap (λ (x : HeldConnection). x.closed) is
ended_closed t k l (broke still whole ends is) = ap (λ (x : HeldConnection). x.closed) is

ended_is_held : (n c : ℕ) (t : Trigger) (k l : HeldConnection) → CallsEnd t k l → IsHeld n c k → IsHeld n c l
ended_is_held n c t k l (ended is) h = subst (IsHeld n c) (sym is) (held_ended n c t k h)
ended_is_held n c t k l (broke still whole ends is) h = subst (IsHeld n c) (sym is) (held_broken n c k still h)

module _ (t : Trigger) (v w : GatewayValue) (broke_is : Bool) (b : Broadcast t v w broke_is) (opened_is : w.opened ≡ v.opened) (s : IsServing v) where
  each_ended : (c : ℕ) (o : Option HeldConnection) → MayEnd t o (conn_of c w) → conn_of c v ≡ o → (l : HeldConnection) → conn_of c w ≡ Some l → (k : HeldConnection) × (conn_of c v ≡ Some k) × CallsEnd t k l
  each_ended c None m o_is l l_is = absurd (let clash : Some l ≡ None = sym l_is ∙ m in cc)
  each_ended c (Some k) (x, x_is, ends) o_is l l_is = (k, o_is, subst (CallsEnd t k) (some_same (sym x_is ∙ l_is)) ends)

  open_alike : (c : ℕ) (o : Option HeldConnection) → MayEnd t o (conn_of c w) → open_in (conn_of c w) ≡ open_in o
  open_alike c None m = ap open_in m
  open_alike c (Some k) (l, l_is, ends) = ap open_in l_is ∙ ap (λ x. if x then 0 else 1) (ended_closed t k l ends)

  sorted_then : IsStrictlySortedBy nat_cmp (keys_of w.conns)
  sorted_then = subst (λ ks. IsStrictlySortedBy nat_cmp ks) (sym b.keys_are) s.sorted

  each_then : (c : ℕ) (l : HeldConnection) → conn_of c w ≡ Some l → IsHeld v.opened c l
  each_then c l l_is = let x = each_ended c (conn_of c v) (b.each c) refl l l_is in ended_is_held v.opened c t x.0 l x.2 (s.each c x.0 x.1)

  pub open_same : open_count w ≡ open_count v
  open_same =
      sum_values one_if_open v.opened w.conns sorted_then (λ c l is. (each_then c l is).born)
      ∙ sum_alike v.opened (λ c. open_in (conn_of c w)) (λ c. open_in (conn_of c v)) (λ c lt. open_alike c (conn_of c v) (b.each c))
      ∙ sym (sum_values one_if_open v.opened v.conns s.sorted (λ c k is. (s.each c k is).born))

  pub broadcast_serving : IsServing w
  broadcast_serving = record {
    each = λ c l is. subst (λ n. IsHeld n c l) (sym opened_is) (each_then c l is);
    sorted = sorted_then;
    few_open = let few = s.few_open in let same = open_same in omega (arith, few, same);
  }

pub reaches_serving : (moment : ℕ) (v w : GatewayValue) (broke_is : Bool) → Reaches moment v w broke_is → IsServing v → IsServing w
reaches_serving moment v w broke_is r s = broadcast_serving (Reached (moment_after v.moment moment)) v w broke_is r.ends (ap (λ (x : GatewayValue). x.opened) r.rest) s

pub drains_serving : (v w : GatewayValue) (broke_is : Bool) → Drains v w broke_is → IsServing v → IsServing w
drains_serving v w broke_is r s = broadcast_serving Drained v w broke_is r.ends (ap (λ (x : GatewayValue). x.opened) r.rest) s

-- ---- results

-- what was kept is kept so, or is gone
left_serving : (c : ℕ) (k l : HeldConnection) (v w : GatewayValue) → Moves c (left_of l) v w → conn_of c v ≡ Some k → w.opened ≡ v.opened → Like k l → Holds l → IsServing v → IsServing w
left_serving c k l v w m k_is opened_is like holds s =
    moves_serving c (left_of l) v w m s (omega (arith, opened_is))
    (λ x x_is. let y = left_some l x x_is in subst (λ n. IsHeld n c x) (sym opened_is) (subst (λ z. IsHeld v.opened c z) y.0 (held_like v.opened c k l like holds y.1 (s.each c k k_is))))
    (let sum = m.open_is in let few = s.few_open in
    let old : open_in (conn_of c v) ≡ one_if_open k = ap open_in k_is in
    let less = few_left (is_gone l) in
    let same : one_if_open l ≡ one_if_open k = ap (λ b. if b then 0 else 1) like.closed_is in omega (arith, sum, few, old, less, same))
  where
    few_left : (b : Bool) → open_in (if b then None else Some l) ≤ one_if_open l
    few_left b = grind (arith, nat_tests)

-- a call that can be decided is of a connection that is neither closed nor broken
pub live_goes : (i : ℕ) (k : HeldConnection) → Holds k → i < length k.calls → is_some (kept_at i k.calls).call.live ≡ true → (k.closed ≡ false) × (k.broken ≡ false)
live_goes i k h lt live = grind arith

pub taken_like : (moment : ℕ) (id : CallId) (branch : ℕ) (outcome : Outcome) (k l : HeldConnection) (jobs : List JobValue) (took : Took) → TakesResult moment id branch outcome k l jobs took → Holds k → Like k l × Holds l
taken_like moment id branch outcome k l jobs took (unknown out t l_is j) h = (subst (Like k) (sym l_is) (like_itself k), subst Holds (sym l_is) h)
taken_like moment id branch outcome k l jobs took (settled i found out t forgets j own) h = search (arith, nat_tests, like_then, like_settled, like_forgotten, holds_forgotten, holds_settled)
taken_like moment id branch outcome k l jobs took (lost i found out live t forgets j) h = (
  like_then k (lost_held i branch k) l (like_lost i branch k ((live_goes i k h found.0 live).0)) (like_forgotten id (lost_held i branch k) l forgets),
  holds_forgotten id (lost_held i branch k) l forgets (holds_lost i branch k found.0 h),
)

pub results_serving : (id : CallId) (branch : ℕ) (outcome : Outcome) (v w : GatewayValue) (took : Took) → Results id branch outcome v w took → IsServing v → IsServing w
results_serving id branch outcome v w took (absent none t tally w_is) s = same_serving v w (ap (λ (x : GatewayValue). x.conns) w_is) (ap (λ (x : GatewayValue). x.opened) w_is) s
results_serving id branch outcome v w took (there k l jobs k_is t m tally w_is) s =
    let x = taken_like v.moment id branch outcome k l jobs took t (s.each id.conn k k_is).holds in
    left_serving id.conn k l v w m k_is (ap (λ (x : GatewayValue). x.opened) w_is) x.0 x.1 s

-- what is known of none is as any result: of a call that can be decided it is lost, and of another its branch comes back
starved_as : (moment : ℕ) (id : CallId) (branch : ℕ) (outcome : Outcome) (k l : HeldConnection) (took : Took) → TakesStarved id branch k l took → TakesResult moment id branch outcome k l [] took
starved_as moment id branch outcome k l took (unknown out t l_is) = unknown out t l_is refl
starved_as moment id branch outcome k l took (late i found out dead t forgets) =
    let none : (kept_at i k.calls).call.live ≡ None = by (kept_at i k.calls).call.live dead in
    settled i found out t (subst (λ x. Forgets id x l) (late_settles moment branch outcome i k none) forgets) (sym (ap (λ (s : Step). s.jobs) (late_step moment branch outcome i k none)))
    (λ j d lt. absurd (omega (arith, lt)))
  where
    by : (o : Option Live) → is_none o ≡ true → o ≡ None
    by o is = grind (arith, nat_tests)
starved_as moment id branch outcome k l took (lost i found out live t forgets) = lost i found out live t forgets refl

pub starved_like : (id : CallId) (branch : ℕ) (k l : HeldConnection) (took : Took) → TakesStarved id branch k l took → Holds k → Like k l × Holds l
starved_like id branch k l took t h = taken_like 0 id branch (Answer []) k l [] took (starved_as 0 id branch (Answer []) k l took t) h

pub starves_as : (id : CallId) (branch : ℕ) (outcome : Outcome) (v w : GatewayValue) (took : Took) → Starves id branch v w took → Results id branch outcome v w took
starves_as id branch outcome v w took (absent none t tally w_is) = absent none t tally w_is
starves_as id branch outcome v w took (there k l k_is t m tally w_is) =
    there k l [] k_is (starved_as v.moment id branch outcome k l took t) m tally (w_is ∙ ap (λ js. record v { conns = w.conns; jobs = js; tally = w.tally }) (sym (append-nil v.jobs)))

pub starves_serving : (id : CallId) (branch : ℕ) (v w : GatewayValue) (took : Took) → Starves id branch v w took → IsServing v → IsServing w
starves_serving id branch v w took r s = results_serving id branch (Answer []) v w took (starves_as id branch (Answer []) v w took r) s

-- ---- replies

pub reply_held : (n c : ℕ) (k l : HeldConnection) (reply : Option ReplyValue) → TakesReply k l reply → IsHeld n c k → (l.closed ≡ k.closed) × IsHeld n c l
reply_held n c k l reply fact further = search arith

pub reply_serving : (number : ℕ) (v w : GatewayValue) (reply : Option ReplyValue) → TakesReplyAt number v w reply → IsServing v → IsServing w
reply_serving number v w reply (absent none r w_is) s = subst IsServing (sym w_is) s
reply_serving number v w reply (there k l k_is t m w_is) s =
    moves_kept number (Some l) v w m k l k_is refl (reply_held v.opened number k l reply t (s.each number k k_is)).0 (ap (λ (x : GatewayValue). x.opened) w_is) s (λ h. (reply_held v.opened number k l reply t h).1)
