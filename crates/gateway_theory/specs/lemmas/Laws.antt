-- The public clauses of the gateway's calls, by the exact step of each call and by what holds between two calls.
use Rattle.std.specs.Prelude.{◌≡◌, ◌+◌, ◌≤◌, ◌∷◌, ◌++◌, ◌==◌, if◌then◌else◌}
use Rattle.gateway_theory.specs.lemmas.Names.{ℕ, zero, suc, map, Bool, true, false, List, [], length, Option, None, Some, Ok, Err, refl, sym, ap, ◌∙◌, subst, arith, nat_tests, ⊤, IfOk, IfSome, OnOk, is_some, option_map, option_to_list, le-ltb, HasRead, PlanRecord, Outcome, Occurs, open_connections, History, after_event, no_history, IsKnown, own, length-append, length-map, arrivals, count_below, is_broken, marked, queued_entries, Placed, occurrences, Event, BranchResult, CallId, ReplyValue, RequestLaws, HandedJob, StepFault, Took, not_kept, GatewayValue, connection, conn_of, shown, HeldConnection, call_in, core_of, is_broken_conn, is_open_conn, next_reply, one_if_open, open_count, untaken_of, new_reader, CountsCalls, IsServing, Keeps, KeepsBut, NotListening, TakesOnly, TakesSome, TellsStep, WouldBegin, Closes, Drains, Feeds, HangsUpAt, Opens, Reaches, Results, Starves, TakesJob, TakesReplyAt, first_gateway, open_in, AddsEvent, AddsOpening, HandsJobs, HandsReply, IsWanted, LeavesLived, LeavesReplied, OpensFew, TakesEvent, TakesOneOf, TakesOpening, TellsTook, Answer}
use Rattle.std.proofs.Common.{Result}
use Rattle.gateway_theory.specs.lemmas.OwnLemmas.{own_alike}
use Rattle.gateway_model.specs.declared.event.Event.TheVariants.{Closing, Drain, HangUp, Moment, Opening}
use Rattle.gateway_theory.specs.declared.fault.StepFault.TheVariants.{Exhausted}
use Rattle.gateway_theory.specs.lemmas.ServedOpens.{never_broke, grown, occurs_before, open_count as count_open}
use Rattle.gateway_theory.specs.Served.{Adds, Lives, Served}
use Rattle.gateway_theory.specs.Told.{TakesBytes}
use Rattle.gateway_theory.specs.lemmas.Conns.{open_there, shut_absent, shut_there, sum_alike, sum_below, sum_values}
use Rattle.gateway_theory.specs.lemmas.Keeps.{all_keeps, closing_keeps, draining_keeps, fed_counts, fed_keeps, hanging_keeps, opening_keeps, reaching_keeps, result_keeps}
use Rattle.gateway_theory.specs.lemmas.PiecesAdd.{feeds_one as one_fed, feeds_stand}
use Rattle.gateway_theory.specs.lemmas.Knowing.{broken_shown, queue_shown}
use Rattle.gateway_theory.specs.lemmas.Taken.{first_told, its_told, job_hands, job_leaves, none_told, only_told, reply_hands, reply_leaves}
use Rattle.gateway_theory.specs.lemmas.Tells.{fed_begins, fed_listens, fed_takes, fed_tells, hung_exhausted, hung_tells, result_tells, wanted_told}
use Rattle.gateway_theory.specs.lemmas.ServingSteps.{starves_as}
use Rattle.gateway_theory.specs.Core as core
use Rattle.gateway_theory.specs.lemmas.BroadcastAdds as broadcasts
use Rattle.gateway_theory.specs.lemmas.CallsAdd as calls
use Rattle.gateway_theory.specs.lemmas.Adding as core_adding
use Rattle.gateway_theory.specs.lemmas.Knowing as core_known
use Rattle.gateway_theory.specs.lemmas.Standing as core_serving

-- ---- what holds for whatever occurred

-- an event that adds
pub served_event : (e : Event) (h : History) (v w : GatewayValue) → w.plans ≡ v.plans → Adds h.opened e h v w → Served v h → Served w (after_event e h)
served_event e h v w plans_are adds s = core_adding.served_event e h (core_of v) (core_of w) plans_are adds s

-- ---- at first

first_core : (plans : List PlanRecord) → core_of (first_gateway plans) ≡ core_serving.first plans
first_core plans = λ i. record (core_serving.first plans) { conns = λ c. not_kept (le-ltb c 0 (omega arith) i) c }

pub first_stands : (plans : List PlanRecord) → Served (first_gateway plans) no_history
first_stands plans = subst (λ x. core.Served x no_history) (sym (first_core plans)) (core_serving.first_served plans)

pub first_lives : (plans : List PlanRecord) → Lives (first_gateway plans) no_history []
first_lives plans = subst (λ x. core.Lives x no_history []) (sym (first_core plans)) (core_serving.first_lived plans)

-- ---- what is known of it

pub known : (v : GatewayValue) (h : History) (occurred : List Placed) → Served v h → Occurs v.plans h.opened h.events occurred → IsKnown (shown v) h occurred
known v h occurred s o = core_known.known (core_of v) h occurred s o

-- one that was not opened did not break
pub unopened_unbroken : (v : GatewayValue) (h : History) (lived : List Placed) → Lives v h lived → (c : ℕ) → v.opened ≤ c → is_broken c (marked (occurrences lived)) ≡ false
unopened_unbroken v h lived l c le =
    let new = (l.conns.each c).unopened (le-ltb c v.opened le) in
    let stands = l.stands.each c in
    let size : length (map Some (h.taken c) ++ (connection c v).slots) ≡ arrivals c (marked (own c (occurrences lived))) =
    (stands.slots_stand new.1).size_is ∙ ap (λ d. arrivals d (marked (own c (occurrences lived)))) (l.stands.numbers c) in
    let long = length-append (map Some (h.taken c)) (connection c v).slots in
    let taken : length (map Some (h.taken c)) ≡ length (h.taken c) = length-map (h.taken c) Some in
    let none : arrivals c (marked (own c (occurrences lived))) ≡ 0 = omega (arith, size, long, taken, stands.taken_is new.1, new.0) in
    never_broke h.opened c h.events lived (let n = l.conns.count_is in omega (arith, n, le)) ((own_alike c (occurrences lived)).arrivals_are ∙ none) l.breaks

-- of an open connection, where this was lived
module _ (v : GatewayValue) (h : History) (lived : List Placed) (l : Lives v h lived) (c : ℕ) (there : is_open_conn c v ≡ true) where
  pub broken_lived : is_broken_conn c v ≡ is_broken c (marked (occurrences lived))
  broken_lived = broken_shown (core_of v).now (core_of v).conns v.opened h.taken h.handed v.jobs (occurrences lived) l.stands c there

  pub queue_lived : h.taken c ++ untaken_of c v ≡ queued_entries c (marked (occurrences lived))
  queue_lived = queue_shown (core_of v).now (core_of v).conns v.opened h.taken h.handed v.jobs (occurrences lived) l.stands c there

-- ---- openings

count_sum : (n : ℕ) (p : ℕ → Bool) → count_below n p ≡ sum_below n (λ c. if p c then 1 else 0)
count_sum zero p = refl
count_sum (suc n) p = grind (arith, count_sum n p)

-- as many are open by what is kept as by the values
open_same : (v : GatewayValue) → IsServing v → open_count v ≡ count_below v.opened (λ c. is_open_conn c v)
open_same v s =
    sum_values one_if_open v.opened v.conns s.sorted (λ c k is. (s.each c k is).born)
    ∙ sum_alike v.opened (λ c. open_in (conn_of c v)) (λ c. if is_open_conn c v then 1 else 0) (λ c lt. each c (conn_of c v) refl)
    ∙ sym (count_sum v.opened (λ c. is_open_conn c v))
  where
    each : (c : ℕ) (o : Option HeldConnection) → conn_of c v ≡ o → open_in (conn_of c v) ≡ (if is_open_conn c v then 1 else 0)
    each c None is = ap open_in is ∙ sym (ap (λ b. if b then 1 else 0) (shut_absent c v is))
    each c (Some k) is = ap open_in is ∙ by k.closed refl
      where
        by : (b : Bool) → k.closed ≡ b → one_if_open k ≡ (if is_open_conn c v then 1 else 0)
        by true closed = ap (λ b. if b then 0 else 1) closed ∙ sym (ap (λ b. if b then 1 else 0) (shut_there c v k is closed))
        by false still = ap (λ b. if b then 0 else 1) still ∙ sym (ap (λ b. if b then 1 else 0) (open_there c v k s is still))

-- no more are open by the events than by what is kept
pub open_few : (v : GatewayValue) (h : History) → IsServing v → Served v h → open_connections h.opened h.events ≡ open_count v
open_few v h s served = count_open h.opened h.events v.opened (core_of v).conns (core_of v).streams served.conns ∙ sym (open_same v s)

-- E is what a refusal has
module _ (E : Type 0) where
  pub opens_stands : HasRead new_reader [] [] → (v w : GatewayValue) (n : ℕ) → Opens v w n → IsServing v → TakesOpening {E = E} (Ok n) v w
  opens_stands fresh v w n o s h served =
      core_adding.served_by (h.opened ++ length h.events ∷ []) Opening h (core_of v) (core_of w) (ap (λ (x : GatewayValue). x.plans) o.rest)
      (λ past c all. occurs_before v.plans h.opened (h.opened ++ length h.events ∷ []) (length h.events) h.events past (omega arith) (grown h.opened (length h.events) c.below) all)
      (calls.opens_adds fresh v w n h o s) served

  pub opens_adds : HasRead new_reader [] [] → (v w : GatewayValue) (n : ℕ) → Opens v w n → IsServing v → AddsOpening {E = E} (Ok n) v w
  opens_adds fresh v w n o s h = calls.opens_adds fresh v w n h o s

  pub opens_few : (v w : GatewayValue) (n : ℕ) → Opens v w n → IsServing v → OpensFew {E = E} (Ok n) v
  opens_few v w n o s h served = let few = o.few in let same = open_few v h s served in omega (arith, few, same)

module _ {E : Type 0} where
  pub unopens_stands : (v w : GatewayValue) (e : E) → w ≡ v → TakesOpening (Err e) v w
  unopens_stands v w e is h served = core_adding.served_event Opening h (core_of v) (core_of w) (ap (λ (x : GatewayValue). x.plans) is) (calls.unopens_adds v w h is) served

  pub unopens_adds : (v w : GatewayValue) (e : E) → w ≡ v → AddsOpening (Err e) v w
  unopens_adds v w e is h = calls.unopens_adds v w h is

pub opens_keeps : (v w : GatewayValue) (n : ℕ) → Opens v w n → IsServing v → Keeps (λ c. false) v w
opens_keeps v w n o s = opening_keeps v w n o s

pub same_keeps : (v w : GatewayValue) (breaks : ℕ → Bool) → w ≡ v → IsServing v → Keeps breaks v w
same_keeps v w breaks is s = all_keeps v w breaks is

-- ---- bytes

module _ (n : ℕ) (bytes : List ℕ) (v w : GatewayValue) (result : Result ℕ StepFault) (f : Feeds n bytes v w result) (s : IsServing v) where
  pub feeds_stands : RequestLaws → TakesBytes n bytes result v w
  feeds_stands laws fed h first up = feeds_stand laws n fed bytes first v w result h s f up

  pub feeds_takes : IfOk result (TakesSome (length bytes))
  feeds_takes = fed_takes n bytes v w result s f

  pub feeds_one : RequestLaws → TakesOneOf n bytes result v
  feeds_one laws h served = one_fed laws n bytes v w h s served.conns result f

  pub feeds_tells : TellsStep n v w result
  feeds_tells = fed_tells n bytes v w result s f

  pub feeds_begins : result ≡ Err Exhausted → WouldBegin n bytes v
  feeds_begins e = fed_begins n bytes v w result s f e

  pub feeds_listens : OnOk result (NotListening n w → ⊥)
  feeds_listens = fed_listens n bytes v w result s f

  pub feeds_counts : CountsCalls v w
  feeds_counts = fed_counts n bytes v w result f

  pub feeds_keeps : Keeps (λ c. c == n) v w
  feeds_keeps = fed_keeps n bytes v w result f s

-- ---- hang-ups

module _ (n : ℕ) (v w : GatewayValue) (result : Result ⊤ StepFault) (h : HangsUpAt n v w result) (s : IsServing v) where
  pub hangs_adds : AddsEvent (HangUp n) v w
  hangs_adds g = broadcasts.hangs_adds n v w result g h s

  pub hangs_stands : TakesEvent (HangUp n) v w
  hangs_stands g served = core_adding.served_event (HangUp n) g (core_of v) (core_of w) (hangs_adds g).plans_are (hangs_adds g) served

  pub hangs_tells : TellsStep n v w result
  hangs_tells = hung_tells n v w result h s

  pub hangs_begins : result ≡ Err Exhausted → ⊥
  hangs_begins e = hung_exhausted n v w result h e

  pub hangs_keeps : Keeps (λ c. c == n) v w
  hangs_keeps = hanging_keeps n v w result h s

-- ---- closings

module _ (n : ℕ) (v w : GatewayValue) (result : Bool) (x : Closes n v w result) (s : IsServing v) where
  pub closes_adds : AddsEvent (Closing n) v w
  closes_adds h = calls.closes_adds n v w result h x s

  pub closes_stands : TakesEvent (Closing n) v w
  closes_stands h served = core_adding.served_event (Closing n) h (core_of v) (core_of w) (closes_adds h).plans_are (closes_adds h) served

  pub closes_told : result ≡ (shown v).is_open n
  closes_told = grind (arith, nat_tests, shut_absent, shut_there, open_there)

  pub closes_keeps : KeepsBut (λ c. c == n) (λ c. false) [] v w
  closes_keeps = closing_keeps n v w result x s

-- ---- a moment, and the drain

module _ (moment : ℕ) (v w : GatewayValue) (one : Bool) (r : Reaches moment v w one) (s : IsServing v) where
  pub reaches_adds : AddsEvent (Moment moment) v w
  reaches_adds h = broadcasts.reaches_adds moment v w one h r s

  pub reaches_stands : TakesEvent (Moment moment) v w
  reaches_stands h served = core_adding.served_event (Moment moment) h (core_of v) (core_of w) (reaches_adds h).plans_are (reaches_adds h) served

  pub reaches_keeps : Keeps (λ c. true) v w
  reaches_keeps = reaching_keeps moment v w one r s

module _ (v w : GatewayValue) (one : Bool) (r : Drains v w one) (s : IsServing v) where
  pub drains_adds : AddsEvent Drain v w
  drains_adds h = broadcasts.drains_adds v w one h r s

  pub drains_stands : TakesEvent Drain v w
  drains_stands h served = core_adding.served_event Drain h (core_of v) (core_of w) (drains_adds h).plans_are (drains_adds h) served

  pub drains_keeps : Keeps (λ c. true) v w
  drains_keeps = draining_keeps v w one r s

-- ---- results

module _ (id : CallId) (branch : ℕ) (outcome : Outcome) (v w : GatewayValue) (took : Took) (r : Results id branch outcome v w took) (s : IsServing v) where
  pub results_adds : AddsEvent (BranchResult id.conn id.request branch outcome) v w
  results_adds h = calls.results_adds id branch outcome v w took h r s

  pub results_stands : TakesEvent (BranchResult id.conn id.request branch outcome) v w
  results_stands h served = core_adding.served_event (BranchResult id.conn id.request branch outcome) h (core_of v) (core_of w) (results_adds h).plans_are (results_adds h) served

  pub results_tells : TellsTook id branch took v w
  results_tells = result_tells id branch outcome v w took r s

  pub results_keeps : KeepsBut (λ c. false) (λ c. c == id.conn) (took.seen ∷ []) v w
  results_keeps = result_keeps id branch outcome v w took r s

module _ (id : CallId) (branch : ℕ) (v w : GatewayValue) (took : Took) (r : Starves id branch v w took) (s : IsServing v) where
  pub starves_adds : (outcome : Outcome) → AddsEvent (BranchResult id.conn id.request branch outcome) v w
  starves_adds outcome h = calls.results_adds id branch outcome v w took h (starves_as id branch outcome v w took r) s

  pub starves_stands : (outcome : Outcome) → TakesEvent (BranchResult id.conn id.request branch outcome) v w
  starves_stands outcome h served =
      core_adding.served_event (BranchResult id.conn id.request branch outcome) h (core_of v) (core_of w) (starves_adds outcome h).plans_are (starves_adds outcome h) served

  pub starves_tells : TellsTook id branch took v w
  starves_tells = result_tells id branch (Answer []) v w took (starves_as id branch (Answer []) v w took r) s

  pub starves_keeps : KeepsBut (λ c. false) (λ c. c == id.conn) (took.seen ∷ []) v w
  starves_keeps = result_keeps id branch (Answer []) v w took (starves_as id branch (Answer []) v w took r) s

-- ---- what is taken

module _ (v w : GatewayValue) (job : Option HandedJob) (t : TakesJob v w job) (s : IsServing v) where
  pub job_stands : HandsJobs (option_to_list (option_map (λ j. j.job) job)) v w
  job_stands = job_hands v w job t

  pub job_lives : LeavesLived (option_to_list (option_map (λ j. j.job) job)) v w
  job_lives = job_leaves v w job t

  pub job_wanted : (j : HandedJob) → job ≡ Some j → IsWanted j.job.call v j.wanted
  job_wanted j is = wanted_told j.job.call v s j.wanted (t.wanted j is)

module _ (n : ℕ) (v w : GatewayValue) (reply : Option ReplyValue) (t : TakesReplyAt n v w reply) (s : IsServing v) where
  pub reply_stands : HandsReply n reply v w
  reply_stands = reply_hands n v w reply t s

  pub reply_lives : LeavesReplied n reply v w
  reply_lives = reply_leaves n v w reply t s

  pub reply_first : untaken_of n v ≡ option_to_list (option_map (λ r. r.entry) reply) ++ untaken_of n w
  reply_first = first_told n v w reply t s

  pub reply_its : IfSome reply (λ r. r.id ≡ next_reply n v)
  reply_its = its_told n v w reply t s

  pub reply_none : reply ≡ None → untaken_of n v ≡ []
  reply_none e = none_told n v w reply t e

  pub reply_only : TakesOnly n v w
  reply_only = only_told n v w reply t s

-- ---- between two calls

pub wanted_is : (id : CallId) (v : GatewayValue) → IsServing v → IsWanted id v (is_some (call_in id v).live)
wanted_is id v s = wanted_told id v s (is_some (call_in id v).live) refl
