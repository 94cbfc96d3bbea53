-- What openings, closings and results add to what was lived.
use Rattle.std.specs.Prelude.{◌≡◌, ◌+◌, ◌∷◌, ◌++◌, ◌==◌, if◌then◌else◌}
use Rattle.gateway_theory.specs.lemmas.Names.{ℕ, Bool, true, false, List, [], length, Option, None, Some, refl, sym, ap, ◌∙◌, subst, arith, nat_tests, is_some, nat_lt, eq-eqb, eqb-true, le-ltb, append-nil, HasRead, Outcome, History, JobValue, Break, Closing, Occurrence, call_id, Event, CallId, is_spent, Step, has_out, kept, CallState, Live, call_at, ConnectionValue, GatewayValue, conn_of, connection, HeldConnection, connection_of, IsFound, kept_at, Took, Now, call_step, forgets, now_of, went, Adds, core_of, stream_of, Forgets, Holds, TakesResult, closed_held, forgotten, left_of, lost, lost_held, new_reader, result_in, settled, settled_held, stays, unknown, IsServing, Closes, Moves, Opens, Results, absent, shut, there}
use Rattle.gateway_theory.specs.lemmas.StoreLemmas.{call_found}
use Rattle.gateway_theory.specs.Steps.{closes}
use Rattle.gateway_theory.specs.lemmas.Broadcast.{all_broken, filled_none}
use Rattle.gateway_theory.specs.lemmas.Conns.{shut_absent, shut_there, open_there, there_value, absent_value}
use Rattle.gateway_theory.specs.lemmas.Events.{MayAll, came, closing_adds, counted_may, result_adds, unclosed_adds}
use Rattle.gateway_theory.specs.lemmas.Moving.{Fades, FadesTo, call_fades, fades_adds, same, Became, left_adds, none_out, numbers_are}
use Rattle.gateway_theory.specs.lemmas.HeldSteps.{Like, like_lost, like_settled, holds_closed}
use Rattle.gateway_theory.specs.lemmas.HeldValues.{closed_value, forgotten_value, lost_jobs, lost_value, same_value, settled_jobs, settled_value}
use Rattle.gateway_theory.specs.lemmas.ServedOpens.{opened_adds, opens, unopened_adds}
use Rattle.gateway_theory.specs.lemmas.ServingSteps.{live_goes, taken_like}
use Rattle.gateway_model.specs.Occurrence as occurs
use Rattle.gateway_model.specs.declared.event.Event.TheVariants as event

-- ---- openings

-- of one that was not opened yet, where one more is then
pub unborn_other : (n c : ℕ) → (n == c) ≡ false → nat_lt c (n + 1) ≡ nat_lt c n
unborn_other n c ne = grind arith

-- nothing is kept under the next number
pub unborn_absent : (v : GatewayValue) → IsServing v → conn_of v.opened v ≡ None
unborn_absent v s = by (conn_of v.opened v) refl
  where
    by : (o : Option HeldConnection) → conn_of v.opened v ≡ o → conn_of v.opened v ≡ None
    by None is = is
    by (Some k) is = absurd (let lt = (s.each v.opened k is).born in omega (arith, lt))

opens_fades : (v w : GatewayValue) (number : ℕ) → Opens v w number → IsServing v → Fades (opens (core_of v)) (core_of w)
opens_fades v w number o s = grind (arith, nat_tests, FadesTo, eqb-true, same, same_value, unborn_absent, le-ltb, unborn_other)

pub opens_adds : HasRead new_reader [] [] → (v w : GatewayValue) (number : ℕ) (h : History) → Opens v w number → IsServing v
    → Adds (h.opened ++ length h.events ∷ []) event.Opening h (core_of v) (core_of w)
opens_adds fresh v w number h o s = fades_adds (opens (core_of v)) (core_of w) (opens_fades v w number o s) (h.opened ++ length h.events ∷ []) event.Opening h (core_of v) (opened_adds h (core_of v) fresh)

pub unopens_adds : (v w : GatewayValue) (h : History) → w ≡ v → Adds h.opened event.Opening h (core_of v) (core_of w)
unopens_adds v w h is = subst (λ x. Adds h.opened event.Opening h (core_of v) (core_of x)) (sym is) (unopened_adds h (core_of v))

-- ---- closings

pub closes_adds : (number : ℕ) (v w : GatewayValue) (result : Bool) (h : History) → Closes number v w result → IsServing v → Adds h.opened (event.Closing number) h (core_of v) (core_of w)
closes_adds number v w result h (absent none r w_is) s =
    subst (λ x. Adds h.opened (event.Closing number) h (core_of v) (core_of x)) (sym w_is) (unclosed_adds h (core_of v) number (shut_absent number v none))
closes_adds number v w result h (shut k k_is off r w_is) s =
    subst (λ x. Adds h.opened (event.Closing number) h (core_of v) (core_of x)) (sym w_is) (unclosed_adds h (core_of v) number (shut_there number v k k_is off))
closes_adds number v w result h (closes k k_is still r m w_is) s =
    left_adds number (closed_held k) v w (came (Closing number) [] (core_of v).streams (core_of v)) m became (holds_closed k (s.each number k k_is).holds) its (s.each number k k_is).born
    h.opened (event.Closing number) h (core_of v) (closing_adds h (core_of v) number (numbers_are v s) (open_there number v k s k_is still))
  where
    its : k.number ≡ number
    its = (s.each number k k_is).number_is

    now_here : (b : Bool) → b ≡ true → (if b then went (core_of v).now (Closing number) (connection number v) else connection number v) ≡ connection_of (closed_held k)
    now_here b is = grind (arith, nat_tests, there_value, its, closed_value)

    became : Became number (closed_held k) v w (came (Closing number) [] (core_of v).streams (core_of v))
    became = grind (arith, nat_tests, append-nil, same, now_here, eq-eqb)

-- ---- results

-- one of no branch that is out changes nothing
module _ (n : Now) (v : ConnectionValue) (id : CallId) (branch : ℕ) (outcome : Outcome) (none : has_out (v.calls id.request) branch ≡ false) where
  quiet_call : (r : ℕ) → call_step n (occurs.Result id branch outcome) v r ≡ kept (v.calls r)
  quiet_call r = grind arith

  pub unknown_stays : went n (occurs.Result id branch outcome) v ≡ v
  unknown_stays = same_value (went n (occurs.Result id branch outcome) v) v refl refl
      (filled_none (λ r. (call_step n (occurs.Result id branch outcome) v r).reply) v.taken v.slots (λ r. ap (λ (s : Step). s.reply) (quiet_call r))) (λ r. ap (λ (s : Step). s.call) (quiet_call r)) refl refl

module _ (id : CallId) (branch : ℕ) (outcome : Outcome) (v w : GatewayValue) (h : History) where
  abbrev o : Occurrence
  o = occurs.Result id branch outcome

  abbrev e : Event
  e = event.BranchResult id.conn id.request branch outcome

  abbrev AddsIt : GatewayValue → Type 0
  AddsIt x = Adds h.opened e h (core_of v) (core_of x)

  -- where no branch of it is out
  pub unknown_adds : has_out ((connection id.conn v).calls id.request) branch ≡ false → w ≡ record v { tally = w.tally } → AddsIt w
  unknown_adds none w_is = subst AddsIt (sym w_is)
      (fades_adds (came o [] (core_of v).streams (core_of v)) (core_of v) quiet h.opened e h (core_of v) (result_adds h (core_of v) id branch outcome [] (λ c os all. tt)))
    where
      quiet : Fades (came o [] (core_of v).streams (core_of v)) (core_of v)
      quiet = grind (arith, nat_tests, append-nil, FadesTo, o, same, unknown_stays, eqb-true)

  -- the connection was kept, and became this
  module _ (k l : HeldConnection) (k_is : conn_of id.conn v ≡ Some k) (s : IsServing v) (m : Moves id.conn (left_of l) v w) (like : Like k l) (holds : Holds l) (jobs : List JobValue)
      (plans_are : w.plans ≡ v.plans) (now_is : (core_of w).now ≡ (core_of v).now) (opened_is : w.opened ≡ v.opened) (begun_is : w.begun ≡ v.begun) (jobs_are : w.jobs ≡ v.jobs ++ jobs) where
    its : k.number ≡ id.conn
    its = (s.each id.conn k k_is).number_is

    -- where it made this step, before which it may have broken
    pub there_adds : (cs : List ℕ) → MayAll e h (core_of v) cs → FadesTo (went (core_of v).now o (all_broken (core_of v).now cs (core_of v).conns id.conn)) (connection_of l)
        → (call_step (core_of v).now o (all_broken (core_of v).now cs (core_of v).conns id.conn) id.request).jobs ≡ jobs
        → ((d : ℕ) → (id.conn == d) ≡ false → all_broken (core_of v).now cs (core_of v).conns d ≡ connection d v) → AddsIt w
    there_adds cs may fades starts others = left_adds id.conn l v w (came o cs (core_of v).streams (core_of v)) m (record {
      plans_are = plans_are;
      now_is = now_is ∙ ap (λ m. now_of m v.drained) (omega arith);
      opened_is = opened_is;
      opened_was = refl;
      begun_is = begun_is;
      jobs_are = jobs_are ∙ ap (λ js. v.jobs ++ js) (sym starts);
      conn_is = subst (λ b. FadesTo (if b then went (core_of v).now o (all_broken (core_of v).now cs (core_of v).conns id.conn) else all_broken (core_of v).now cs (core_of v).conns id.conn) (connection_of l)) (sym (eq-eqb id.conn id.conn refl)) fades;
      others_are = λ d ne. ap (λ b. if b then went (core_of v).now o (all_broken (core_of v).now cs (core_of v).conns d) else all_broken (core_of v).now cs (core_of v).conns d) ne ∙ others d ne;
      stream_is = λ still. (λ i. record { reader = like.reader_is i; hung_up = like.hung_is i }) ∙ sym (ap stream_of k_is);
      streams_are = λ d ne. refl;
    }) holds (like.number_is ∙ its) (s.each id.conn k k_is).born h.opened e h (core_of v) (result_adds h (core_of v) id branch outcome cs may)

-- ---- a call that is over is forgotten

spent_parts : (c : CallState) → is_spent c ≡ true → (c.live ≡ None) × ((i : ℕ) → has_out c i ≡ false)
spent_parts c e = grind (arith, nat_tests, none_out)

forget_fades : (id : CallId) (k l : HeldConnection) → k.number ≡ id.conn → Forgets id k l → FadesTo (connection_of k) (connection_of l)
forget_fades id k l number_is (stays spent is) = same (ap connection_of is)
forget_fades id k l number_is (forgotten spent is) =
    let here : call_at (call_id k.number id.request) k.calls ≡ call_at id k.calls = ap (λ n. call_at (call_id n id.request) k.calls) number_is in
    let parts = spent_parts (call_at (call_id k.number id.request) k.calls) (ap is_spent here ∙ spent) in
    call_fades id.request parts.0 parts.1 (ap connection_of is ∙ forgotten_value k id (sym number_is))

-- ---- what a result makes of the connection of its call

module _ (id : CallId) (branch : ℕ) (v w : GatewayValue) (k l : HeldConnection) (k_is : conn_of id.conn v ≡ Some k) (s : IsServing v) (m : Moves id.conn (left_of l) v w)
    (plans_are : w.plans ≡ v.plans) (now_is : (core_of w).now ≡ (core_of v).now) (opened_is : w.opened ≡ v.opened) (begun_is : w.begun ≡ v.begun) (like : Like k l) (holds : Holds l) where
  number_is : k.number ≡ id.conn
  number_is = (s.each id.conn k k_is).number_is

  value_is : connection id.conn v ≡ connection_of k
  value_is = there_value id.conn v k k_is

  -- its call made its step
  pub settled_adds : (outcome : Outcome) (h : History) (i : ℕ) → IsFound id k.calls (Some i) → has_out (kept_at i k.calls).call branch ≡ true → Forgets id (settled_held i (result_in v.moment i branch outcome k) k) l
      → w.jobs ≡ v.jobs ++ (result_in v.moment i branch outcome k).jobs → Adds h.opened (event.BranchResult id.conn id.request branch outcome) h (core_of v) (core_of w)
  settled_adds outcome h i found out forgets jobs_are =
      there_adds id branch outcome v w h k l k_is s m like holds (result_in v.moment i branch outcome k).jobs plans_are now_is opened_is begun_is jobs_are [] (λ c os all. tt)
      (subst (λ x. FadesTo x (connection_of l)) (sym (ap (λ x. went (core_of v).now (occurs.Result id branch outcome) x) value_is ∙ sym (settled_value (core_of v).now k id branch outcome i (sym number_is) found out)))
      (forget_fades id (settled_held i (result_in v.moment i branch outcome k) k) l ((like_settled v.moment i branch outcome k).number_is ∙ number_is) forgets))
      (ap (λ x. (call_step (core_of v).now (occurs.Result id branch outcome) x id.request).jobs) value_is ∙ settled_jobs (core_of v).now k id branch outcome i (sym number_is) found out) (λ d ne. refl)

  -- memory was refused, where it counted
  pub lost_adds : (outcome : Outcome) (h : History) (i : ℕ) → IsFound id k.calls (Some i) → has_out (kept_at i k.calls).call branch ≡ true → is_some (kept_at i k.calls).call.live ≡ true → Forgets id (lost_held i branch k) l
      → w.jobs ≡ v.jobs ++ [] → Adds h.opened (event.BranchResult id.conn id.request branch outcome) h (core_of v) (core_of w)
  lost_adds outcome h i found out live forgets jobs_are =
      there_adds id branch outcome v w h k l k_is s m like holds [] plans_are now_is opened_is begun_is jobs_are (id.conn ∷ []) may
      (subst (λ x. FadesTo x (connection_of l)) (sym went_is) (forget_fades id (lost_held i branch k) l ((like_lost i branch k still).number_is ∙ number_is) forgets))
      (ap (λ x. (call_step (core_of v).now (occurs.Result id branch outcome) x id.request).jobs) broke_is ∙ lost_jobs (core_of v).now k still id branch outcome i (sym number_is) found out)
      (λ d ne. ap (λ b. if b then went (core_of v).now (Break id.conn) (connection d v) else connection d v) ne)
    where
      still : k.closed ≡ false
      still = (live_goes i k (s.each id.conn k k_is).holds found.0 live).0

      broke_is : all_broken (core_of v).now (id.conn ∷ []) (core_of v).conns id.conn ≡ went (core_of v).now (Break k.number) (connection_of k)
      broke_is = grind (arith, nat_tests)

      went_is : went (core_of v).now (occurs.Result id branch outcome) (all_broken (core_of v).now (id.conn ∷ []) (core_of v).conns id.conn) ≡ connection_of (lost_held i branch k)
      went_is = ap (λ x. went (core_of v).now (occurs.Result id branch outcome) x) broke_is ∙ sym (lost_value (core_of v).now k still id branch outcome i (sym number_is) found out)

      call_is : (connection id.conn v).calls id.request ≡ (kept_at i k.calls).call
      call_is = ap (λ x. x.calls id.request) value_is ∙ ap (λ n. call_at (call_id n id.request) k.calls) number_is ∙ call_found id k.calls i found

      may : MayAll (event.BranchResult id.conn id.request branch outcome) h (core_of v) (id.conn ∷ [])
      may = by (kept_at i k.calls).call.live refl live
        where
          by : (l : Option Live) → (kept_at i k.calls).call.live ≡ l → is_some l ≡ true → MayAll (event.BranchResult id.conn id.request branch outcome) h (core_of v) (id.conn ∷ [])
          by None is none = absurd (cc)
          by (Some x) is some = counted_may h (core_of v) id.conn (ap (λ y. y.broken) value_is ∙ (live_goes i k (s.each id.conn k k_is).holds found.0 live).1) id.request branch outcome x
              (ap (λ (c : CallState). c.live) call_is ∙ is) (ap (λ (c : CallState). has_out c branch) call_is ∙ out)

-- ---- the calls of the gateway

-- one that is unknown leaves all but the tally
pub unknown_same : (id : CallId) (v w : GatewayValue) (k l : HeldConnection) (jobs : List JobValue) → conn_of id.conn v ≡ Some k → IsServing v → Moves id.conn (left_of l) v w
    → w ≡ record v { conns = w.conns; jobs = v.jobs ++ jobs; tally = w.tally } → l ≡ k → jobs ≡ [] → w ≡ record v { tally = w.tally }
unknown_same id v w k l jobs k_is s m w_is l_is none =
    let conns_are : w.conns ≡ v.conns = m.same (ap left_of l_is ∙ ap (λ b. if b then None else Some k) (s.each id.conn k k_is).stays ∙ sym k_is) in
    w_is ∙ (λ i. record v { conns = conns_are i; jobs = (ap (λ js. v.jobs ++ js) none ∙ append-nil v.jobs) i; tally = w.tally })

none_kept : (id : CallId) (branch : ℕ) (v : GatewayValue) → conn_of id.conn v ≡ None → has_out ((connection id.conn v).calls id.request) branch ≡ false
none_kept id branch v none = ap (λ x. has_out (x.calls id.request) branch) (absent_value id.conn v none)

none_out_in : (id : CallId) (branch : ℕ) (v : GatewayValue) (k : HeldConnection) → conn_of id.conn v ≡ Some k → IsServing v → has_out (call_at id k.calls) branch ≡ false → has_out ((connection id.conn v).calls id.request) branch ≡ false
none_out_in id branch v k k_is s out = ap (λ x. has_out (x.calls id.request) branch) (there_value id.conn v k k_is) ∙ ap (λ n. has_out (call_at (call_id n id.request) k.calls) branch) (s.each id.conn k k_is).number_is ∙ out

pub results_adds : (id : CallId) (branch : ℕ) (outcome : Outcome) (v w : GatewayValue) (took : Took) (h : History) → Results id branch outcome v w took → IsServing v
    → Adds h.opened (event.BranchResult id.conn id.request branch outcome) h (core_of v) (core_of w)
results_adds id branch outcome v w took h (absent none t tally w_is) s = unknown_adds id branch outcome v w h (none_kept id branch v none) w_is
results_adds id branch outcome v w took h (there k l jobs k_is t m tally w_is) s = by t
  where
    plans_are : w.plans ≡ v.plans
    plans_are = ap (λ (x : GatewayValue). x.plans) w_is

    now_is : (core_of w).now ≡ (core_of v).now
    now_is = ap (λ (x : GatewayValue). now_of x.moment x.drained) w_is

    both : Like k l × Holds l
    both = taken_like v.moment id branch outcome k l jobs took t (s.each id.conn k k_is).holds

    by : TakesResult v.moment id branch outcome k l jobs took → Adds h.opened (event.BranchResult id.conn id.request branch outcome) h (core_of v) (core_of w)
    by (unknown out t l_is none) = unknown_adds id branch outcome v w h (none_out_in id branch v k k_is s out) (unknown_same id v w k l jobs k_is s m w_is l_is none)
    by (settled i found out t forgets jobs_are own) =
        settled_adds id branch v w k l k_is s m plans_are now_is (ap (λ (x : GatewayValue). x.opened) w_is) (ap (λ (x : GatewayValue). x.begun) w_is) both.0 both.1 outcome h i found out forgets
        (ap (λ (x : GatewayValue). x.jobs) w_is ∙ ap (λ js. v.jobs ++ js) jobs_are)
    by (lost i found out live t forgets none) =
        lost_adds id branch v w k l k_is s m plans_are now_is (ap (λ (x : GatewayValue). x.opened) w_is) (ap (λ (x : GatewayValue). x.begun) w_is) both.0 both.1 outcome h i found out live forgets
        (ap (λ (x : GatewayValue). x.jobs) w_is ∙ ap (λ js. v.jobs ++ js) none)
