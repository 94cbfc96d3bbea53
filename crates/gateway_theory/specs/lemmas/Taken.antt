-- A job or a reply is taken of the gateway.
use Rattle.std.specs.Prelude.{◌≡◌, ◌∷◌, ◌++◌, ◌==◌, ◌&&◌, if◌then◌else◌}
use Rattle.gateway_theory.specs.lemmas.Names.{ℕ, Bool, true, false, List, [], Option, None, Some, refl, sym, ap, ◌∙◌, subst, arith, nat_tests, IfSome, drop, nat_lt, not, option_map, option_to_list, lt-ltb, append-nil, History, after_jobs, call_id, front, Placed, ReplyEntry, slot_at, ReplyValue, HandedJob, reply_taken, ConnectionValue, GatewayValue, conn_of, connection, HeldConnection, core_of, next_reply, stream_of, untaken_of, taken_held, after_reply, IsServing, TakesOnly, Moves, TakesJob, TakesReplyAt, absent, there, HandsJobs, HandsReply, LeavesLived, LeavesReplied}
use Rattle.gateway_theory.specs.Served.{Lives}
use Rattle.gateway_theory.specs.lemmas.Conns.{there_value}
use Rattle.gateway_theory.specs.lemmas.Moving.{Fades, fades_conns, fades_lives, same}
use Rattle.gateway_theory.specs.lemmas.Standing.{job_lived, leaves_served, reply_conns, reply_lived, with_entry, without_reply}
use Rattle.gateway_theory.specs.lemmas.Turns.{untaken_at}
use Rattle.gateway_theory.specs.Core as core

-- ---- a job

job_by : (v w : GatewayValue) (job : Option HandedJob) → TakesJob v w job → (h : History) (lived : List Placed) → Lives v h lived → Lives w (after_jobs (option_to_list (option_map (λ j. j.job) job)) h) lived
job_by v w None t h lived l = grind (arith, nat_tests, append-nil)
job_by v w (Some j) t h lived l = subst (λ x. Lives x (after_jobs (j.job ∷ []) h) lived) (sym t.rest) (job_lived (core_of v) h j.job w.jobs t.first lived l)

pub job_leaves : (v w : GatewayValue) (job : Option HandedJob) → TakesJob v w job → LeavesLived (option_to_list (option_map (λ j. j.job) job)) v w
job_leaves v w job t h lived l = job_by v w job t h lived l

pub job_hands : (v w : GatewayValue) (job : Option HandedJob) → TakesJob v w job → HandsJobs (option_to_list (option_map (λ j. j.job) job)) v w
job_hands v w job t h s = leaves_served (core_of v) (core_of w) h (after_jobs (option_to_list (option_map (λ j. j.job) job)) h) refl refl (ap (λ (x : GatewayValue). x.plans) t.rest)
    (λ c. subst (λ x. core.HasConns (core_of x) h.opened h.events) (sym t.rest) c) (λ lived l. job_by v w job t h lived l) s

-- ---- a reply

-- none was there
none_taken : (n : ℕ) (h : History) → after_reply n None h ≡ h
none_taken n h = grind (arith, nat_tests, append-nil)

first_slot : (k : HeldConnection) (e : ReplyEntry) → slot_at 0 k.slots ≡ Some e → k.slots ≡ Some e ∷ drop 1 k.slots
first_slot k e first = grind arith

module _ (n : ℕ) (v w : GatewayValue) (k l : HeldConnection) (k_is : conn_of n v ≡ Some k) (m : Moves n (Some l) v w) (w_is : w ≡ record v { conns = w.conns }) (e : ReplyEntry) (first : slot_at 0 k.slots ≡ Some e) (l_is : l ≡ taken_held k) where
  slots_are : (connection n v).slots ≡ Some e ∷ drop 1 k.slots
  slots_are = ap (λ (x : ConnectionValue). x.slots) (there_value n v k k_is) ∙ first_slot k e first

  opened_is : w.opened ≡ v.opened
  opened_is = ap (λ (x : GatewayValue). x.opened) w_is

  -- it is the same as without that reply
  reply_fades : Fades (without_reply n (drop 1 k.slots) (core_of v)) (core_of w)
  reply_fades = record {
    plans_are = ap (λ (x : GatewayValue). x.plans) w_is;
    now_is = ap (λ (x : GatewayValue). (core_of x).now) w_is;
    opened_is = opened_is;
    begun_is = ap (λ (x : GatewayValue). x.begun) w_is;
    waiting_are = ap (λ (x : GatewayValue). x.jobs) w_is;
    conns_are = λ d. same (each d (n == d) refl);
    streams_are = λ d still. stream d (n == d) refl;
  }
    where
      each : (d : ℕ) (b : Bool) → (n == d) ≡ b → connection d w ≡ (if d == n then reply_taken (drop 1 k.slots) (connection d v) else connection d v)
      each d b is = grind (arith, nat_tests)

      stream : (d : ℕ) (b : Bool) → (n == d) ≡ b → stream_of (conn_of d w) ≡ stream_of (conn_of d v)
      stream d b is = grind (arith, nat_tests)

  some_lives : (h : History) (lived : List Placed) → Lives v h lived → Lives w (with_entry n e h) lived
  some_lives h lived x = fades_lives (without_reply n (drop 1 k.slots) (core_of v)) (core_of w) reply_fades (with_entry n e h) lived (reply_lived (core_of v) h n e (drop 1 k.slots) slots_are lived x)

  some_conns : (h : History) → core.HasConns (core_of v) h.opened h.events → core.HasConns (core_of w) h.opened h.events
  some_conns h c = fades_conns (without_reply n (drop 1 k.slots) (core_of v)) (core_of w) reply_fades h.opened h.events (reply_conns (core_of v) h n e (drop 1 k.slots) slots_are c)

-- what a reply that is taken does to what was lived
reply_by : (n : ℕ) (v w : GatewayValue) (reply : Option ReplyValue) → TakesReplyAt n v w reply → IsServing v → (h : History)
    → ((lived : List Placed) → Lives v h lived → Lives w (after_reply n reply h) lived) × (core.HasConns (core_of v) h.opened h.events → core.HasConns (core_of w) h.opened h.events)
reply_by n v w reply (absent none r w_is) s h = (
  λ lived l. subst (λ x. Lives x (after_reply n reply h) lived) (sym w_is) (subst (λ o. Lives v (after_reply n o h) lived) (sym r) (subst (λ g. Lives v g lived) (sym (none_taken n h)) l)),
  λ c. subst (λ x. core.HasConns (core_of x) h.opened h.events) (sym w_is) c,
)
reply_by n v w None (there k l k_is t m w_is) s h =
    let conns_are : w.conns ≡ v.conns = m.same (ap (λ x. Some x) t.1 ∙ sym k_is) in
    let all : w ≡ v = w_is ∙ ap (λ cs. record v { conns = cs }) conns_are in (
      λ lived l. subst (λ x. Lives x (after_reply n None h) lived) (sym all) (subst (λ g. Lives v g lived) (sym (none_taken n h)) l),
      λ c. subst (λ x. core.HasConns (core_of x) h.opened h.events) (sym all) c,
    )
reply_by n v w (Some r) (there k l k_is t m w_is) s h = (
  λ lived x. some_lives n v w k l k_is m w_is r.entry t.0 t.2 h lived x,
  λ c. some_conns n v w k l k_is m w_is r.entry t.0 t.2 h c,
)

pub reply_leaves : (n : ℕ) (v w : GatewayValue) (reply : Option ReplyValue) → TakesReplyAt n v w reply → IsServing v → LeavesReplied n reply v w
reply_leaves n v w reply t s h lived l = (reply_by n v w reply t s h).0 lived l

plans_same : (n : ℕ) (v w : GatewayValue) (reply : Option ReplyValue) → TakesReplyAt n v w reply → w.plans ≡ v.plans
plans_same n v w reply (absent none r w_is) = ap (λ (x : GatewayValue). x.plans) w_is
plans_same n v w reply (there k l k_is t m w_is) = ap (λ (x : GatewayValue). x.plans) w_is

pub reply_hands : (n : ℕ) (v w : GatewayValue) (reply : Option ReplyValue) → TakesReplyAt n v w reply → IsServing v → HandsReply n reply v w
reply_hands n v w reply t s h x = leaves_served (core_of v) (core_of w) h (after_reply n reply h) refl refl (plans_same n v w reply t) (reply_by n v w reply t s h).1 (reply_by n v w reply t s h).0 x

-- ---- what it tells

none_front : (slots : List (Option ReplyEntry)) → slot_at 0 slots ≡ None → front slots ≡ []
none_front [] e = refl
none_front (None ∷ slots) e = refl
none_front (Some x ∷ slots) e = absurd (cc)

none_untaken : (b : Bool) (slots : List (Option ReplyEntry)) → slot_at 0 slots ≡ None → (if b then front slots else []) ≡ []
none_untaken true slots e = none_front slots e
none_untaken false slots e = refl

absent_untaken : (n : ℕ) (v : GatewayValue) → conn_of n v ≡ None → untaken_of n v ≡ []
absent_untaken n v none = ap (untaken_at v.opened n) none ∙ none_untaken (nat_lt n v.opened && not (nat_lt n v.opened)) [] refl

-- of one that has a reply, which is open
open_slots : (n : ℕ) (v : GatewayValue) (k : HeldConnection) (e : ReplyEntry) → IsServing v → conn_of n v ≡ Some k → slot_at 0 k.slots ≡ Some e → k.closed ≡ false
open_slots n v k e s k_is first = by k.closed refl
  where
    by : (b : Bool) → k.closed ≡ b → k.closed ≡ false
    by false is = is
    by true is = absurd (let none : None ≡ Some e = sym (ap (slot_at 0) ((s.each n k k_is).none_queued is)) ∙ first in cc)

pub first_told : (n : ℕ) (v w : GatewayValue) (reply : Option ReplyValue) → TakesReplyAt n v w reply → IsServing v → untaken_of n v ≡ option_to_list (option_map (λ r. r.entry) reply) ++ untaken_of n w
first_told n v w reply (absent none r w_is) s = ap (untaken_of n) (sym w_is) ∙ sym (ap (λ o. option_to_list (option_map (λ r. r.entry) o) ++ untaken_of n w) r)
first_told n v w None (there k l k_is t m w_is) s = cc
first_told n v w (Some r) (there k l k_is t m w_is) s =
    let still = open_slots n v k r.entry s k_is t.0 in
    let born = lt-ltb n v.opened (s.each n k k_is).born in
    let opened_is : w.opened ≡ v.opened = ap (λ (x : GatewayValue). x.opened) w_is in
    ap (untaken_at v.opened n) k_is ∙ ap (λ b. if b then front k.slots else []) (λ i. born i && not (still i)) ∙ ap front (first_slot k r.entry t.0)
    ∙ ap (λ xs. r.entry ∷ xs) (sym (ap (λ x. untaken_at x n (conn_of n w)) opened_is ∙ ap (untaken_at v.opened n) (m.here ∙ ap (λ x. Some x) t.2) ∙ ap (λ b. if b then front (drop 1 k.slots) else []) (λ i. born i && not (still i))))

pub its_told : (n : ℕ) (v w : GatewayValue) (reply : Option ReplyValue) → TakesReplyAt n v w reply → IsServing v → IfSome reply (λ r. r.id ≡ next_reply n v)
its_told n v w reply (absent none r w_is) s = subst (λ o. IfSome o (λ r. r.id ≡ next_reply n v)) (sym r) tt
its_told n v w None (there k l k_is t m w_is) s = tt
its_told n v w (Some r) (there k l k_is t m w_is) s =
    t.1 ∙ ap (λ c. call_id c k.taken) (s.each n k k_is).number_is ∙ ap (λ (x : ConnectionValue). call_id n x.taken) (sym (there_value n v k k_is))

pub none_told : (n : ℕ) (v w : GatewayValue) (reply : Option ReplyValue) → TakesReplyAt n v w reply → reply ≡ None → untaken_of n v ≡ []
none_told n v w reply fact is = grind (arith, nat_tests, absent_untaken, untaken_at, none_untaken)

pub only_told : (n : ℕ) (v w : GatewayValue) (reply : Option ReplyValue) → TakesReplyAt n v w reply → IsServing v → TakesOnly n v w
only_told n v w reply fact further = search arith
