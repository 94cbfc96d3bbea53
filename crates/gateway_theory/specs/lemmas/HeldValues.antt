-- What the steps of a connection as it is held are, by its value.
use Rattle.std.specs.Prelude.{◌≡◌, ◌+◌, ◌-◌, ◌<◌, ◌∷◌, ◌++◌, ◌==◌, ◌&&◌, ◌||◌, if◌then◌else◌}
use Rattle.gateway_theory.specs.lemmas.Names.{ℕ, zero, suc, Bool, true, false, List, [], map, length, Option, None, Some, refl, sym, ap, ◌∙◌, arith, nat_tests, All, filter, not, nat_lt, slice_set, option_or, eq-eqb, ltb-false, ltb-true, ne_eqb, append-nil, get_or-map, length-map, Outcome, Break, Closing, Coming, Drain, HangUp, Moment, Occurrence, Result, call_id, is_call, ReplyEntry, CallId, arrive, ended_call, ended_kept, KeptValue, Live, call_state, gone, call_at, ConnectionValue, HeldConnection, connection_of, stepped_kept, Step, has_out, kept, moment_after, result_on, IsFound, given_up, kept_at, no_call, Trigger, Now, arriving, call_step, entered, filled, forgets, went, Holds, arriving_in, back_held, broken_held, closed_held, ended_entry, ended_held, entered_held, kept_now, lost_held, replied, result_in, settled_held, stepped_held}
use Rattle.gateway_theory.specs.Conn.{fill_at}
use Rattle.gateway_theory.specs.lemmas.Cases.{sym_eqb}
use Rattle.gateway_theory.specs.lemmas.LimitLemmas.{same_call}
use Rattle.gateway_theory.specs.lemmas.StoreLemmas.{call_found, call_missing, call_set, call_added, call_without}
use Rattle.gateway_theory.specs.lemmas.Broadcast.{filled_none}
use Rattle.gateway_theory.specs.declared.trigger.Trigger.TheVariants as trigger

-- two values that have the same in each field
pub same_value : (v w : ConnectionValue) → v.number ≡ w.number → v.taken ≡ w.taken → v.slots ≡ w.slots → ((r : ℕ) → v.calls r ≡ w.calls r) → v.broken ≡ w.broken → v.closed ≡ w.closed → v ≡ w
same_value v w number taken slots calls broken closed = grind arith

-- ---- the calls of a list

pub call_dead : (id : CallId) (calls : List KeptValue) → call_at id (map given_up calls) ≡ call_state (call_at id calls).out None
call_dead id [] = refl
call_dead id (k ∷ calls) = grind (arith, call_dead id calls)

pub call_ended : (t : Trigger) (id : CallId) (calls : List KeptValue) → call_at id (map (ended_kept t) calls) ≡ (ended_call t id (call_at id calls)).call
call_ended t id [] = refl
call_ended t id (k ∷ calls) = grind (arith, nat_tests, call_ended t id calls)

-- its next request is of no call that is kept
pub fresh_in : (id : CallId) (calls : List KeptValue) → All (λ (c : KeptValue). c.id.request < id.request) calls → IsFound id calls None
fresh_in id calls below = grind arith

-- ---- slots

none_filled : (q : ℕ) (e : ReplyEntry) (taken : ℕ) (slots : List (Option ReplyEntry)) → q < taken → filled (λ r. if q == r then Some e else None) taken slots ≡ slots
none_filled q e taken [] lt = refl
none_filled q e taken (s ∷ slots) lt =
    ap (λ b. option_or s (if b then Some e else None) ∷ filled (λ r. if q == r then Some e else None) (suc taken) slots) (ne_eqb q taken (λ same. absurd (omega (arith, lt, same))))
    ∙ stays s (filled (λ r. if q == r then Some e else None) (suc taken) slots)
    ∙ ap (λ l. s ∷ l) (none_filled q e (suc taken) slots (omega (arith, lt)))
  where
    stays : (s : Option ReplyEntry) (l : List (Option ReplyEntry)) → option_or s None ∷ l ≡ s ∷ l
    stays s l = grind (arith, nat_tests)

one_filled : (j : ℕ) (e : ReplyEntry) (taken q : ℕ) (slots : List (Option ReplyEntry)) → q ≡ taken + j → filled (λ r. if q == r then Some e else None) taken slots ≡ fill_at j e slots
one_filled j e taken q [] at = refl
one_filled zero e taken q (s ∷ slots) at = grind (arith, nat_tests, eq-eqb, none_filled)
one_filled (suc j) e taken q (s ∷ slots) at = grind (arith, one_filled j e)

-- the slot of one request is filled
pub replied_slots : (q : ℕ) (reply : Option ReplyEntry) (k : HeldConnection) → (replied q reply k).slots ≡ filled (λ r. if q == r then reply else None) k.taken k.slots
replied_slots q None k = grind (arith, nat_tests, filled_none)
replied_slots q (Some e) k = by (nat_lt q k.taken) refl
  where
    by : (b : Bool) → nat_lt q k.taken ≡ b → (if b then k else record k { slots = fill_at (q - k.taken) e k.slots }).slots ≡ filled (λ r. if q == r then Some e else None) k.taken k.slots
    by b is = grind (arith, nat_tests, none_filled, ltb-true, one_filled, ltb-false)

-- nothing else of it
pub replied_rest : (q : ℕ) (reply : Option ReplyEntry) (k : HeldConnection) → replied q reply k ≡ record k { slots = (replied q reply k).slots }
replied_rest q reply k = grind (arith, nat_tests)

-- ---- what comes on it

-- a request that begins no call leaves none
arrives_gone : (moment : ℕ) (drained crowded : Bool) (id : CallId) (x : Coming) → (arrive moment drained crowded id x).call.live ≡ None → (arrive moment drained crowded id x).call ≡ gone
arrives_gone moment drained crowded id x is = grind (arith, nat_tests)

call_entered : (id : CallId) (s : Step) (live : Option Live) (calls : List KeptValue) → s.call.live ≡ live → (s.call.live ≡ None → s.call ≡ gone) → IsFound id calls None → (other : CallId)
    → call_at other (calls ++ kept_now id s live) ≡ (if is_call id other then s.call else call_at other calls)
call_entered id s (Some l) calls is dead new other = call_added (record { id = id; call = s.call }) other calls new
call_entered id s None calls is dead new other = ap (call_at other) (append-nil calls) ∙ by (is_call id other) refl
  where
    by : (b : Bool) → is_call id other ≡ b → call_at other calls ≡ (if is_call id other then s.call else call_at other calls)
    by true it = rw it (ap (λ n. call_at n calls) (sym (same_call id other it)) ∙ call_missing id calls new ∙ sym (dead is))
    by false it = rw it refl

module _ (n : Now) (k : HeldConnection) where
  -- something comes on one that is not closed
  pub entered_value : (x : Coming) → Holds k → k.closed ≡ false → connection_of (entered_held (arriving_in n.moment n.drained x k) k) ≡ entered (arriving n x (connection_of k)) (connection_of k)
  entered_value x h still = grind (arith, nat_tests, same_value, call_entered, arrives_gone, fresh_in, eq-eqb)

  -- ---- it breaks, or is closed

  none_replied : (o : Occurrence) → ((r : ℕ) → (call_step n o (connection_of k) r).reply ≡ None) → filled (λ r. (call_step n o (connection_of k) r).reply) k.taken k.slots ≡ k.slots
  none_replied o none = filled_none (λ r. (call_step n o (connection_of k) r).reply) k.taken k.slots none

  given : (r : ℕ) (b : Bool) → b ≡ true
      → (if b then kept (call_state (call_at (call_id k.number r) k.calls).out None) else kept (call_at (call_id k.number r) k.calls)) ≡ kept (call_state (call_at (call_id k.number r) k.calls).out None)
  given r true is = refl
  given r false is = absurd (cc)

  pub broken_value : k.closed ≡ false → connection_of (broken_held k) ≡ went n (Break k.number) (connection_of k)
  broken_value still = same_value (connection_of (broken_held k)) (went n (Break k.number) (connection_of k)) refl refl
      (sym (none_replied (Break k.number) (λ r. ap (λ (s : Step). s.reply) (given r (k.number == k.number) (eq-eqb k.number k.number refl)))))
      (λ r. call_dead (call_id k.number r) k.calls ∙ sym (ap (λ (s : Step). s.call) (given r (k.number == k.number) (eq-eqb k.number k.number refl))))
      (sym (ap (λ b. (b && not k.closed) || k.broken) (eq-eqb k.number k.number refl) ∙ ap (λ b. not b || k.broken) still)) refl

  pub closed_value : connection_of (closed_held k) ≡ went n (Closing k.number) (connection_of k)
  closed_value = grind (arith, nat_tests, same_value, eq-eqb, call_dead, given)

  -- ---- its calls end

  -- this ends calls as the occurrence does
  abbrev pub EndsAt : Trigger → Occurrence → Type 0
  EndsAt t o = (r : ℕ) → call_step n o (connection_of k) r ≡ ended_call t (call_id k.number r) (call_at (call_id k.number r) k.calls)

  pub at_moment : (m : ℕ) → EndsAt (trigger.Reached (moment_after n.moment m)) (Moment m)
  at_moment m r = grind arith

  pub at_hang_up : (c : ℕ) → EndsAt (trigger.HungUp c) (HangUp c)
  at_hang_up c r = grind arith

  pub at_drain : EndsAt trigger.Drained Drain
  at_drain r = grind arith

  ended_slots : (t : Trigger) (o : Occurrence) → EndsAt t o → filled (ended_entry t k) k.taken k.slots ≡ filled (λ r. (call_step n o (connection_of k) r).reply) k.taken k.slots
  ended_slots t o ends = λ i. filled (λ r. (sym (ends r) i).reply) k.taken k.slots

  ended_calls : (t : Trigger) (o : Occurrence) → EndsAt t o → (r : ℕ) → call_at (call_id k.number r) (map (ended_kept t) k.calls) ≡ (call_step n o (connection_of k) r).call
  ended_calls t o ends r = call_ended t (call_id k.number r) k.calls ∙ ap (λ (s : Step). s.call) (sym (ends r))

  pub ended_moment : (m : ℕ) → connection_of (ended_held (trigger.Reached (moment_after n.moment m)) k) ≡ went n (Moment m) (connection_of k)
  ended_moment m = same_value (connection_of (ended_held (trigger.Reached (moment_after n.moment m)) k)) (went n (Moment m) (connection_of k)) refl refl
      (ended_slots (trigger.Reached (moment_after n.moment m)) (Moment m) (at_moment m)) (ended_calls (trigger.Reached (moment_after n.moment m)) (Moment m) (at_moment m)) refl refl

  pub ended_hang_up : (c : ℕ) → connection_of (ended_held (trigger.HungUp c) k) ≡ went n (HangUp c) (connection_of k)
  ended_hang_up c = same_value (connection_of (ended_held (trigger.HungUp c) k)) (went n (HangUp c) (connection_of k)) refl refl
      (ended_slots (trigger.HungUp c) (HangUp c) (at_hang_up c)) (ended_calls (trigger.HungUp c) (HangUp c) (at_hang_up c)) refl refl

  pub ended_drain : connection_of (ended_held trigger.Drained k) ≡ went n Drain (connection_of k)
  ended_drain = same_value (connection_of (ended_held trigger.Drained k)) (went n Drain (connection_of k)) refl refl
      (ended_slots trigger.Drained Drain at_drain) (ended_calls trigger.Drained Drain at_drain) refl refl

  -- ---- a result

  module _ (id : CallId) (branch : ℕ) (outcome : Outcome) (i : ℕ) (its : id.conn ≡ k.number) (found : IsFound id k.calls (Some i)) (out : has_out (kept_at i k.calls).call branch ≡ true) where
    abbrev made : Step
    made = result_in n.moment i branch outcome k

    at_it : (r : ℕ) (b : Bool) → is_call id (call_id k.number r) ≡ b
        → call_step n (Result id branch outcome) (connection_of k) r ≡ (if b then made else kept (call_at (call_id k.number r) k.calls))
    at_it r b is = grind (arith, nat_tests, same_call, call_found)

    its_call : (r : ℕ) → is_call id (call_id k.number r) ≡ (id.request == r)
    its_call r = ap (λ b. b && (id.request == r)) (eq-eqb id.conn k.number its)

    its_place : (kept_at i k.calls).id ≡ id
    its_place = same_call (kept_at i k.calls).id id found.1

    call_made : (r : ℕ) → call_at (call_id k.number r) (slice_set k.calls i (stepped_kept made (kept_at i k.calls))) ≡ (call_step n (Result id branch outcome) (connection_of k) r).call
    call_made r =
        call_set id (call_id k.number r) k.calls i (stepped_kept made (kept_at i k.calls)) found refl
        ∙ pick (is_call id (call_id k.number r)) ∙ ap (λ (s : Step). s.call) (sym (at_it r (is_call id (call_id k.number r)) refl))
      where
        pick : (b : Bool) → (if b then made.call else call_at (call_id k.number r) k.calls) ≡ (if b then made else kept (call_at (call_id k.number r) k.calls)).call
        pick b = grind (arith, nat_tests)

    reply_made : (r : ℕ) → (if (kept_at i k.calls).id.request == r then made.reply else None) ≡ (call_step n (Result id branch outcome) (connection_of k) r).reply
    reply_made r =
        ap (λ (m : CallId). if m.request == r then made.reply else None) its_place
        ∙ ap (λ b. if b then made.reply else None) (sym (its_call r)) ∙ pick (is_call id (call_id k.number r))
        ∙ ap (λ (s : Step). s.reply) (sym (at_it r (is_call id (call_id k.number r)) refl))
      where
        pick : (b : Bool) → (if b then made.reply else None) ≡ (if b then made else kept (call_at (call_id k.number r) k.calls)).reply
        pick b = grind (arith, nat_tests)

    slots_made : (settled_held i made k).slots ≡ filled (λ r. (call_step n (Result id branch outcome) (connection_of k) r).reply) k.taken k.slots
    slots_made = replied_slots (kept_at i k.calls).id.request made.reply (stepped_held i made k) ∙ (λ j. filled (λ r. reply_made r j) k.taken k.slots)

    pub settled_value : connection_of (settled_held i made k) ≡ went n (Result id branch outcome) (connection_of k)
    settled_value = grind (arith, nat_tests, replied_rest, same_value, slots_made, call_made)

    -- the jobs that it starts
    pub settled_jobs : (call_step n (Result id branch outcome) (connection_of k) id.request).jobs ≡ made.jobs
    settled_jobs = ap (λ (s : Step). s.jobs) (at_it id.request true (its_call id.request ∙ eq-eqb id.request id.request refl))

-- ---- a result that is late, or lost

place_given : (i : ℕ) (calls : List KeptValue) → i < length calls → kept_at i (map given_up calls) ≡ given_up (kept_at i calls)
place_given i calls lt = get_or-map given_up calls i no_call no_call lt

pub found_given : (id : CallId) (i : ℕ) (calls : List KeptValue) → IsFound id calls (Some i) → IsFound id (map given_up calls) (Some i)
found_given id i calls f = grind (arith, nat_tests, length-map, place_given)

-- a call that can't be decided any more: its branch comes back, and that is all
module _ (moment : ℕ) (branch : ℕ) (outcome : Outcome) (i : ℕ) (k : HeldConnection) (dead : (kept_at i k.calls).call.live ≡ None) where
  pub late_step : result_in moment i branch outcome k ≡ kept (call_state (slice_set (kept_at i k.calls).call.out branch false) None)
  late_step = ap (λ l. result_on moment branch outcome (slice_set (kept_at i k.calls).call.out branch false) l) dead

  pub late_settles : back_held i branch k ≡ settled_held i (result_in moment i branch outcome k) k
  late_settles = sym (ap (λ (s : Step). settled_held i s k) late_step)

module _ (n : Now) (k : HeldConnection) (still : k.closed ≡ false) (id : CallId) (branch : ℕ) (outcome : Outcome) (i : ℕ) (its : id.conn ≡ k.number) (found : IsFound id k.calls (Some i))
    (out : has_out (kept_at i k.calls).call branch ≡ true) where
  abbrev there_now : IsFound id (broken_held k).calls (Some i)
  there_now = found_given id i k.calls found

  dead_now : (kept_at i (broken_held k).calls).call.live ≡ None
  dead_now = ap (λ (c : KeptValue). c.call.live) (place_given i k.calls found.0)

  out_now : has_out (kept_at i (broken_held k).calls).call branch ≡ true
  out_now = ap (λ (c : KeptValue). has_out c.call branch) (place_given i k.calls found.0) ∙ out

  -- it breaks before, and the result is late
  pub lost_value : connection_of (lost_held i branch k) ≡ went n (Result id branch outcome) (went n (Break k.number) (connection_of k))
  lost_value =
      ap connection_of (late_settles n.moment branch outcome i (broken_held k) dead_now)
      ∙ settled_value n (broken_held k) id branch outcome i its there_now out_now
      ∙ ap (λ v. went n (Result id branch outcome) v) (broken_value n k still)

  pub lost_jobs : (call_step n (Result id branch outcome) (went n (Break k.number) (connection_of k)) id.request).jobs ≡ []
  lost_jobs = grind arith

-- ---- what is taken of it, and what is forgotten

pub forgotten_value : (k : HeldConnection) (id : CallId) → id.conn ≡ k.number → connection_of (record k { calls = filter (λ (c : KeptValue). not (is_call c.id id)) k.calls }) ≡ forgets id.request (connection_of k)
forgotten_value k id its = grind (arith, nat_tests, same_value, call_without, eq-eqb, sym_eqb)
