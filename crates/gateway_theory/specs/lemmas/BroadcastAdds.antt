-- What a moment, the drain and a hang-up add.
use Rattle.std.specs.Prelude.{◌≡◌, ◌<◌, ◌∷◌, ◌++◌, ◌==◌, ◌&&◌, ◌||◌, if◌then◌else◌}
use Rattle.gateway_theory.specs.lemmas.Names.{ℕ, zero, suc, Bool, true, false, List, [], Option, None, Some, refl, sym, ap, ◌∙◌, arith, subst, nat_tests, is_some, nat_lt, not, ⊤, eq-eqb, eqb-true, le-ltb, lt-ltb, History, Break, Drain, Moment, Occurrence, Step, moment_after, ConnectionValue, is_broken_value, is_open_value, GatewayValue, conn_of, connection, value_of, HeldConnection, connection_of, Trigger, Drained, Reached, call_step, is_shut_value, now_after, now_of, went, AllStand, ConnectionStands, Adds, CoreValue, HasConns, StreamStands, is_heard, core_of, is_broken_conn, stream_of, CallsEnd, broke, broken_held, ended, ended_held, stream_in, HangsUp, hears, hung, hung_held, unnoticed, IsServing, Broadcast, Drains, MayEnd, Reaches, HangsUpAt, Moves, absent, there, append-nil, hung_up, listens, once, own, occurrences, ReplyEntry, StepFault, Event, and_parts}
use Rattle.std.proofs.Common.{Result}
use Rattle.gateway_theory.specs.lemmas.Broadcast.{Ends, by_drain, by_moment, idle_stays, all_broken, break_first, by_hang_up}
use Rattle.gateway_theory.specs.lemmas.Events.{broadcast, drain_adds, moment_adds, BreakBy, came, hang_up_adds, hang_up_may}
use Rattle.gateway_theory.specs.lemmas.Moving.{Fades, fades_adds, same, Became, became_fades}
use Rattle.gateway_theory.specs.lemmas.HeldValues.{EndsAt, at_drain, at_moment, broken_value, ended_drain, ended_moment, ended_hang_up}
use Rattle.gateway_theory.specs.lemmas.Adding.{AreOnce, listed, MayBreak, Newer, none_newer, one_newer, StandsNow, adds_event, none_more}
use Rattle.gateway_theory.specs.lemmas.Cases.{or_true}
use Rattle.gateway_theory.specs.lemmas.ServedLemmas.{hung_still, open_still, text_still, hung_if, stays_itself, stream_stays}
use Rattle.gateway_theory.specs.lemmas.ConnectionSteps.{all_step}
use Rattle.gateway_theory.specs.lemmas.Conns.{shut_absent, there_value}
use Rattle.gateway_theory.specs.lemmas.HeldSteps.{hears_parts}
use Rattle.gateway_model.specs.declared.event.Event.TheVariants as event
use Rattle.gateway_model.specs.Occurrence as occurs
use Rattle.gateway_theory.specs.declared.trigger.Trigger.TheVariants as trigger

-- ---- the numbers below n of which p is so

abbrev pub below_where : (ℕ → Bool) → ℕ → List ℕ
below_where p zero = []
below_where p (suc n) = if p n then n ∷ below_where p n else below_where p n

listed_where : (p : ℕ → Bool) (n c : ℕ) → listed (below_where p n) c ≡ (nat_lt c n && p c)
listed_where p zero c = sym (ap (λ b. b && p c) (le-ltb c 0 (omega arith)))
listed_where p (suc n) c = grind (arith, listed_where p n c)

once_where : (p : ℕ → Bool) (n : ℕ) → AreOnce (below_where p n)
once_where p zero = tt
once_where p (suc n) = grind (arith, nat_tests, once_where p n, AreOnce, listed_where, le-ltb)

-- ---- each connection

module _ (t : Trigger) (o : Occurrence) (v w : GatewayValue) (breaks : Bool) (b : Broadcast t v w breaks) (opened_is : w.opened ≡ v.opened) (s : IsServing v) (ends : Ends o)
    (at : (k : HeldConnection) → EndsAt (core_of v).now k t o) (ends_value : (k : HeldConnection) → connection_of (ended_held t k) ≡ went (core_of v).now o (connection_of k)) where
  -- it breaks in the step
  abbrev newly : ℕ → Bool
  newly c = is_broken_conn c w && not (is_broken_conn c v)

  data Went (c : ℕ) : Type 0 where
    goes : newly c ≡ false → connection c w ≡ went (core_of v).now o (connection c v) → Went c
    falls : newly c ≡ true → c < v.opened → is_shut_value (connection c v) ≡ false → (r : ℕ) → is_some (call_step (core_of v).now o (connection c v) r).reply ≡ true
        → connection c w ≡ went (core_of v).now (Break c) (connection c v) → Went c

  off : (b : Bool) → (b && not b) ≡ false
  off true = refl
  off false = refl

  went_each : (c : ℕ) → Went c
  went_each c = by (conn_of c v) refl (b.each c)
    where
      value_then : (x : Option HeldConnection) → conn_of c w ≡ x → connection c w ≡ value_of v.opened c x
      value_then x is = ap (value_of w.opened c) is ∙ ap (λ n. value_of n c x) opened_is

      broken_then : (y : ConnectionValue) → connection c w ≡ y → is_broken_conn c w ≡ is_broken_value v.opened c y
      broken_then y is = ap (λ n. is_broken_value n c (connection c w)) opened_is ∙ ap (λ z. is_broken_value v.opened c z) is

      by : (x : Option HeldConnection) → conn_of c v ≡ x → MayEnd t x (conn_of c w) → Went c
      by None is none = grind (arith, nat_tests, value_then, broken_then, off, idle_stays, lt-ltb, broken_value)
      by (Some k) is (l, l_is, calls) = by_calls calls
        where
          was : connection c v ≡ connection_of k
          was = ap (value_of v.opened c) is

          now : connection c w ≡ connection_of l
          now = value_then (Some l) l_is

          by_calls : CallsEnd t k l → Went c
          by_calls (ended l_ended) = grind (arith, nat_tests)
          by_calls (broke still whole in_it l_broke) =
              let here : connection c w ≡ connection_of (broken_held k) = now ∙ ap connection_of l_broke in
              let held = s.each c k is in
              falls
              (ap (λ z. z && not (is_broken_conn c v)) (broken_then (connection_of (broken_held k)) here)
              ∙ ap (λ z. is_broken_value v.opened c (connection_of (broken_held k)) && not (is_broken_value v.opened c z)) was
              ∙ rw (lt-ltb c v.opened held.born, still, whole) refl)
              held.born
              (ap is_shut_value was ∙ rw (still, whole) refl)
              in_it.request
              (ap (λ z. is_some (call_step (core_of v).now o z in_it.request).reply) was ∙ ap (λ (x : Step). is_some x.reply) (at k in_it.request) ∙ in_it.ends)
              (here ∙ broken_value (core_of v).now k still ∙ ap (λ n. went (core_of v).now (Break n) (connection_of k)) held.number_is ∙ ap (λ z. went (core_of v).now (Break c) z) (sym was))

  -- those that break
  abbrev these : List ℕ
  these = below_where newly v.opened

  pub break_by : BreakBy (core_of v).now (core_of v).conns o these
  break_by c on = by (went_each c)
    where
      by : Went c → (is_shut_value (connection c v) ≡ false) × ((r : ℕ) × (is_some (call_step (core_of v).now o (connection c v) r).reply ≡ true))
      by fact = grind (arith, nat_tests, and_parts, newly, listed_where)

  pub broadcast_fades : w.plans ≡ v.plans → (core_of w).now ≡ now_after o (core_of v).now → w.begun ≡ v.begun → w.jobs ≡ v.jobs → Fades (broadcast o these (core_of v)) (core_of w)
  broadcast_fades plans_are now_is begun_is jobs_are = record {
    plans_are = plans_are;
    now_is = now_is;
    opened_is = opened_is;
    begun_is = begun_is;
    waiting_are = jobs_are;
    conns_are = λ c. same (each c (went_each c));
    streams_are = λ c still. stream c (conn_of c v) refl (b.each c);
  }
    where
      each : (c : ℕ) → Went c → connection c w ≡ (if listed these c then went (core_of v).now (Break c) (connection c v) else went (core_of v).now o (connection c v))
      each c fact = grind (arith, nat_tests, listed, these, listed_where, newly, lt-ltb)

      stream : (c : ℕ) (x : Option HeldConnection) → conn_of c v ≡ x → MayEnd t x (conn_of c w) → stream_of (conn_of c w) ≡ stream_of (conn_of c v)
      stream c x is fact = grind (arith, nat_tests)

  -- what the event adds where those break, it adds
  pub broadcast_adds : w.plans ≡ v.plans → (core_of w).now ≡ now_after o (core_of v).now → w.begun ≡ v.begun → w.jobs ≡ v.jobs → (e : Event) (h : History)
      → ((cs : List ℕ) → AreOnce cs → BreakBy (core_of v).now (core_of v).conns o cs → Adds h.opened e h (core_of v) (broadcast o cs (core_of v))) → Adds h.opened e h (core_of v) (core_of w)
  broadcast_adds plans_are now_is begun_is jobs_are e h adds =
      fades_adds (broadcast o these (core_of v)) (core_of w) (broadcast_fades plans_are now_is begun_is jobs_are) h.opened e h (core_of v) (adds these (once_where newly v.opened) break_by)

-- ---- the calls of the gateway

pub reaches_adds : (m : ℕ) (v w : GatewayValue) (breaks : Bool) (h : History) → Reaches m v w breaks → IsServing v → Adds h.opened (event.Moment m) h (core_of v) (core_of w)
reaches_adds m v w breaks h r s =
    broadcast_adds (Reached (moment_after v.moment m)) (Moment m) v w breaks r.ends (ap (λ (x : GatewayValue). x.opened) r.rest) s (by_moment m) (λ k. at_moment (core_of v).now k m) (λ k. ended_moment (core_of v).now k m)
    (ap (λ (x : GatewayValue). x.plans) r.rest) (ap (λ (x : GatewayValue). now_of x.moment x.drained) r.rest) (ap (λ (x : GatewayValue). x.begun) r.rest) (ap (λ (x : GatewayValue). x.jobs) r.rest)
    (event.Moment m) h (λ cs once by. moment_adds h (core_of v) cs once m by)

pub drains_adds : (v w : GatewayValue) (breaks : Bool) (h : History) → Drains v w breaks → IsServing v → Adds h.opened event.Drain h (core_of v) (core_of w)
drains_adds v w breaks h r s =
    broadcast_adds Drained Drain v w breaks r.ends (ap (λ (x : GatewayValue). x.opened) r.rest) s by_drain (λ k. at_drain (core_of v).now k) (λ k. ended_drain (core_of v).now k)
    (ap (λ (x : GatewayValue). x.plans) r.rest) (ap (λ (x : GatewayValue). now_of x.moment x.drained) r.rest ∙ ap (λ n. now_of n true) (omega arith)) (ap (λ (x : GatewayValue). x.begun) r.rest) (ap (λ (x : GatewayValue). x.jobs) r.rest)
    event.Drain h (λ cs once by. drain_adds h (core_of v) cs once by)

-- ---- one that nobody hears

-- of one that is closed or broken no call can be decided
pub dead_when_shut : (v : ConnectionValue) (taken : List ReplyEntry) (os : List Occurrence) → ConnectionStands v taken os → is_shut_value v ≡ true → (r : ℕ) → (v.calls r).live ≡ None
dead_when_shut v taken os h shut r = grind arith

module _ (h : History) (v : CoreValue) (n : ℕ) (deaf : (is_open_value v.opened n (v.conns n) && is_heard (v.conns n) (v.streams n)) ≡ false) where
  -- where the definitions hear it, it is broken
  broke_then : HasConns v h.opened h.events → listens h.opened n h.events ≡ true → (v.conns n).broken ≡ true
  broke_then c on = grind arith

  each_deaf : HasConns v h.opened h.events → (c : ℕ) (b : Bool) → (n == c) ≡ b → (x : Bool) → listens h.opened n h.events ≡ x → StreamStands h.opened (event.HangUp n ∷ h.events) v.opened c (v.conns c) (v.streams c)
  each_deaf hc c false ne x on = stream_stays h.opened h.opened h.events (event.HangUp n ∷ h.events) v.opened v.opened c (v.conns c) (v.conns c) (v.streams c) (stays_itself (v.conns c)) (hc.each c) refl
      (open_still h.opened c (event.HangUp n) h.events refl refl) (hung_still h.opened c (event.HangUp n) h.events ne) (text_still h.opened c (event.HangUp n) h.events refl)
  each_deaf hc c true at false off = search arith
  each_deaf hc c true at true on = grind arith

  -- it changes nothing
  stands_deaf : HasConns v h.opened h.events → (os : List Occurrence) → StandsNow h v os → (x : Bool) → listens h.opened n h.events ≡ x
      → Newer (MayBreak h.opened (event.HangUp n) h.events) (StandsNow h v) (once x (occurs.HangUp n)) os
  stands_deaf hc os all false off = none_newer (MayBreak h.opened (event.HangUp n) h.events) (StandsNow h v) os all
  stands_deaf hc os all true on = one_newer (MayBreak h.opened (event.HangUp n) h.events) (StandsNow h v) os (occurs.HangUp n) [] refl tt
      (subst (λ m. AllStand m v.conns h.taken h.handed v.waiting (occurs.HangUp n ∷ os)) (ap (λ m. now_of m v.now.drained) (omega arith))
      (subst (λ js. AllStand (now_after (occurs.HangUp n) v.now) v.conns h.taken h.handed js (occurs.HangUp n ∷ os)) (append-nil v.waiting)
      (subst (λ (k : ℕ → ConnectionValue). AllStand (now_after (occurs.HangUp n) v.now) k h.taken h.handed (v.waiting ++ []) (occurs.HangUp n ∷ os)) (λ i d. quiet d (n == d) refl i)
      (all_step v.now v.conns h.taken h.handed v.waiting os (occurs.HangUp n) all (λ d. tt)))))
    where
      quiet : (d : ℕ) (b : Bool) → (n == d) ≡ b → (if b then went v.now (occurs.HangUp n) (v.conns d) else v.conns d) ≡ v.conns d
      quiet d false ne = refl
      quiet d true at =
          let broke : (v.conns d).broken ≡ true = ap (λ m. (v.conns m).broken) (sym (eqb-true n d at)) ∙ broke_then hc on in
          idle_stays v.now (occurs.HangUp n) (v.conns d) (by_hang_up n) (dead_when_shut (v.conns d) (h.taken d) (own d os) (all.each d) (ap (λ b. (v.conns d).closed || b) broke ∙ or_true (v.conns d).closed))

  pub deaf_adds : Adds h.opened (event.HangUp n) h v v
  deaf_adds = adds_event (event.HangUp n) h v v refl (none_more h.opened (event.HangUp n) h v v refl)
      (λ hc. record {
        below = λ place its. let lt = hc.below place its in omega (arith, lt);
        count_is = hc.count_is;
        each = λ c. each_deaf hc c (n == c) refl (listens h.opened n h.events) refl;
      })
      (λ hc lived l os at. subst (λ us. Newer (MayBreak h.opened (event.HangUp n) h.events) (StandsNow h v) us (occurrences lived)) (sym at)
      (stands_deaf hc (occurrences lived) l.stands (listens h.opened n h.events) refl))

-- ---- a hang-up as the gateway takes it

-- what the code hears, the value hears
pub heard_there : (c : ℕ) (v : GatewayValue) (k : HeldConnection) → IsServing v → conn_of c v ≡ Some k
    → (is_open_value v.opened c (connection c v) && is_heard (connection c v) (stream_of (conn_of c v))) ≡ hears k
heard_there c v k s k_is =
    ap (λ o. is_open_value v.opened c (value_of v.opened c o) && is_heard (value_of v.opened c o) (stream_of o)) k_is
    ∙ ap (λ b. (b && not k.closed) && (not k.broken && not k.hung_up)) (lt-ltb c v.opened (s.each c k k_is).born)

-- nothing is heard of one that is not kept
pub deaf_absent : (c : ℕ) (v : GatewayValue) → conn_of c v ≡ None → (is_open_value v.opened c (connection c v) && is_heard (connection c v) (stream_of (conn_of c v))) ≡ false
deaf_absent c v none = ap (λ b. b && is_heard (connection c v) (stream_of (conn_of c v))) (shut_absent c v none)

module _ (number : ℕ) (v w : GatewayValue) (h : History) (s : IsServing v) (k l : HeldConnection) (k_is : conn_of number v ≡ Some k) (m : Moves number (Some l) v w) (w_is : w ≡ record v { conns = w.conns }) (on : hears k ≡ true) where
  number_is : k.number ≡ number
  number_is = (s.each number k k_is).number_is

  value_is : connection number v ≡ connection_of k
  value_is = there_value number v k k_is

  parts : (is_open_value v.opened number (connection number v) ≡ true) × (is_heard (connection number v) (stream_of (conn_of number v)) ≡ true)
  parts = and_parts _ _ (heard_there number v k s k_is ∙ on)

  became : (cs : List ℕ) → went (core_of v).now (occurs.HangUp number) (all_broken (core_of v).now cs (core_of v).conns number) ≡ connection_of l
      → ((d : ℕ) → (number == d) ≡ false → all_broken (core_of v).now cs (core_of v).conns d ≡ connection d v) → stream_in l ≡ record (stream_in k) { hung_up = true }
      → Became number l v w (came (occurs.HangUp number) cs (λ c. hung_if (number == c) (stream_of (conn_of c v))) (core_of v))
  became cs here others stream = grind (arith, nat_tests, append-nil, same, all_broken, eq-eqb, hung_if)

  pub hung_adds : l ≡ ended_held (trigger.HungUp k.number) (hung_held k) → Adds h.opened (event.HangUp number) h (core_of v) (core_of w)
  hung_adds l_is = fades_adds (came (occurs.HangUp number) [] (λ c. hung_if (number == c) (stream_of (conn_of c v))) (core_of v)) (core_of w)
      (became_fades number l v w (came (occurs.HangUp number) [] (λ c. hung_if (number == c) (stream_of (conn_of c v))) (core_of v)) m (became []
      (ap (λ x. went (core_of v).now (occurs.HangUp number) x) value_is ∙ ap (λ n. went (core_of v).now (occurs.HangUp n) (connection_of k)) (sym number_is)
      ∙ sym (ended_hang_up (core_of v).now (hung_held k) k.number) ∙ ap connection_of (sym l_is)) (λ d ne. refl) (ap stream_in l_is)))
      h.opened (event.HangUp number) h (core_of v) (hang_up_adds h (core_of v) number [] parts.0 parts.1 (λ c os all. tt))

  pub hung_broke_adds : l ≡ broken_held (hung_held k) → Adds h.opened (event.HangUp number) h (core_of v) (core_of w)
  hung_broke_adds l_is = fades_adds (came (occurs.HangUp number) (number ∷ []) (λ c. hung_if (number == c) (stream_of (conn_of c v))) (core_of v)) (core_of w)
      (became_fades number l v w (came (occurs.HangUp number) (number ∷ []) (λ c. hung_if (number == c) (stream_of (conn_of c v))) (core_of v)) m (became (number ∷ []) here
      (λ d ne. ap (λ b. if b then went (core_of v).now (Break number) (connection d v) else connection d v) ne) (ap stream_in l_is)))
      h.opened (event.HangUp number) h (core_of v) (hang_up_adds h (core_of v) number (number ∷ []) parts.0 parts.1
      (hang_up_may h (core_of v) number (ap (λ (x : ConnectionValue). x.broken) value_is ∙ (hears_parts k on).1) parts.0 parts.1))
    where
      broke_is : all_broken (core_of v).now (number ∷ []) (core_of v).conns number ≡ went (core_of v).now (Break k.number) (connection_of k)
      broke_is = grind (arith, nat_tests)

      here : went (core_of v).now (occurs.HangUp number) (all_broken (core_of v).now (number ∷ []) (core_of v).conns number) ≡ connection_of l
      here = ap (λ x. went (core_of v).now (occurs.HangUp number) x) broke_is ∙ break_first (core_of v).now (occurs.HangUp number) (connection_of k) (by_hang_up number)
          ∙ sym (broken_value (core_of v).now (hung_held k) (hears_parts k on).0) ∙ ap connection_of (sym l_is)

pub hangs_adds : (number : ℕ) (v w : GatewayValue) (result : Result ⊤ StepFault) (h : History) → HangsUpAt number v w result → IsServing v → Adds h.opened (event.HangUp number) h (core_of v) (core_of w)
hangs_adds number v w result h (absent none r w_is) s = subst (λ x. Adds h.opened (event.HangUp number) h (core_of v) (core_of x)) (sym w_is) (deaf_adds h (core_of v) number (deaf_absent number v none))
hangs_adds number v w result h (there k l k_is t m w_is) s = by t
  where
    by : HangsUp k l result → Adds h.opened (event.HangUp number) h (core_of v) (core_of w)
    by (unnoticed off r l_is) =
        let conns_are : w.conns ≡ v.conns = m.same (ap (λ x. Some x) l_is ∙ sym k_is) in
        subst (λ x. Adds h.opened (event.HangUp number) h (core_of v) (core_of x)) (sym (w_is ∙ ap (λ cs. record v { conns = cs }) conns_are)) (deaf_adds h (core_of v) number (heard_there number v k s k_is ∙ off))
    by (hung on r l_is) = hung_adds number v w h s k l k_is m w_is on l_is
    by (broke on ends r l_is) = hung_broke_adds number v w h s k l k_is m w_is on l_is
