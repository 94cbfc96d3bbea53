-- What is not kept any more leaves what stands, and what one connection's step makes of all.
use Rattle.std.specs.Prelude.{◌≡◌, ◌∷◌, ◌++◌, ◌<◌, ◌==◌, if◌then◌else◌}
use Rattle.gateway_theory.specs.lemmas.Cases.{and_off}
use Rattle.gateway_theory.specs.lemmas.Names.{ℕ, Bool, true, false, List, length, None, refl, sym, ap, ◌∙◌, subst, arith, zero, suc, [], Option, Some, nat_tests, All, slice_index_or, ReplyEntry, Event, by_events, Before, Occurs, History, JobValue, Occurrence, own, Placed, occurrences, has_out, AllStand, ConnectionStands, forgets, is_shut_value, ConnectionValue, not_kept, KeptValue, call_at, GatewayValue, conn_of, connection, value_of, HeldConnection, connection_of, Adds, CoreValue, HasConns, Lives, at_place, then_came, list_any, eqb-true, lt-ltb, is_call, CallId, no_call, core_of, stream_of, Holds, is_gone, left_of, stream_in, IsServing, Moves, or_parts}
use Rattle.gateway_theory.specs.lemmas.Standing.{call_forgotten, connection_forgotten}

-- of that connection a call is not kept any more, or it is not kept itself
pub data FadesTo (v w : ConnectionValue) : Type 0 where
  same : w ≡ v → FadesTo v w
  call_fades : (r : ℕ) → (v.calls r).live ≡ None → ((i : ℕ) → has_out (v.calls r) i ≡ false) → w ≡ forgets r v → FadesTo v w
  conn_fades : v.closed ≡ true → ((r : ℕ) → (v.calls r).live ≡ None) → ((r i : ℕ) → has_out (v.calls r) i ≡ false) → w ≡ not_kept true v.number → FadesTo v w

-- so it is of each, and all else is the same; of one that is closed or broken nobody reads the stream any more
pub record Fades (v w : CoreValue) : Type 0 where
  pub plans_are : w.plans ≡ v.plans
  pub now_is : w.now ≡ v.now
  pub opened_is : w.opened ≡ v.opened
  pub begun_is : w.begun ≡ v.begun
  pub waiting_are : w.waiting ≡ v.waiting
  pub conns_are : (c : ℕ) → FadesTo (v.conns c) (w.conns c)
  pub streams_are : (c : ℕ) → is_shut_value (v.conns c) ≡ false → w.streams c ≡ v.streams c

fades_stands : (v w : ConnectionValue) (taken : List ReplyEntry) (os : List Occurrence) → FadesTo v w → ConnectionStands v taken os → ConnectionStands w taken os
fades_stands v w taken os (same is) s = subst (λ x. ConnectionStands x taken os) (sym is) s
fades_stands v w taken os (call_fades r dead back is) s = subst (λ x. ConnectionStands x taken os) (sym is) (call_forgotten v taken r os dead back s)
fades_stands v w taken os (conn_fades shut dead back is) s = subst (λ x. ConnectionStands x taken os) (sym is) (connection_forgotten v taken os shut dead back s)

fades_number : (v w : ConnectionValue) → FadesTo v w → w.number ≡ v.number
fades_number v w fact = grind (arith, nat_tests)

module _ (v w : CoreValue) (f : Fades v w) where
  pub fades_conns : (opened : List ℕ) (events : Before) → HasConns v opened events → HasConns w opened events
  fades_conns opened events h = grind arith

  fades_all : (taken : ℕ → List ReplyEntry) (handed : List JobValue) (os : List Occurrence) → AllStand v.now v.conns taken handed v.waiting os → AllStand w.now w.conns taken handed w.waiting os
  fades_all taken handed os h =
      subst (λ n. AllStand n w.conns taken handed w.waiting os) (sym f.now_is) (subst (λ js. AllStand v.now w.conns taken handed js os) (sym f.waiting_are) (record {
        now = h.now;
        numbers = λ c. fades_number (v.conns c) (w.conns c) (f.conns_are c) ∙ h.numbers c;
        each = λ c. fades_stands (v.conns c) (w.conns c) (taken c) (own c os) (f.conns_are c) (h.each c);
        jobs_are = h.jobs_are;
      }))

  pub fades_lives : (h : History) (lived : List Placed) → Lives v h lived → Lives w h lived
  fades_lives h lived l = record {
    occurs = subst (λ plans. Occurs plans h.opened h.events (by_events lived)) (sym f.plans_are) l.occurs;
    in_order = l.in_order;
    breaks = l.breaks;
    conns = fades_conns h.opened h.events l.conns;
    stands = fades_all h.taken h.handed (occurrences lived) l.stands;
    begun_is = let was = l.begun_is in let same = f.begun_is in omega (arith, was, same);
  }

  -- what an event added, it adds
  pub fades_adds : (opened : List ℕ) (e : Event) (h : History) (u : CoreValue) → Adds opened e h u v → Adds opened e h u w
  fades_adds opened e h u a = record {
    plans_are = f.plans_are ∙ a.plans_are;
    conns = λ c. fades_conns opened (e ∷ h.events) (a.conns c);
    lives = λ lived l os at. let x = a.lives lived l os at in (x.0, x.1, fades_lives (then_came opened e h) (at_place (length h.events) x.0 ++ lived) x.2);
  }

-- ---- one that is gone

-- none of these calls can be decided
pub dead_call : (id : CallId) (calls : List KeptValue) → All (λ (c : KeptValue). c.call.live ≡ None) calls → (call_at id calls).live ≡ None
dead_call id [] a = refl
dead_call id (c ∷ calls) a = by (is_call c.id id) (a 0 no_call (omega arith)) (dead_call id calls (λ i d lt. a (suc i) d (omega (arith, lt))))
  where
    by : (b : Bool) → c.call.live ≡ None → (call_at id calls).live ≡ None → (if b then c.call else call_at id calls).live ≡ None
    by b is also = grind (arith, nat_tests)

-- no branch is out
pub none_out : (out : List Bool) (i : ℕ) → list_any (λ b. b) out ≡ false → slice_index_or out i false ≡ false
none_out [] i e = refl
none_out (b ∷ out) zero e = (or_parts b (list_any (λ x. x) out) e).0
none_out (b ∷ out) (suc i) e = none_out out i (or_parts b (list_any (λ x. x) out) e).1

out_of_none : (id : CallId) (i : ℕ) (calls : List KeptValue) → list_any (λ (c : KeptValue). list_any (λ b. b) c.call.out) calls ≡ false → has_out (call_at id calls) i ≡ false
out_of_none id i [] e = refl
out_of_none id i (c ∷ calls) e =
    let parts = or_parts (list_any (λ b. b) c.call.out) (list_any (λ (x : KeptValue). list_any (λ b. b) x.call.out) calls) e in
    by (is_call c.id id) (none_out c.call.out i parts.0) (out_of_none id i calls parts.1)
  where
    by : (b : Bool) → has_out c.call i ≡ false → has_out (call_at id calls) i ≡ false → has_out (if b then c.call else call_at id calls) i ≡ false
    by b is also = grind (arith, nat_tests)

-- what stays under its number is it, or nothing, once it is gone
pub left_fades : (opened c : ℕ) (l : HeldConnection) → Holds l → l.number ≡ c → c < opened → FadesTo (connection_of l) (value_of opened c (left_of l))
left_fades opened c l h its born = grind (arith, nat_tests, and_off, dead_call, out_of_none, lt-ltb)

-- ---- the number of each

pub numbers_are : (v : GatewayValue) → IsServing v → (c : ℕ) → (connection c v).number ≡ c
numbers_are v s c = by (conn_of c v) refl
  where
    by : (o : Option HeldConnection) → conn_of c v ≡ o → (value_of v.opened c (conn_of c v)).number ≡ c
    by None is = ap (λ o. (value_of v.opened c o).number) is
    by (Some k) is = ap (λ o. (value_of v.opened c o).number) is ∙ (s.each c k is).number_is

-- ---- a step of one connection

-- these are the connections and streams where the one of that number became this, and so is all else
pub record Became (c : ℕ) (l : HeldConnection) (v w : GatewayValue) (u : CoreValue) : Type 0 where
  pub plans_are : w.plans ≡ u.plans
  pub now_is : (core_of w).now ≡ u.now
  pub opened_is : w.opened ≡ v.opened
  pub opened_was : u.opened ≡ v.opened
  pub begun_is : w.begun ≡ u.begun
  pub jobs_are : w.jobs ≡ u.waiting
  pub conn_is : FadesTo (u.conns c) (connection_of l)
  pub others_are : (d : ℕ) → (c == d) ≡ false → u.conns d ≡ connection d v
  pub stream_is : is_shut_value (u.conns c) ≡ false → stream_in l ≡ u.streams c
  pub streams_are : (d : ℕ) → (c == d) ≡ false → u.streams d ≡ stream_of (conn_of d v)

-- it stays under its number
module _ (c : ℕ) (l : HeldConnection) (v w : GatewayValue) (u : CoreValue) (m : Moves c (Some l) v w) (b : Became c l v w u) where
  pub became_fades : Fades u (core_of w)
  became_fades = record {
    plans_are = b.plans_are;
    now_is = b.now_is;
    opened_is = b.opened_is ∙ sym b.opened_was;
    begun_is = b.begun_is;
    waiting_are = b.jobs_are;
    conns_are = λ d. each d (c == d) refl;
    streams_are = λ d still. stream d still (c == d) refl;
  }
    where
      each : (d : ℕ) (x : Bool) → (c == d) ≡ x → FadesTo (u.conns d) (connection d w)
      each d true at = subst (λ n. FadesTo (u.conns n) (connection n w)) (eqb-true c d at) (subst (λ o. FadesTo (u.conns c) (value_of w.opened c o)) (sym m.here) b.conn_is)
      each d false ne = same (ap (λ n. value_of n d (conn_of d w)) b.opened_is ∙ ap (value_of v.opened d) (m.others d ne) ∙ sym (b.others_are d ne))

      stream : (d : ℕ) → is_shut_value (u.conns d) ≡ false → (x : Bool) → (c == d) ≡ x → stream_of (conn_of d w) ≡ u.streams d
      stream d is x also = grind (arith, nat_tests)

-- it stays under its number, or is gone
module _ (c : ℕ) (l : HeldConnection) (v w : GatewayValue) (u : CoreValue) (m : Moves c (left_of l) v w) (b : Became c l v w u) (holds : Holds l) (its : l.number ≡ c) (born : c < v.opened) where
  abbrev midway : CoreValue
  midway = record u { conns = λ d. if c == d then connection_of l else u.conns d; streams = λ d. if c == d then stream_in l else u.streams d }

  to_midway : Fades u midway
  to_midway = record {
    plans_are = refl;
    now_is = refl;
    opened_is = refl;
    begun_is = refl;
    waiting_are = refl;
    conns_are = λ d. each d (c == d) refl;
    streams_are = λ d still. stream d still (c == d) refl;
  }
    where
      each : (d : ℕ) (x : Bool) → (c == d) ≡ x → FadesTo (u.conns d) (if x then connection_of l else u.conns d)
      each d true at = subst (λ n. FadesTo (u.conns n) (connection_of l)) (eqb-true c d at) b.conn_is
      each d false ne = same refl

      stream : (d : ℕ) → is_shut_value (u.conns d) ≡ false → (x : Bool) → (c == d) ≡ x → (if x then stream_in l else u.streams d) ≡ u.streams d
      stream d is x also = grind (arith, nat_tests)

  from_midway : Fades midway (core_of w)
  from_midway = record {
    plans_are = b.plans_are;
    now_is = b.now_is;
    opened_is = b.opened_is ∙ sym b.opened_was;
    begun_is = b.begun_is;
    waiting_are = b.jobs_are;
    conns_are = λ d. each d (c == d) refl;
    streams_are = λ d still. stream d still (c == d) refl;
  }
    where
      each : (d : ℕ) (x : Bool) → (c == d) ≡ x → FadesTo (if x then connection_of l else u.conns d) (connection d w)
      each d true at = subst (λ n. FadesTo (connection_of l) (connection n w)) (eqb-true c d at)
          (subst (λ y. FadesTo (connection_of l) y) (sym (ap (value_of w.opened c) m.here ∙ ap (λ n. value_of n c (left_of l)) b.opened_is)) (left_fades v.opened c l holds its born))
      each d false ne = same (ap (λ n. value_of n d (conn_of d w)) b.opened_is ∙ ap (value_of v.opened d) (m.others d ne) ∙ sym (b.others_are d ne))

      left_stream : (x : Bool) → is_gone l ≡ x → l.closed ≡ false → stream_of (left_of l) ≡ stream_in l
      left_stream x is also = grind (arith, nat_tests)

      stream : (d : ℕ) → is_shut_value (if c == d then connection_of l else u.conns d) ≡ false → (x : Bool) → (c == d) ≡ x → stream_of (conn_of d w) ≡ (if x then stream_in l else u.streams d)
      stream d is x also = grind (arith, nat_tests)

  pub left_adds : (opened : List ℕ) (e : Event) (h : History) (first : CoreValue) → Adds opened e h first u → Adds opened e h first (core_of w)
  left_adds opened e h first a = fades_adds midway (core_of w) from_midway opened e h first (fades_adds u midway to_midway opened e h first a)
