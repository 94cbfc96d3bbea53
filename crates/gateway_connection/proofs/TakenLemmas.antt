-- A result, as a connection takes it.
use Rattle.gateway_connection.specs.lemmas.Names.{◌≡◌, ℕ, zero, suc, ◌+◌, ◌-◌, ◌≤◌, ◌<◌, refl, sym, ap, ◌∙◌, List, [], ◌∷◌, Option, Some, None, Bool, true, false, length, subst, arith, ⊎_elim, ◌||◌, if◌then◌else◌, is_none, is_some, nat_lt, slice_set, Outcome, CallRecord, call_id, ReplyEntry, Call as Calling, ContextsValue, KeepsOthers, contexts_value, ends_of, is_life, peer, without, HookedContexts, fill_at, AreApart, KeptValue, Live, HeldConnection, slot_at, back_kept, stepped_kept, Step, has_out, IsFound, kept_at, waiting, same_call, Forgets, TakesStarved, back_held, broken_held, late, lost, lost_held, replied, result_in, settled, settled_held, stepped_held, Settles, TakesAt, TakesFrom, Unsettled, JobsValue, LeavesRest, linked_calls, none_over, IsTied, LeavesContexts, LeavesOthers, own_contexts, Shared, nat_tests}
use Rattle.gateway_model.specs.declared.seen.Seen.{Seen}
use Rattle.gateway_model.specs.declared.seen.Seen.TheVariants.{Counted, Late, Unknown}
use Rattle.gateway_theory.specs.Breaks.{seen_by}
use Rattle.gateway_theory.specs.declared.fault.Took.{Took}
use Rattle.gateway_connection.specs.lemmas.OwnContexts.{is_life_own, keeps_leaves, leaves_then, others_same, without_leaves, without_own}
use Rattle.gateway_connection.proofs.HoldsLemmas.{given_at, set_size}
use Rattle.gateway_connection.proofs.LentLemmas.{back_twice, back_waits, broken_dead, broken_size, forgets_tied, forgets_waits, rest_conn, rest_then, tied_back}
use Rattle.gateway_connection.proofs.SettleLemmas.{step_is, tied_calls}

pub none_live : (o : Option Live) → is_some o ≡ false → o ≡ None
none_live None e = refl
none_live (Some l) e = absurd (cc)

abbrev took : Seen → Bool → Took
took seen broke = record { seen = seen; broke = broke }

-- how it is seen
seen_is : (x : KeptValue) (branch : ℕ) → has_out x.call branch ≡ true → (if is_some x.call.live then Counted else Late) ≡ seen_by x.call branch
seen_is x branch out = sym (ap (λ b. if b then (if is_some x.call.live then Counted else Late) else Unknown) out)

-- a reply in its slot is nothing to the calls
pub replied_calls : (request : ℕ) (o : Option ReplyEntry) (k : HeldConnection) → (replied request o k).calls ≡ k.calls
replied_calls request o k = grind (arith, nat_tests)

-- whatever holds of the connection with as many slots
pub replied_same : (request : ℕ) (e : ReplyEntry) (k : HeldConnection) (P : HeldConnection → Type 0) → P k → ((slots : List (Option ReplyEntry)) → length slots ≡ length k.slots → P (record k { slots = slots })) → P (replied request (Some e) k)
replied_same request e k P here more = by (nat_lt request k.taken)
  where
    size : (i : ℕ) (slots : List (Option ReplyEntry)) → length (slice_set slots i (Some e)) ≡ length slots
    size i [] = refl
    size zero (s ∷ slots) = refl
    size (suc i) (s ∷ slots) = ap suc (size i slots)

    fill_size : (i : ℕ) (slots : List (Option ReplyEntry)) (b : Bool) → length (if b then slice_set slots i (Some e) else slots) ≡ length slots
    fill_size i slots true = size i slots
    fill_size i slots false = refl

    by : (b : Bool) → P (if b then k else record k { slots = fill_at (request - k.taken) e k.slots })
    by true = here
    by false = more (fill_at (request - k.taken) e k.slots) (fill_size (request - k.taken) k.slots (is_none (slot_at (request - k.taken) k.slots)))

set_there : (ks : List KeptValue) (i : ℕ) (x : KeptValue) → i < length ks → kept_at i (slice_set ks i x) ≡ x
set_there [] i x lt = absurd (omega (arith, lt))
set_there (k ∷ ks) zero x lt = refl
set_there (k ∷ ks) (suc i) x lt = set_there ks i x (omega (arith, lt))

settled_calls : (i : ℕ) (s : Step) (k : HeldConnection) → (settled_held i s k).calls ≡ slice_set k.calls i (stepped_kept s (kept_at i k.calls))
settled_calls i s k = replied_calls (kept_at i k.calls).id.request s.reply (stepped_held i s k)

module _ {H : Type 0} (k : HeldConnection) (a : Shared H) (request i branch : ℕ) (x : KeptValue) (seen : Seen) (x_is : x ≡ kept_at i k.calls)
    (found : IsFound (call_id k.number request) k.calls (Some i)) (out : has_out (kept_at i k.calls).call branch ≡ true) (seen_was : seen ≡ (if is_some x.call.live then Counted else Late)) where
  id_is : (kept_at i k.calls).id ≡ call_id k.number request
  id_is = same_call (kept_at i k.calls).id (call_id k.number request) found.1

  seen_now : seen ≡ seen_by (kept_at i k.calls).call branch
  seen_now = seen_was ∙ ap (λ (y : KeptValue). if is_some y.call.live then Counted else Late) x_is ∙ seen_is (kept_at i k.calls) branch out

  took_is : (broke : Bool) → took seen broke ≡ took (seen_by (kept_at i k.calls).call branch) broke
  took_is broke = ap (λ (s : Seen). took s broke) seen_now

  -- its call made its step
  module _ (outcome : Outcome) (l m : HeldConnection) (b : Shared H) (s : Settles i (result_in a.moment i branch outcome k) k l a b) (apart : AreApart l.calls) (forgets : Forgets (kept_at i l.calls).id l m) where
    calls_are : l.calls ≡ slice_set k.calls i (stepped_kept (result_in a.moment i branch outcome k) (kept_at i k.calls))
    calls_are = ap (λ (y : HeldConnection). y.calls) s.conn_is ∙ settled_calls i (result_in a.moment i branch outcome k) k

    within : i < length l.calls
    within = let lt = found.0 in omega (arith, lt, ap (λ (ks : List KeptValue). length ks) calls_are, set_size k.calls i (stepped_kept (result_in a.moment i branch outcome k) (kept_at i k.calls)))

    its : (kept_at i l.calls).id ≡ call_id k.number request
    its = ap (λ ks. (kept_at i ks).id) calls_are ∙ ap (λ (y : KeptValue). y.id) (set_there k.calls i (stepped_kept (result_in a.moment i branch outcome k) (kept_at i k.calls)) found.0) ∙ id_is

    pub result_settled : TakesFrom request branch outcome (record { seen = seen; broke = false }) k m a b
    result_settled = record {
      jobs = (result_in a.moment i branch outcome k).jobs;
      takes = settled i found out (took_is false) (subst (λ d. Forgets d (settled_held i (result_in a.moment i branch outcome k) k) m) its (subst (λ y. Forgets (kept_at i l.calls).id y m) s.conn_is forgets)) refl s.its;
      rest = rest_conn (result_in a.moment i branch outcome k).jobs k l m a b (forgets_waits l m i within apart forgets) s.rest;
    }

    pub settled_tied : IsTied none_over m b.contexts
    settled_tied = forgets_tied l m i within apart b.contexts forgets s.tied

  -- memory was refused, where it counted
  pub starved_lost : (m : HeldConnection) → is_some (kept_at i k.calls).call.live ≡ true → Forgets (kept_at i k.calls).id (lost_held i branch k) m → TakesStarved (call_id k.number request) branch k m (record { seen = seen; broke = true })
  starved_lost m live forgets = lost i found out live (took_is true) (subst (λ d. Forgets d (lost_held i branch k) m) id_is forgets)

  module _ (outcome : Outcome) (l m : HeldConnection) (b c : Shared H) (u : Unsettled i branch k l a b) (forgets : Forgets (kept_at i l.calls).id (lost_held i branch l) m) (rest : LeavesRest [] l m b c) where
    number : l.number ≡ k.number
    number = ⊎_elim (λ (same : l ≡ k). ap (λ (w : HeldConnection). w.number) same) (λ (back : l ≡ back_held i branch k). ap (λ (w : HeldConnection). w.number) back) u.conn_is

    lost_is : lost_held i branch l ≡ lost_held i branch k
    lost_is = grind (arith, nat_tests, back_twice)

    l_its : (kept_at i l.calls).id ≡ call_id k.number request
    l_its = grind (arith, nat_tests, set_there, id_is)

    pub result_lost : TakesFrom request branch outcome (record { seen = seen; broke = true }) k m a c
    result_lost = record {
      jobs = [];
      takes = lost i found out u.live (took_is true) (subst (λ d. Forgets d (lost_held i branch k) m) l_its (subst (λ w. Forgets (kept_at i l.calls).id w m) lost_is forgets)) refl;
      rest = rest_then [] [] k l m a b c number u.rest rest;
    }

  -- a result that does not count
  module _ (y m : HeldConnection) (dead : (kept_at i k.calls).call.live ≡ None) (y_is : y ≡ back_held i branch k) (apart : AreApart y.calls) (forgets : Forgets (kept_at i y.calls).id y m) where
    late_within : i < length y.calls
    late_within = let lt = found.0 in omega (arith, lt, ap (λ (w : HeldConnection). length w.calls) y_is, set_size k.calls i (back_kept branch (kept_at i k.calls)))

    late_its : (kept_at i y.calls).id ≡ call_id k.number request
    late_its = ap (λ (w : HeldConnection). (kept_at i w.calls).id) y_is ∙ ap (λ (w : KeptValue). w.id) (set_there k.calls i (back_kept branch (kept_at i k.calls)) found.0) ∙ id_is

    pub starved_late : TakesStarved (call_id k.number request) branch k m (record { seen = seen; broke = false })
    starved_late = late i found out (ap (λ o. is_none o) dead) (took_is false) (subst (λ d. Forgets d (back_held i branch k) m) late_its (subst (λ w. Forgets (kept_at i y.calls).id w m) y_is forgets))

    pub late_waits : waiting m.calls ≡ waiting k.calls
    late_waits = forgets_waits y m i late_within apart forgets ∙ ap (λ (w : HeldConnection). waiting w.calls) y_is ∙ back_waits k i branch found.0 dead

    pub late_tied : (c : HookedContexts H) → IsTied none_over k c → IsTied none_over m c
    late_tied c tied = forgets_tied y m i late_within apart c forgets (subst (λ w. IsTied none_over w c) (sym y_is) (tied_back k i branch c found.0 dead tied))

-- it breaks, and the branch comes back
module _ {H : Type 0} (i branch : ℕ) (k z y m : HeldConnection) (a c : Shared H) (lt : i < length k.calls) (z_is : z ≡ broken_held k) (y_is : y ≡ back_held i branch z) (apart : AreApart y.calls)
    (forgets : Forgets (kept_at i y.calls).id y m) where
  z_within : i < length z.calls
  z_within = omega (arith, lt, ap (λ (w : HeldConnection). length w.calls) z_is, broken_size k)

  z_dead : (kept_at i z.calls).call.live ≡ None
  z_dead = ap (λ (w : HeldConnection). (kept_at i w.calls).call.live) z_is ∙ broken_dead k i lt

  y_within : i < length y.calls
  y_within = omega (arith, z_within, ap (λ (w : HeldConnection). length w.calls) y_is, set_size z.calls i (back_kept branch (kept_at i z.calls)))

  y_its : (kept_at i y.calls).id ≡ (kept_at i k.calls).id
  y_its = ap (λ (w : HeldConnection). (kept_at i w.calls).id) y_is ∙ ap (λ (w : KeptValue). w.id) (set_there z.calls i (back_kept branch (kept_at i z.calls)) z_within)
      ∙ ap (λ (w : HeldConnection). (kept_at i w.calls).id) z_is ∙ ap (λ (w : KeptValue). w.id) (given_at k.calls i lt)

  pub loses : Forgets (kept_at i k.calls).id (lost_held i branch k) m
  loses = subst (λ d. Forgets d (lost_held i branch k) m) y_its (subst (λ w. Forgets (kept_at i y.calls).id w m) (y_is ∙ ap (back_held i branch) z_is) forgets)

  pub loses_tied : IsTied none_over z c.contexts → IsTied none_over m c.contexts
  loses_tied tied = forgets_tied y m i y_within apart c.contexts forgets (subst (λ w. IsTied none_over w c.contexts) (sym y_is) (tied_back z i branch c.contexts z_within z_dead tied))

  pub loses_rest : LeavesRest [] k z a c → LeavesRest [] k m a c
  loses_rest rest = rest_conn [] k z m a c (forgets_waits y m i y_within apart forgets ∙ ap (λ (w : HeldConnection). waiting w.calls) y_is ∙ back_waits z i branch z_within z_dead) rest

-- ---- the step of the call, with its reply

module _ {H : Type 0} (i branch : ℕ) (outcome : Outcome) (k l : HeldConnection) (a b : Shared H) (lt : i < length k.calls) (own : (kept_at i k.calls).id.conn ≡ k.number) (tied : IsTied none_over k a.contexts) where
  new_is : (decided : Option CallRecord) → (t : TakesAt i branch outcome decided k l a b) → record k { calls = slice_set k.calls i t.new } ≡ stepped_held i (result_in a.moment i branch outcome k) k
  new_is decided t = step_is k i branch a.moment outcome t.new decided t.next t.step

  -- it is not decided
  pub settles_on : TakesAt i branch outcome None k l a b → Settles i (result_in a.moment i branch outcome k) k l a b
  settles_on t = grind arith

  module _ (r : CallRecord) (t : TakesAt i branch outcome (Some r) k l a b) where
    -- it has a context still
    pub decided_known : is_life (kept_at i k.calls).id b.contexts.standing.calls ≡ true
    decided_known = sym (is_life_own (kept_at i k.calls).id b.contexts.standing) ∙ ap (λ c. is_life (kept_at i k.calls).id (own_contexts c b.contexts.standing).calls) own ∙ t.own.0

    -- its reply is made, and goes into its slot
    pub settles_with : (c : Shared H) (m : HeldConnection) → c.plans ≡ b.plans → c.moment ≡ b.moment → c.jobs ≡ b.jobs → c.begun ≡ b.begun → c.contexts.standing ≡ without (kept_at i k.calls).id b.contexts.standing
        → c.contexts.stocks ≡ b.contexts.stocks → m ≡ replied (kept_at i k.calls).id.request (Some (Calling r)) l → Settles i (result_in a.moment i branch outcome k) k m a c
    settles_with c m plans moment jobs begun gone stocks m_is = record {
      conn_is = m_is ∙ ap (replied (kept_at i k.calls).id.request (Some (Calling r))) (t.conn_is ∙ new_is (Some r) t)
          ∙ ap (λ o. replied (kept_at i k.calls).id.request o (stepped_held i (result_in a.moment i branch outcome k) k)) t.step.reply_is;
      tied = retied;
      begun_is = begun ∙ t.begun_is;
      its = t.step.its;
      rest = subst (λ js. LeavesRest js k m a c) t.step.jobs_are (record {
        plans_are = plans ∙ t.rest.plans_are;
        moment_is = moment ∙ t.rest.moment_is;
        jobs_are = ap (λ (q : JobsValue). q.jobs) jobs ∙ t.rest.jobs_are;
        waits = let was = t.rest.waits in omega (arith, was, ap (λ (q : JobsValue). q.waiting) jobs, ap (λ (ks : List KeptValue). waiting ks) m_calls);
        others = others_now;
      });
    }
      where
        m_calls : m.calls ≡ l.calls
        m_calls = ap (λ (w : HeldConnection). w.calls) m_is ∙ replied_calls (kept_at i k.calls).id.request (Some (Calling r)) l

        others_now : LeavesOthers k.number a.contexts c.contexts
        others_now = others_same k.number a.contexts c.contexts
            (leaves_then k.number a.contexts.standing b.contexts.standing c.contexts.standing (keeps_leaves k.number a.contexts.standing b.contexts.standing t.keeps)
            (subst (LeavesContexts k.number b.contexts.standing) (sym gone) (subst (λ n. LeavesContexts n b.contexts.standing (without (kept_at i k.calls).id b.contexts.standing)) own (without_leaves (kept_at i k.calls).id b.contexts.standing))))
            (stocks ∙ t.stocks_are)

        like : (w : HeldConnection) → w.number ≡ l.number → w.closed ≡ l.closed → w.broken ≡ l.broken → w.hung_up ≡ l.hung_up → w.taken + length w.slots ≡ l.taken + length l.slots → w.calls ≡ l.calls → IsTied none_over w c.contexts
        like w number closed broken hung next calls = tied_calls none_over k w a.contexts c.contexts
            (number ∙ ap (λ (x : HeldConnection). x.number) t.conn_is) (closed ∙ ap (λ (x : HeldConnection). x.closed) t.conn_is) (broken ∙ ap (λ (x : HeldConnection). x.broken) t.conn_is) (hung ∙ ap (λ (x : HeldConnection). x.hung_up) t.conn_is)
            (let was = ap (λ (x : HeldConnection). x.taken + length x.slots) t.conn_is in omega (arith, next, was))
            (ap (λ (x : ContextsValue). x.drained) gone ∙ t.keeps.drained_is) (ap (λ (x : ContextsValue). x.conns) gone ∙ t.keeps.conns_are) (stocks ∙ t.stocks_are)
            (ap (own_contexts k.number) gone ∙ without_own k.number (kept_at i k.calls).id b.contexts.standing ∙ t.own.1
            ∙ ap (λ ks. contexts_value a.contexts.standing.drained (if k.closed || k.broken then [] else peer k.number (ends_of a.contexts.standing k.number) ∷ []) (linked_calls none_over ks)) (sym (calls ∙ ap (λ (x : HeldConnection). x.calls) t.conn_is)))
            tied

        retied : IsTied none_over m c.contexts
        retied = subst (λ w. IsTied none_over w c.contexts) (sym m_is) (replied_same (kept_at i k.calls).id.request (Calling r) l (λ w. IsTied none_over w c.contexts) (like l refl refl refl refl refl refl)
            (λ slots size. like (record l { slots = slots }) refl refl refl refl (ap (λ n. l.taken + n) size) refl))

module _ {H : Type 0} (i branch : ℕ) (outcome : Outcome) (k l : HeldConnection) (a b : Shared H) (lt : i < length k.calls) where
  -- it is the same call
  pub taken_id : (decided : Option CallRecord) → TakesAt i branch outcome decided k l a b → (kept_at i l.calls).id ≡ (kept_at i k.calls).id
  taken_id decided t = ap (λ (w : HeldConnection). (kept_at i w.calls).id) t.conn_is ∙ ap (λ (x : KeptValue). x.id) (set_there k.calls i t.new lt) ∙ ap (λ (x : KeptValue). x.id) t.step.new_is

  pub taken_size : (decided : Option CallRecord) → TakesAt i branch outcome decided k l a b → length l.calls ≡ length k.calls
  taken_size decided t = ap (λ (w : HeldConnection). length w.calls) t.conn_is ∙ set_size k.calls i t.new

  pub taken_number : (decided : Option CallRecord) → TakesAt i branch outcome decided k l a b → l.number ≡ k.number
  taken_number decided t = ap (λ (w : HeldConnection). w.number) t.conn_is

  -- its reply finds no memory
  pub decided_fails : (r : CallRecord) → TakesAt i branch outcome (Some r) k l a b → (c : Shared H) → c.plans ≡ b.plans → c.moment ≡ b.moment → c.jobs ≡ b.jobs → c.begun ≡ b.begun
      → KeepsOthers k.number b.contexts.standing c.contexts.standing → c.contexts.stocks ≡ b.contexts.stocks → Unsettled i branch k l a c
  decided_fails r t c plans moment jobs begun keeps stocks = grind arith

-- a result that could not be settled changed no more than its call
module _ {H : Type 0} (i branch : ℕ) (k l : HeldConnection) (a b : Shared H) (u : Unsettled i branch k l a b) where
  pub unsettled_size : length l.calls ≡ length k.calls
  unsettled_size = grind (arith, nat_tests, set_size)

  pub unsettled_waits : waiting k.calls ≤ a.jobs.waiting → waiting l.calls ≤ b.jobs.waiting
  unsettled_waits le = let same = u.rest.waits in omega (arith, le, same)

pub settled_size : {H : Type 0} (i : ℕ) (s : Step) (k l : HeldConnection) (a b : Shared H) → Settles i s k l a b → length l.calls ≡ length k.calls
settled_size i s k l a b settles =
    ap (λ (w : HeldConnection). length w.calls) settles.conn_is ∙ ap (λ (ks : List KeptValue). length ks) (settled_calls i s k) ∙ set_size k.calls i (stepped_kept s (kept_at i k.calls))
