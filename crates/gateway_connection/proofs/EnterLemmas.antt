-- What comes on a connection's stream: its contexts, and what it makes of the connection.
use Rattle.gateway_connection.specs.lemmas.Names.{◌≡◌, ℕ, ◌+◌, ◌≤◌, refl, sym, ap, ◌∙◌, List, [], ◌∷◌, ◌++◌, Option, Some, None, Bool, true, false, ⊎_elim, map, length, append-nil, subst, arith, filter, not, range_with_len, option_map, option_or, option_map_or, is_some, PlanRecord, HttpRequest, eq-eqb, or_parts, length-append, filter-append, list_any-append, most_requests, CallEvent, ReplyEntry, CallId, ArrivedCall, is_call, ContextsValue, KeepsOthers, LifeValue, begun, by_deadline, by_drain, contexts_value, ending_at, ending_life, ends_of, is_life, is_peer, life_by, without, HookedContexts, StocksStay, TakesAtMostOne, stock_in, begins, begun_live, ends_first, first_jobs, first_ones, first_out, KeptValue, gone, TaskValue, HeldConnection, step_to, Step, job_at, task_of, all_stay, or_true, ReplyValue, waiting, call_itself, Holds, entered_held, hears, next_held, asking, Arrives, Begins, Enters, MayFail, IsBegun, MayCome, event_for, first_started, life_in, linked_calls, none_over, IsTied, LeavesOthers, own_calls, Shared, JobsValue, nat_tests, inl, entry_in, map-append, held_by, held_connection, ReaderValue}
use Rattle.connect_codec.specs.Verdict.{verdict_of}
use Rattle.connect_codec.specs.declared.verdict.Verdict.{Verdict}
use Rattle.connect_codec.specs.declared.verdict.Verdict.TheVariants.{Ask, Bare, Fail}
use Rattle.gateway_model.specs.Arrival.{Asks, Judged, arrival_by, arrival_of, plan_of}
use Rattle.std.proofs.lemmas.Simd.{map-map}
use Rattle.gateway_model.specs.declared.entry.ReplyEntry.TheVariants.{Refused}
use Rattle.gateway_theory.specs.Replies.{reply_with}
use Rattle.http_pieces.specs.declared.refusal.Refusal.{Refusal}
use Rattle.gateway_connection.specs.lemmas.OwnContexts.{is_life_own, is_peer_own, keeps_leaves, others_taken}
use Rattle.gateway_connection.specs.declared.arriving.Arriving.TheVariants.{Answered, Begins as BeginsCall}
use Rattle.gateway_theory.specs.Held.{IsFault, begins_call}
use Rattle.gateway_theory.specs.declared.fault.StepFault.{StepFault}
use Rattle.gateway_connection.proofs.HoldsLemmas.{next_new}
use Rattle.gateway_connection.proofs.LentLemmas.{rest_none}
use Rattle.gateway_connection.proofs.LinkedLemmas.{calls_append, none_life}
use Rattle.gateway_connection.proofs.TimedLemmas.{first_is, first_timed, life_on, with_last}

-- a request that asks for a call of the plan that its path names
pub asks_is : (plans : List PlanRecord) (q : HttpRequest) (plan : PlanRecord) (timeout : Option ℕ) (id : Option (List ℕ)) → plan_of plans q ≡ Some plan → verdict_of q true ≡ Ask timeout id → arrival_of plans q ≡ Asks plan timeout id
asks_is plans q plan timeout id found asks = ap (λ o. option_map_or (λ p. arrival_by (verdict_of q true) p) o (Judged (verdict_of q false))) found ∙ ap (λ v. arrival_by v plan) asks

-- .. and one that asks for none, whatever its path names
judged_by : (v : Verdict) (plan : PlanRecord) → ((t : Option ℕ) (id : Option (List ℕ)) → v ≡ Ask t id → ⊥) → arrival_by v plan ≡ Judged v
judged_by (Ask t id) plan never = absurd (never t id refl)
judged_by (Bare status) plan never = refl
judged_by (Fail error) plan never = refl

judged_at : (named : Option PlanRecord) (q : HttpRequest) (v : Verdict) (known : Bool) → known ≡ is_some named → v ≡ verdict_of q known
    → ((t : Option ℕ) (id : Option (List ℕ)) → v ≡ Ask t id → ⊥) → option_map_or (λ p. arrival_by (verdict_of q true) p) named (Judged (verdict_of q false)) ≡ Judged v
judged_at None q v known known_is v_is never = ap Judged (ap (verdict_of q) (sym known_is) ∙ sym v_is)
judged_at (Some p) q v known known_is v_is never = ap (λ w. arrival_by w p) (ap (verdict_of q) (sym known_is) ∙ sym v_is) ∙ judged_by v p never

some_mapped : {A : Type 0} (found : Option A) (f : A → PlanRecord) → is_some found ≡ is_some (option_map f found)
some_mapped None f = refl
some_mapped (Some x) f = refl

pub judged_is : {A : Type 0} (found : Option A) (f : A → PlanRecord) (plans : List PlanRecord) (q : HttpRequest) (v : Verdict) (known : Bool) → known ≡ is_some found
    → option_map f found ≡ plan_of plans q → v ≡ verdict_of q known → ((t : Option ℕ) (id : Option (List ℕ)) → v ≡ Ask t id → ⊥) → arrival_of plans q ≡ Judged v
judged_is found f plans q v known known_is path v_is never = judged_at (plan_of plans q) q v known (known_is ∙ some_mapped found f ∙ ap is_some path) v_is never

-- ---- one on which something may come

pub opened_by : (k : HeldConnection) → hears k ≡ true → k.closed ≡ false
opened_by k on = grind arith

pub whole_by : (k : HeldConnection) → hears k ≡ true → k.broken ≡ false
whole_by k on = grind arith

pub on_by : (k : HeldConnection) → hears k ≡ true → k.hung_up ≡ false
on_by k on = grind arith

module _ {H : Type 0} (k : HeldConnection) (s : Shared H) (m : MayCome k s) where
  -- it has a context
  pub may_known : is_peer k.number s.contexts.standing.conns ≡ true
  may_known = grind (arith, nat_tests, is_peer_own, opened_by, whole_by, eq-eqb)

  -- its next request has none yet
  pub may_fresh : Holds k → is_life (next_held k) s.contexts.standing.calls ≡ false
  may_fresh h = sym (is_life_own (next_held k) s.contexts.standing) ∙ ap (λ (x : ContextsValue). is_life (next_held k) x.calls) m.may.tied.are
      ∙ none_life none_over (next_held k) k.calls (next_new k (opened_by k m.on) h)

  -- it has a hook for that
  pub may_stocked : stock_in k.number s.contexts.stocks ≡ Some [] → ⊥
  may_stocked empty =
      let enough = m.may.tied.stocked (opened_by k m.on) (whole_by k m.on) [] empty in
      let room = m.room in
      omega (arith, enough, room)

  -- its context has ended where all were drained
  pub may_ends : ends_of s.contexts.standing k.number ≡ by_drain s.contexts.standing.drained
  may_ends = m.may.tied.only_by_drain (opened_by k m.on) (whole_by k m.on) (on_by k m.on)

-- ---- its context, as it is made

pub begun_others : (now : ℕ) (id : CallId) (a : ArrivedCall) (x : ContextsValue) → KeepsOthers id.conn x (begun now id a x)
begun_others now id a x = grind (arith, nat_tests, filter-append, eq-eqb, append-nil)

pub keeps_then : (c : ℕ) (x y z : ContextsValue) → KeepsOthers c x y → KeepsOthers c y z → KeepsOthers c x z
keeps_then c x y z a b = record { drained_is = b.drained_is ∙ a.drained_is; conns_are = b.conns_are ∙ a.conns_are; others_are = b.others_are ∙ a.others_are }

pub begun_is : (now : ℕ) (id : CallId) (a : ArrivedCall) (x : ContextsValue) → is_life id (begun now id a x).calls ≡ true
begun_is now id a x = list_any-append (λ (l : LifeValue). is_call l.id id) x.calls (life_by (option_or (ends_of x id.conn) (by_deadline now a.deadline)) id a ∷ [])
    ∙ rw (call_itself id) (or_true (is_life id x.calls))

pub begun_gone : (now : ℕ) (id : CallId) (a : ArrivedCall) (x : ContextsValue) → is_life id x.calls ≡ false → without id (begun now id a x) ≡ x
begun_gone now id a x none =
    ap (contexts_value x.drained x.conns) (filter-append (λ (l : LifeValue). not (is_call l.id id)) x.calls (life_by (option_or (ends_of x id.conn) (by_deadline now a.deadline)) id a ∷ [])
    ∙ rw (call_itself id) (append-nil (filter (λ (l : LifeValue). not (is_call l.id id)) x.calls) ∙ all_stay (λ (l : LifeValue). is_call l.id id) x.calls none))

life_pushed : (moment : ℕ) (id : CallId) (ls : List LifeValue) (l : LifeValue) → is_life id ls ≡ false → is_call l.id id ≡ true → ending_life moment id (ls ++ l ∷ []) ≡ ending_at moment l
life_pushed moment id [] l none its = rw its refl
life_pushed moment id (m ∷ ms) l none its =
    let two = or_parts (is_call m.id id) (is_life id ms) none in
    rw two.0 (life_pushed moment id ms l two.1 its)

-- a call that arrives ends by what its context tells
pub first_event : (moment : ℕ) (id : CallId) (a : ArrivedCall) (x : ContextsValue) (d : Bool) → is_life id x.calls ≡ false → ends_of x id.conn ≡ by_drain d
    → event_for moment id (begun moment id a x) ≡ ends_first moment d a
first_event moment id a x d fresh not_hung = grind (arith, nat_tests, life_pushed, call_itself)

-- a call that is not crowded out begins as this event says
pub asking_first : (crowded : Bool) (moment : ℕ) (drained : Bool) (id : CallId) (a : ArrivedCall) (q : Option CallEvent) → crowded ≡ false → q ≡ ends_first moment drained a → asking crowded moment drained id a ≡ begins moment q id a
asking_first crowded moment drained id a q full q_is = rw full (ap (λ e. begins moment e id a) (sym q_is))

-- a context that begins, and has not ended
pub begun_on : (moment : ℕ) (id : CallId) (a : ArrivedCall) (x : ContextsValue) (d : Bool) → ends_of x id.conn ≡ by_drain d → ends_first moment d a ≡ None
    → begun moment id a x ≡ contexts_value x.drained x.conns (x.calls ++ life_by None id a ∷ [])
begun_on moment id a x d not_hung none = grind arith

-- a context that has begun is one of the connection's calls
pub comes_others : (l : LifeValue) (x y : ContextsValue) → y ≡ contexts_value x.drained x.conns (x.calls ++ l ∷ []) → KeepsOthers l.id.conn x y
comes_others l x y y_is = grind (arith, nat_tests, filter-append, eq-eqb, append-nil)

-- the first branches of a call that begins start
pub first_linked : (moment : ℕ) (id : CallId) (a : ArrivedCall) (x y z : ContextsValue) → is_life id x.calls ≡ false → y ≡ contexts_value x.drained x.conns (x.calls ++ life_by None id a ∷ [])
    → z ≡ first_started id moment a.plan (first_ones a) y → z ≡ contexts_value x.drained x.conns (x.calls ++ life_in none_over id (first_out a) (begun_live moment id a) ∷ [])
first_linked moment id a x y z fresh y_is z_is = grind (arith, nat_tests, first_is, call_itself, with_last, life_on, first_timed)

-- ---- the connection, on which it came

pub first_queued : (moment : ℕ) (id : CallId) (a : ArrivedCall) (first : List TaskValue) → first ≡ map (task_of id a) (range_with_len 0 (first_ones a))
    → map (job_at moment) first ≡ first_jobs moment id a
first_queued moment id a first first_is = ap (map (job_at moment)) first_is ∙ map-map (job_at moment) (task_of id a) (range_with_len 0 (first_ones a))

-- a slot and a call are there more
pub begun_now : (number taken : ℕ) (xs ys : List (Option ReplyValue)) (ks ls : List KeptValue) (call : KeptValue) (broken closed hung_up : Bool) (reader : ReaderValue)
    → ys ≡ xs ++ None ∷ [] → ls ≡ ks ++ call ∷ [] → held_by number taken ys ls broken closed hung_up reader
    ≡ record (held_by number taken xs ks broken closed hung_up reader) { slots = map entry_in xs ++ None ∷ []; calls = ks ++ call ∷ [] }
begun_now number taken xs ys ks ls call broken closed hung_up reader slots calls =
    ap (λ zs. held_by number taken zs ls broken closed hung_up reader) slots
    ∙ ap (λ zs. held_by number taken (xs ++ None ∷ []) zs broken closed hung_up reader) calls
    ∙ ap (λ zs. held_connection number taken zs (ks ++ call ∷ []) broken closed hung_up reader) (map-append entry_in xs (None ∷ []))

-- a call began
pub begun_held : (k : HeldConnection) (moment : ℕ) (a : ArrivedCall) (call : KeptValue) (first : List TaskValue) → IsBegun moment (next_held k) a call first
    → record k { slots = k.slots ++ None ∷ []; calls = k.calls ++ call ∷ [] } ≡ entered_held (begins moment None (next_held k) a) k
begun_held k moment a call first b = ap (λ c. record k { slots = k.slots ++ None ∷ []; calls = k.calls ++ c ∷ [] }) b.call_is

module _ {H : Type 0} where
  -- one request more came, which took at most one hook
  stocked_more : (k l : HeldConnection) (v w : HookedContexts H) → l.number ≡ k.number → (next_held l).request ≡ (next_held k).request + 1 → k.closed ≡ false → k.broken ≡ false → TakesAtMostOne k.number v w
      → IsTied none_over k v → (stock : List H) → stock_in l.number w.stocks ≡ Some stock → most_requests ≤ length stock + (next_held l).request
  stocked_more k l v w number more opened whole takes tied stock is = ⊎_elim
      (λ (same : stock_in k.number v.stocks ≡ Some stock). let enough = tied.stocked opened whole stock same in omega (arith, enough, more))
      (λ (less : (k.number ≡ k.number) × ((hook : H) × (stock_in k.number v.stocks ≡ Some (hook ∷ stock)))).
      let enough = tied.stocked opened whole (less.1.0 ∷ stock) less.1.1 in omega (arith, enough, more))
      (takes k.number stock (ap (λ n. stock_in n w.stocks) (sym number) ∙ is))

  -- .. and its context, if it has one, stands behind those of the others
  pub tied_more : (k l : HeldConnection) (v w : HookedContexts H) (lives : List LifeValue) → l.number ≡ k.number → l.closed ≡ k.closed → l.broken ≡ k.broken → l.hung_up ≡ k.hung_up → k.closed ≡ false → k.broken ≡ false
      → (next_held l).request ≡ (next_held k).request + 1 → linked_calls none_over l.calls ≡ linked_calls none_over k.calls ++ lives
      → w.standing ≡ contexts_value v.standing.drained v.standing.conns (v.standing.calls ++ lives) → own_calls k.number lives ≡ lives → TakesAtMostOne k.number v w → IsTied none_over k v → IsTied none_over l w
  tied_more k l v w lives number closed broken hung opened whole more calls w_is own takes tied = grind (arith, nat_tests, filter-append, stocked_more)

module _ {H : Type 0} where
  pub stays_same : (v w : HookedContexts H) → w.stocks ≡ v.stocks → StocksStay v w
  stays_same v w same number stock is = ap (stock_in number) (sym same) ∙ is

  pub takes_then : (n : ℕ) (u v w : HookedContexts H) → TakesAtMostOne n u v → StocksStay v w → TakesAtMostOne n u w
  takes_then n u v w a b other stock is = a other stock (b other stock is)

  -- of others nothing was taken
  pub taken_leaves : (n m : ℕ) (v w : HookedContexts H) → n ≡ m → KeepsOthers n v.standing w.standing → TakesAtMostOne n v w → LeavesOthers m v w
  taken_leaves n m v w is keeps takes = subst (λ k. LeavesOthers k v w) is (others_taken n v w (keeps_leaves n v.standing w.standing keeps) takes)

  -- something is answered at once
  pub tied_answered : (k : HeldConnection) (e : ReplyEntry) (v w : HookedContexts H) → k.closed ≡ false → k.broken ≡ false → w.standing ≡ v.standing → TakesAtMostOne k.number v w → IsTied none_over k v
      → IsTied none_over (entered_held (step_to gone (Some e) []) k) w
  tied_answered k e v w opened whole w_is takes tied = tied_more k (entered_held (step_to gone (Some e) []) k) v w [] refl refl refl refl opened whole
      (omega (arith, length-append k.slots (Some e ∷ [])))
      (ap (linked_calls none_over) (append-nil k.calls) ∙ sym (append-nil (linked_calls none_over k.calls)))
      (w_is ∙ ap (contexts_value v.standing.drained v.standing.conns) (sym (append-nil v.standing.calls))) refl takes tied

  -- a call begins, and so do the contexts of its first branches
  pub tied_begun : (moment : ℕ) (k : HeldConnection) (a : ArrivedCall) (v w : HookedContexts H) → k.closed ≡ false → k.broken ≡ false
      → w.standing ≡ contexts_value v.standing.drained v.standing.conns (v.standing.calls ++ life_in none_over (next_held k) (first_out a) (begun_live moment (next_held k) a) ∷ [])
      → TakesAtMostOne k.number v w → IsTied none_over k v → IsTied none_over (entered_held (begins moment None (next_held k) a) k) w
  tied_begun moment k a v w opened whole w_is takes tied = tied_more k (entered_held (begins moment None (next_held k) a) k) v w (life_in none_over (next_held k) (first_out a) (begun_live moment (next_held k) a) ∷ [])
      refl refl refl refl opened whole (omega (arith, length-append k.slots (None ∷ []))) (calls_append none_over k.calls _) w_is (rw (eq-eqb k.number k.number refl) refl) takes tied

-- ---- what came, by what was asked for

-- nothing came
pub fails_same : {H : Type 0} (k : HeldConnection) (s : Shared H) → MayFail k k s s
fails_same k s = record { conn_is = refl; begun_is = refl; rest = rest_none k s }

module _ {H : Type 0} (k : HeldConnection) (a b : Shared H) (s : Step) where
  -- only the contexts changed
  module _ (rest : b ≡ record a { contexts = b.contexts }) where
    pub lent_jobs : b.jobs ≡ a.jobs
    lent_jobs = ap (λ (x : Shared H). x.jobs) rest

    pub lent_moment : b.moment ≡ a.moment
    lent_moment = ap (λ (x : Shared H). x.moment) rest

    pub lent_begun : b.begun ≡ a.begun
    lent_begun = ap (λ (x : Shared H). x.begun) rest

  -- it is answered at once
  module _ (r : ReplyValue) (may : MayCome k a) (at : Arrives (Answered r) (next_held k) s a b) where
    answered_others : LeavesOthers k.number a.contexts b.contexts
    answered_others = taken_leaves k.number k.number a.contexts b.contexts refl (subst (KeepsOthers k.number a.contexts.standing) (sym at.contexts) (record { drained_is = refl; conns_are = refl; others_are = refl })) at.hooks

    pub answered_enters : (l : HeldConnection) → l ≡ entered_held (step_to gone (Some r.entry) []) k → Enters s k l a b
    answered_enters l l_is = subst (λ st. Enters st k l a b) (sym at.comes.1) (record {
      conn_is = l_is;
      tied = subst (λ x. IsTied none_over x b.contexts) (sym l_is)
          (tied_answered k r.entry a.contexts b.contexts (opened_by k may.on) (whole_by k may.on) at.contexts at.hooks may.may.tied);
      begun_is = let same = lent_begun at.rest in omega (arith, same);
      few = λ lt. let same = lent_begun at.rest in absurd (omega (arith, lt, same));
      rest = record {
        plans_are = ap (λ (x : Shared H). x.plans) at.rest;
        moment_is = lent_moment at.rest;
        jobs_are = ap (λ (x : Shared H). x.jobs.jobs) at.rest ∙ sym (append-nil a.jobs.jobs);
        waits = ap (λ (x : Shared H). x.jobs.waiting + waiting k.calls) at.rest ∙ ap (λ ks. a.jobs.waiting + waiting ks) (sym (ap (λ (x : HeldConnection). x.calls) l_is ∙ append-nil k.calls));
        others = answered_others;
      };
    })

    -- .. or can't be
    pub answered_fails : (l : HeldConnection) → l ≡ k → MayFail k l a b
    answered_fails l same = subst (λ x. MayFail k x a b) (sym same) (record {
      conn_is = refl;
      begun_is = lent_begun at.rest;
      rest = record {
        plans_are = ap (λ (x : Shared H). x.plans) at.rest;
        moment_is = lent_moment at.rest;
        jobs_are = ap (λ (x : Shared H). x.jobs.jobs) at.rest ∙ sym (append-nil a.jobs.jobs);
        waits = ap (λ (x : Shared H). x.jobs.waiting + waiting k.calls) at.rest;
        others = answered_others;
      };
    })

  -- it begins a call
  module _ (asked : ArrivedCall) (may : MayCome k a) (at : Arrives (BeginsCall asked) (next_held k) s a b) where
    begins_keeps : KeepsOthers k.number a.contexts.standing b.contexts.standing
    begins_keeps = comes_others (life_in none_over (next_held k) (first_out asked) (begun_live a.moment (next_held k) asked)) a.contexts.standing b.contexts.standing at.contexts

    begins_others : LeavesOthers k.number a.contexts b.contexts
    begins_others = taken_leaves k.number k.number a.contexts b.contexts refl begins_keeps at.hooks

    -- it can't be kept
    pub begins_fails : (c : Shared H) → c ≡ b → MayFail k k a c
    begins_fails c same = grind (arith, nat_tests, begun_is, lent_begun, lent_moment, append-nil, begins_others)

    -- .. for this fault
    pub begins_faults : (f : StepFault) → IsFault f b.begun true → IsFault f a.begun (begins_call s)
    begins_faults f is = subst (λ n. IsFault f n (begins_call s)) (lent_begun at.rest) (subst (IsFault f b.begun) (sym (ap begins_call at.comes)) is)

    -- it is kept
    pub begins_enters : (l : HeldConnection) (c : Shared H) → Begins (begins b.moment None (next_held k) asked) k l b c → Enters s k l a c
    begins_enters l c kept = by (subst (λ m. Begins (begins m None (next_held k) asked) k l b c) (lent_moment at.rest) kept)
      where
        by : Begins (begins a.moment None (next_held k) asked) k l b c → Enters s k l a c
        by made = subst (λ st. Enters st k l a c) (sym at.comes) (record {
          conn_is = made.conn_is;
          tied = subst (λ x. IsTied none_over x c.contexts) (sym made.conn_is) (subst (IsTied none_over (entered_held (begins a.moment None (next_held k) asked) k))
              (sym (ap (λ (x : Shared H). x.contexts) made.rest))
              (tied_begun a.moment k asked a.contexts b.contexts (opened_by k may.on) (whole_by k may.on) at.contexts at.hooks may.may.tied));
          begun_is = made.begun_is ∙ ap (λ n. n + 1) (lent_begun at.rest);
          few = λ lt. made.few;
          rest = record {
            plans_are = ap (λ (x : Shared H). x.plans) made.rest ∙ ap (λ (x : Shared H). x.plans) at.rest;
            moment_is = ap (λ (x : Shared H). x.moment) made.rest ∙ lent_moment at.rest;
            jobs_are = made.jobs_are ∙ ap (λ (q : JobsValue). q.jobs ++ (begins a.moment None (next_held k) asked).jobs) (lent_jobs at.rest);
            waits = let w = made.waits in omega (arith, w, ap (λ (q : JobsValue). q.waiting) (lent_jobs at.rest));
            others = subst (LeavesOthers k.number a.contexts) (sym (ap (λ (x : Shared H). x.contexts) made.rest)) begins_others;
          };
        })

-- its stream is refused
pub refused_enters : {H : Type 0} (k l : HeldConnection) (s : Shared H) (refusal : Refusal) → MayCome k s → l ≡ entered_held (step_to gone (Some (Refused refusal)) []) k
    → Enters (step_to gone (Some (Refused refusal)) []) k l s s
refused_enters k l s refusal may is =
    answered_enters k s s (step_to gone (Some (Refused refusal)) []) (reply_with (next_held k) (Refused refusal)) may (record { comes = (refl, refl); contexts = refl; hooks = λ other stock there. inl there; rest = refl }) l is
