-- The calls of a connection that this ends, of which the first so many have ended.
use Rattle.gateway_connection.specs.lemmas.Names.{◌≡◌, ℕ, ◌+◌, ◌≤◌, ◌<◌, sym, ap, ◌∙◌, [], ◌∷◌, ◌++◌, Bool, true, false, map, length, append-nil, subst, arith, ◌||◌, All, if◌then◌else◌, is_some, slice_set, ContextsValue, LivesApart, contexts_value, ending_life, ends_of, is_life, peer, without, Trigger, ended_kept, KeptValue, HeldConnection, ReplyValue, stepped_kept, Step, kept_at, no_call, waiting, Holds, broken_held, next_held, EndsBy, EndsOne, FailsOne, ending_of, filled_by, replies_by, LeavesRest, MayStep, IsNow, event_for, linked_calls, none_over, over_by, IsTied, own_contexts, Shared, nat_tests}
use Rattle.gateway_connection.specs.lemmas.OwnContexts.{apart_own, ending_own, is_life_own, others_none, without_own}
use Rattle.gateway_connection.proofs.DoneLemmas.{done_all, done_at, done_next, done_size, done_to}
use Rattle.gateway_connection.proofs.EndLemmas.{all_ended, done_given, ended_own, ends_in, made_next, made_own, made_to, step_of}
use Rattle.gateway_connection.proofs.LentLemmas.{rest_conn, rest_then}
use Rattle.gateway_connection.proofs.LinkedLemmas.{live_has_life}
use Rattle.gateway_connection.proofs.SettleLemmas.{tied_calls}
use Rattle.gateway_connection.proofs.SlotLemmas.{filled_size}
use Rattle.gateway_connection.proofs.ToldLemmas.{ends_as, event_at, not_over}

module _ {H : Type 0} where
  pub record EndsSome (trigger : Trigger) (n : ℕ) (k l : HeldConnection) (a b : Shared H) : Type 0 where
    pub conn_is : l ≡ record k { calls = done_to (ended_kept trigger) n k.calls }
    pub made_are : b.made.items ≡ made_to trigger n k.calls
    pub tied : IsTied (over_by trigger) l b.contexts
    pub begun_is : b.begun ≡ a.begun
    pub rest : LeavesRest [] k l a b

  module _ (trigger : Trigger) (n : ℕ) (k l : HeldConnection) (a b : Shared H) (h : Holds k) (s : EndsSome trigger n k l a b) where
    -- how many there are
    pub some_size : length l.calls ≡ length k.calls
    some_size = ap (λ (x : HeldConnection). length x.calls) s.conn_is ∙ done_size (ended_kept trigger) n k.calls

    pub some_number : l.number ≡ k.number
    some_number = ap (λ (x : HeldConnection). x.number) s.conn_is

    -- the next one is as it was
    pub some_here : kept_at n l.calls ≡ kept_at n k.calls
    some_here = ap (λ (x : HeldConnection). kept_at n x.calls) s.conn_is ∙ done_at (ended_kept trigger) n k.calls

    pub some_conn : n < length k.calls → (kept_at n l.calls).id.conn ≡ l.number
    some_conn lt = ap (λ (x : KeptValue). x.id.conn) some_here ∙ h.own n no_call lt ∙ sym some_number

    -- it has its context while it can be decided
    pub some_known : n < length k.calls → is_some (kept_at n l.calls).call.live ≡ true → is_life (kept_at n l.calls).id b.contexts.standing.calls ≡ true
    some_known lt live = grind (arith, nat_tests, is_life_own, some_conn, live_has_life)

    -- no more of its branches wait than are counted
    pub some_waits : waiting k.calls ≤ a.jobs.waiting → waiting l.calls ≤ b.jobs.waiting
    some_waits le = let same = s.rest.waits in omega (arith, le, same)

    -- what it makes is what its contexts tell
    pub some_step : n < length k.calls → IsNow trigger a.moment → LivesApart b.contexts.standing.calls → ending_of n l b ≡ step_of trigger (kept_at n k.calls)
    some_step lt now apart =
        ends_as trigger (event_for b.moment (kept_at n l.calls).id b.contexts.standing) (kept_at n l.calls) (λ live is.
        sym (ending_own b.moment (kept_at n l.calls).id b.contexts.standing)
        ∙ ap (λ c. ending_life b.moment (kept_at n l.calls).id (own_contexts c b.contexts.standing).calls) (some_conn lt)
        ∙ event_at trigger b.moment (own_contexts l.number b.contexts.standing) l.calls n (subst (IsNow trigger) (sym s.rest.moment_is) now) (apart_own l.number b.contexts.standing apart)
        (ap (λ (x : ContextsValue). x.calls) s.tied.are) live is)
        ∙ ap (step_of trigger) some_here

    module _ (m : HeldConnection) (c : Shared H) (lt : n < length k.calls) (now : IsNow trigger a.moment) (apart : LivesApart b.contexts.standing.calls) where
      -- one more ends
      module _ (one : EndsOne n (ending_of n l b) l m b c) where
        kept_is : stepped_kept (ending_of n l b) (kept_at n l.calls) ≡ ended_kept trigger (kept_at n k.calls)
        kept_is = ap (λ st. stepped_kept st (kept_at n l.calls)) (some_step lt now apart) ∙ ap (λ x. stepped_kept (step_of trigger (kept_at n k.calls)) x) some_here

        calls_are : slice_set l.calls n (stepped_kept (ending_of n l b) (kept_at n l.calls)) ≡ done_to (ended_kept trigger) (n + 1) k.calls
        calls_are = done_next (ended_kept trigger) n k.calls l.calls (stepped_kept (ending_of n l b) (kept_at n l.calls)) lt (ap (λ (x : HeldConnection). x.calls) s.conn_is) kept_is

        m_is : m ≡ record k { calls = done_to (ended_kept trigger) (n + 1) k.calls }
        m_is = one.conn_is ∙ ap (λ ks. record l { calls = ks }) calls_are ∙ ap (λ (x : HeldConnection). record x { calls = done_to (ended_kept trigger) (n + 1) k.calls }) s.conn_is

        m_number : m.number ≡ l.number
        m_number = ap (λ (x : HeldConnection). x.number) one.conn_is

        abbrev goes : Bool
        goes = is_some (ending_of n l b).reply

        drained_is : c.contexts.standing.drained ≡ b.contexts.standing.drained
        drained_is = cc

        conns_are : c.contexts.standing.conns ≡ b.contexts.standing.conns
        conns_are = grind arith

        own_is : own_contexts l.number c.contexts.standing ≡ (if goes then without (kept_at n l.calls).id (own_contexts l.number b.contexts.standing) else own_contexts l.number b.contexts.standing)
        own_is = grind (arith, nat_tests, without_own)

        own_now : own_contexts l.number c.contexts.standing ≡ contexts_value b.contexts.standing.drained (if l.closed || l.broken then [] else peer l.number (ends_of b.contexts.standing l.number) ∷ []) (linked_calls (over_by trigger) m.calls)
        own_now =
            ended_own trigger b.contexts.standing.drained (if l.closed || l.broken then [] else peer l.number (ends_of b.contexts.standing l.number) ∷ []) l.calls n (own_contexts l.number b.contexts.standing)
            (own_contexts l.number c.contexts.standing) (omega (arith, lt, some_size)) (apart_own l.number b.contexts.standing apart) s.tied.are
            (own_is ∙ ap (λ (st : Step). if is_some st.reply then without (kept_at n l.calls).id (own_contexts l.number b.contexts.standing) else own_contexts l.number b.contexts.standing)
            (some_step lt now apart ∙ ap (step_of trigger) (sym some_here)))
            ∙ ap (λ x. contexts_value b.contexts.standing.drained (if l.closed || l.broken then [] else peer l.number (ends_of b.contexts.standing l.number) ∷ []) (linked_calls (over_by trigger) (slice_set l.calls n x)))
            (ap (ended_kept trigger) some_here ∙ sym kept_is)
            ∙ ap (λ (x : HeldConnection). contexts_value b.contexts.standing.drained (if l.closed || l.broken then [] else peer l.number (ends_of b.contexts.standing l.number) ∷ []) (linked_calls (over_by trigger) x.calls)) (sym one.conn_is)

        pub some_next : EndsSome trigger (n + 1) k m a c
        some_next = record {
          conn_is = m_is;
          made_are = made_next trigger n k.calls b.made.items c.made.items lt s.made_are (one.made_are
              ∙ ap (λ (st : Step). b.made.items ++ replies_by (kept_at n l.calls).id st) (some_step lt now apart)
              ∙ ap (λ (x : KeptValue). b.made.items ++ replies_by x.id (step_of trigger (kept_at n k.calls))) some_here);
          tied = tied_calls (over_by trigger) l m b.contexts c.contexts m_number (ap (λ (x : HeldConnection). x.closed) one.conn_is) (ap (λ (x : HeldConnection). x.broken) one.conn_is) (ap (λ (x : HeldConnection). x.hung_up) one.conn_is)
              (let same = ap (λ (x : HeldConnection). (next_held x).request) one.conn_is in omega (arith, same)) drained_is conns_are one.stocks_are own_now s.tied;
          begun_is = one.begun_is ∙ s.begun_is;
          rest = rest_then [] [] k l m a b c some_number s.rest one.rest;
        }

      -- memory is refused to its reply, and the connection breaks
      module _ (fails : FailsOne (ending_of n l b) l m b c) (z : HeldConnection) (d : Shared H) (z_is : z ≡ broken_held m) (rest : LeavesRest [] m z c d) where
        pub some_broke : EndsBy trigger true k z
        some_broke = grind (arith, nat_tests, ends_in, some_step, done_given)

        pub some_broke_rest : LeavesRest [] k z a d
        some_broke_rest = rest_then [] [] k m z a c d (fails.number_is ∙ some_number) (rest_then [] [] k l m a b c some_number s.rest fails.rest) rest

    -- .. or no more memory waits for it than was counted
    pub fails_waits : (m : HeldConnection) (c : Shared H) → waiting k.calls ≤ a.jobs.waiting → LeavesRest [] l m b c → waiting m.calls ≤ c.jobs.waiting
    fails_waits m c le rest = let same = s.rest.waits in let after = rest.waits in omega (arith, le, same, after)

    -- the replies are its own
    pub some_own : All (λ (r : ReplyValue). r.id.conn ≡ l.number) b.made.items
    some_own = subst (All (λ (r : ReplyValue). r.id.conn ≡ l.number)) (sym s.made_are) (made_own trigger l.number n k.calls (subst (λ c. All (λ (x : KeptValue). x.id.conn ≡ c) k.calls) (sym some_number) h.own))

    -- all have ended, and their replies are in their slots
    module _ (all : length k.calls ≤ n) (z : HeldConnection) (z_is : z ≡ filled_by b.made.items l) where
      pub some_all : EndsBy trigger false k z
      some_all = z_is ∙ all_ended trigger k l n b.made.items all h.apart s.made_are (s.conn_is ∙ ap (λ ks. record k { calls = ks }) (done_all (ended_kept trigger) n k.calls all))

      calls_same : z.calls ≡ l.calls
      calls_same = ap (λ (x : HeldConnection). x.calls) z_is

      ended_calls : linked_calls (over_by trigger) l.calls ≡ linked_calls none_over z.calls
      ended_calls =
          let now_are : l.calls ≡ map (ended_kept trigger) k.calls = ap (λ (x : HeldConnection). x.calls) s.conn_is ∙ done_all (ended_kept trigger) n k.calls all in
          ap (linked_calls (over_by trigger)) now_are ∙ not_over trigger (λ id. false) k.calls ∙ ap (linked_calls none_over) (sym now_are ∙ sym calls_same)

      pub some_tied : IsTied none_over z b.contexts
      some_tied = grind (arith, nat_tests, filled_size, ended_calls)

      pub some_rest : LeavesRest [] k z a b
      some_rest = rest_conn [] k l z a b (ap waiting calls_same) s.rest

  -- none has ended yet
  pub some_first : (trigger : Trigger) (k : HeldConnection) (a b : Shared H) → MayStep (over_by trigger) k a → b.plans ≡ a.plans → b.moment ≡ a.moment → b.contexts ≡ a.contexts → b.jobs ≡ a.jobs → b.begun ≡ a.begun
      → b.made.items ≡ [] → EndsSome trigger 0 k k a b
  some_first trigger k a b may plans moment contexts jobs begun made = grind (arith, nat_tests, append-nil, others_none)
