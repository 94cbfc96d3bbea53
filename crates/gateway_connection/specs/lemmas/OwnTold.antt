-- What may end calls is told to all contexts: those of a connection have ended by it as its calls say.
use Rattle.std.specs.Prelude.{◌≡◌, ◌∷◌, ◌||◌, ◌==◌, if◌then◌else◌}
use Rattle.gateway_connection.specs.lemmas.Names.{ℕ, suc, refl, sym, ap, ◌∙◌, List, [], Option, Some, None, Bool, true, false, map, arith, option_or, eq-eqb, ends_branch, hung_held, HeldConnection, KeptValue, Live, CallId, deadlines_in, Trigger, Reached, HungUp, Drained, sym_eqb, ContextsValue, Ended, LifeValue, PeerValue, TimedBranch, by_drain, by_hang_up, contexts_value, ends_life, ends_of, expires_life, peer, told, HookedContexts, KeepsHooks, stock_in, Over, life_in, linked_calls, none_over, over_by, timed, IsTied, linked_conn, own_contexts, nat_tests}
use Rattle.gateway_connection.specs.lemmas.OwnContexts.{ends_own, told_own}
use Rattle.gateway_connection.specs.lemmas.OwnTies.{ends_linked, relinked}

-- what becomes of each branch's context
timed_told : (g : TimedBranch → TimedBranch) (over : Over) (id : CallId) (call : Option ℕ)
    → ((k at : ℕ) → g (record { branch = k; deadline = at; ended = None }) ≡ record { branch = k; deadline = at; ended = option_or (over id call) (over id (Some at)) })
    → (k : ℕ) (ds : List (Option ℕ)) → map g (timed none_over id call k ds) ≡ timed over id call k ds
timed_told g over id call each k [] = refl
timed_told g over id call each k (None ∷ ds) = timed_told g over id call each (suc k) ds
timed_told g over id call each k (Some at ∷ ds) =
    ap (λ b. b ∷ map g (timed none_over id call (suc k) ds)) (each k at)
    ∙ ap (λ bs. record { branch = k; deadline = at; ended = option_or (over id call) (over id (Some at)) } ∷ bs) (timed_told g over id call each (suc k) ds)

-- each context of a call, and of its branches, has ended by this
lives_told : (h : LifeValue → LifeValue) (over : Over) → ((id : CallId) (out : List Bool) (l : Live) → h (life_in none_over id out l) ≡ life_in over id out l) → (ks : List KeptValue)
    → map h (linked_calls none_over ks) ≡ linked_calls over ks
lives_told h over same [] = refl
lives_told h over same (k ∷ ks) = grind (arith, lives_told h over same ks)

or_itself : (e : Ended) → e ≡ option_or e e
or_itself None = refl
or_itself (Some x) = refl

-- of one call, its deadline and what ended it
abbrev life_of : CallId → Live → Ended → List TimedBranch → LifeValue
life_of id l ended branches = record { id = id; deadline = l.asked.deadline; request_id = l.asked.request_id; ended = ended; branches = branches }

reached_life : (now : ℕ) (id : CallId) (out : List Bool) (l : Live) → expires_life now (life_in none_over id out l) ≡ life_in (over_by (Reached now)) id out l
reached_life now id out l = grind (arith, nat_tests, timed_told)

hung_life : (c : ℕ) (id : CallId) (out : List Bool) (l : Live) → ends_life (by_hang_up (id.conn == c)) (life_in none_over id out l) ≡ life_in (over_by (HungUp c)) id out l
hung_life c id out l = grind (arith, nat_tests, sym_eqb, timed_told, or_itself)

drained_life : (id : CallId) (out : List Bool) (l : Live) → ends_life (by_drain true) (life_in none_over id out l) ≡ life_in (over_by Drained) id out l
drained_life id out l =
    ap (life_of id l (by_drain true)) (timed_told (ends_branch (by_drain true)) (over_by Drained) id l.asked.deadline (λ k at. refl) 0 (deadlines_in out l.deadlines))

-- ---- what a connection has, once it was told

reached_linked : (now : ℕ) (ended : Ended) (drained : Bool) (k : HeldConnection) → told (Reached now) (linked_conn ended drained none_over k) ≡ linked_conn ended drained (over_by (Reached now)) k
reached_linked now ended drained k = ap (contexts_value drained (if k.closed || k.broken then [] else peer k.number ended ∷ [])) (lives_told (expires_life now) (over_by (Reached now)) (reached_life now) k.calls)

peers_told : (f : PeerValue → PeerValue) (n : ℕ) (ended after : Ended) → f (peer n ended) ≡ peer n after → (b : Bool)
    → map f (if b then [] else peer n ended ∷ []) ≡ (if b then [] else peer n after ∷ [])
peers_told f n ended after same true = refl
peers_told f n ended after same false = ap (λ p. p ∷ []) same

drained_linked : (ended : Ended) (drained : Bool) (k : HeldConnection) → told Drained (linked_conn ended drained none_over k) ≡ linked_conn (option_or ended (by_drain true)) true (over_by Drained) k
drained_linked ended drained k = grind (arith, nat_tests, peers_told, lives_told, drained_life)

hung_linked : (ended : Ended) (drained : Bool) (k : HeldConnection)
    → told (HungUp k.number) (linked_conn ended drained none_over k) ≡ linked_conn (option_or ended (by_hang_up true)) drained (over_by (HungUp k.number)) (hung_held k)
hung_linked ended drained k = grind (arith, nat_tests, peers_told, eq-eqb, lives_told, hung_life)

-- ---- it is tied to what has ended so

module _ {H : Type 0} where
  own_told : (t : Trigger) (c : ℕ) (v w : HookedContexts H) → w.standing ≡ told t v.standing → own_contexts c w.standing ≡ told t (own_contexts c v.standing)
  own_told t c v w is = ap (own_contexts c) is ∙ told_own t c v.standing

  stays_stocked : (v w : HookedContexts H) (d : ℕ) (stock : List H) → KeepsHooks v w → stock_in d w.stocks ≡ Some stock → stock_in d v.stocks ≡ Some stock
  stays_stocked v w d stock keeps is = ap (stock_in d) (sym keeps.stocks_are) ∙ is

  pub reached_tied : (now : ℕ) (k : HeldConnection) (v w : HookedContexts H) → w.standing ≡ told (Reached now) v.standing → KeepsHooks v w → IsTied none_over k v → IsTied (over_by (Reached now)) k w
  reached_tied now k v w is keeps tied = record {
    are = relinked (over_by (Reached now)) v.standing.drained (ends_of v.standing k.number) k w.standing
        (own_told (Reached now) k.number v w is ∙ ap (told (Reached now)) tied.are ∙ reached_linked now (ends_of v.standing k.number) v.standing.drained k);
    only_by_drain = λ opened whole on. ap (λ x. ends_of x k.number) is ∙ tied.only_by_drain opened whole on ∙ ap by_drain (sym (ap (λ (x : ContextsValue). x.drained) is));
    stocked = λ opened whole stock it. tied.stocked opened whole stock (stays_stocked v w k.number stock keeps it);
  }

  pub drained_tied : (k : HeldConnection) (v w : HookedContexts H) → w.standing ≡ told Drained v.standing → KeepsHooks v w → IsTied none_over k v → IsTied (over_by Drained) k w
  drained_tied k v w is keeps tied = record {
    are = relinked (over_by Drained) true (option_or (ends_of v.standing k.number) (by_drain true)) k w.standing linked;
    only_by_drain = λ opened whole on. sym (ends_own k.number w.standing) ∙ ap (λ x. ends_of x k.number) linked
        ∙ ends_linked (over_by Drained) true (option_or (ends_of v.standing k.number) (by_drain true)) k opened whole
        ∙ ap (λ e. option_or e (by_drain true)) (tied.only_by_drain opened whole on) ∙ by v.standing.drained ∙ ap by_drain (sym (ap (λ (x : ContextsValue). x.drained) is));
    stocked = λ opened whole stock it. tied.stocked opened whole stock (stays_stocked v w k.number stock keeps it);
  }
    where
      linked : own_contexts k.number w.standing ≡ linked_conn (option_or (ends_of v.standing k.number) (by_drain true)) true (over_by Drained) k
      linked = own_told Drained k.number v w is ∙ ap (told Drained) tied.are ∙ drained_linked (ends_of v.standing k.number) v.standing.drained k

      by : (d : Bool) → option_or (by_drain d) (by_drain true) ≡ by_drain true
      by true = refl
      by false = refl

  pub hung_tied : (k : HeldConnection) (v w : HookedContexts H) → w.standing ≡ told (HungUp k.number) v.standing → KeepsHooks v w → IsTied none_over k v
      → IsTied (over_by (HungUp k.number)) (hung_held k) w
  hung_tied k v w is keeps tied = record {
    are = relinked (over_by (HungUp k.number)) v.standing.drained (option_or (ends_of v.standing k.number) (by_hang_up true)) (hung_held k) w.standing
        (own_told (HungUp k.number) k.number v w is ∙ ap (told (HungUp k.number)) tied.are ∙ hung_linked (ends_of v.standing k.number) v.standing.drained k);
    only_by_drain = λ opened whole on. let clash : true ≡ false = on in cc;
    stocked = λ opened whole stock it. tied.stocked opened whole stock (stays_stocked v w k.number stock keeps it);
  }

  -- a number under which none is kept has no contexts then either
  pub none_told : (t : Trigger) (c : ℕ) (v w : HookedContexts H) → w.standing ≡ told t v.standing → own_contexts c v.standing ≡ contexts_value v.standing.drained [] []
      → own_contexts c w.standing ≡ contexts_value w.standing.drained [] []
  none_told t c v w is none = own_told t c v w is ∙ ap (told t) none ∙ by t ∙ ap (λ x. contexts_value x.drained [] []) (sym is)
    where
      by : (t : Trigger) → told t (contexts_value v.standing.drained [] []) ≡ contexts_value (told t v.standing).drained [] []
      by (Reached now) = refl
      by (HungUp n) = refl
      by Drained = refl
