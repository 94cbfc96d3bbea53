-- A connection opens: its contexts, its hooks, and what is kept of the gateway then.
use Rattle.gateway_core.proofs.Names.{◌≡◌, ℕ, ◌+◌, ◌<◌, ◌≤◌, refl, sym, ap, ◌∙◌, List, [], ◌∷◌, ◌++◌, length, Option, Some, None, false, cond, subst, arith, insert_entry, is_at, IsStrictlySortedBy, keys_of, nat_cmp, eq-eqb, same_Some, HeldConnection, new_held, IsServing, Moves, Opens, open_in, Tally, ContextsValue, by_drain, contexts_value, ends_of, is_peer, opened as opens, BringsHooks, HookedContexts, Stocks, stock_in, none_over, IsTied, linked_conn, own_contexts, Shared, ends_own, is_peer_own, opened_own, others_opened, ends_linked, relinked, Conns, IsWhole, TiedAt, gateway_of, held_at, waiting_for, nat_tests}
use Rattle.gateway_model.specs.Events.{most_open}
use Rattle.gateway_core.proofs.MapLemmas.{moved_in, sum_inserted}
use Rattle.gateway_core.proofs.StepLemmas.{whole_moved}

module _ {H : Type 0} where
  stock_behind : (n : ℕ) (stock : List H) (ss : Stocks H) → stock_in n ss ≡ None → stock_in n (ss ++ (n, stock) ∷ []) ≡ Some stock
  stock_behind n stock [] none = rw (eq-eqb n n refl) refl
  stock_behind n stock (s ∷ ss) none = grind (arith, stock_behind n stock ss)

  -- it is tied to its context, and has a hook for each request
  pub opened_tied : (n : ℕ) (stock : List H) (v w : HookedContexts H) → own_contexts n v.standing ≡ contexts_value v.standing.drained [] [] → w.standing ≡ opens n v.standing → BringsHooks n stock v w
      → IsTied none_over (new_held n) w
  opened_tied n stock v w none is brings = record {
    are = relinked none_over v.standing.drained (by_drain v.standing.drained) (new_held n) w.standing linked;
    only_by_drain = λ still whole on. sym (ends_own n w.standing) ∙ ap (λ x. ends_of x n) linked
        ∙ ends_linked none_over v.standing.drained (by_drain v.standing.drained) (new_held n) refl refl ∙ ap by_drain (sym (ap (λ (x : ContextsValue). x.drained) is));
    stocked = λ still whole hooks it.
        let same : stock ≡ hooks = same_Some stock hooks (sym (ap (stock_in n) brings.stocks_are ∙ stock_behind n stock v.stocks brings.none) ∙ it) in
        let size : length hooks ≡ length stock = ap length (sym same) in
        let full = brings.full in
        omega (arith, size, full);
  }
    where
      linked : own_contexts n w.standing ≡ linked_conn (by_drain v.standing.drained) v.standing.drained none_over (new_held n)
      linked = ap (own_contexts n) is ∙ opened_own n v.standing ∙ ap (opens n) none

  -- no connection has the next number, or one above it
  unborn_from : (s : Shared H) (es : Conns) (opened : ℕ) (tally : Tally) → IsServing (gateway_of s es opened tally) → (n : ℕ) → opened ≤ n → held_at n es ≡ None
  unborn_from s es opened tally serving n le = by (held_at n es) refl
    where
      by : (o : Option HeldConnection) → held_at n es ≡ o → o ≡ None
      by None is = refl
      by (Some k) is = absurd (let born = (serving.each n k is).born in omega (arith, born, le))

  pub unborn : (s : Shared H) (es : Conns) (opened : ℕ) (tally : Tally) → IsServing (gateway_of s es opened tally) → held_at opened es ≡ None
  unborn s es opened tally serving = unborn_from s es opened tally serving opened (omega arith)

  module _ {s : Shared H} {es : Conns} {opened open_now : ℕ} {tally : Tally} (w : IsWhole s es opened open_now tally) where
    none_kept : (n : ℕ) → opened ≤ n → own_contexts n s.contexts.standing ≡ contexts_value s.contexts.standing.drained [] []
    none_kept n le = subst (λ o. TiedAt none_over n o s.contexts) (unborn_from s es opened tally w.serving n le) (w.fit.tied n)

    pub no_peer : (n : ℕ) → opened ≤ n → is_peer n s.contexts.standing.conns ≡ false
    no_peer n le = sym (is_peer_own n s.contexts.standing) ∙ ap (λ (x : ContextsValue). is_peer n x.conns) (none_kept n le)

    module _ (fs : Conns) (conn : HeldConnection) (new : conn ≡ new_held opened) (put : fs ≡ insert_entry nat_cmp es opened conn)
        (updates : (q : ℕ) → held_at q fs ≡ cond (is_at (nat_cmp opened) q) (Some conn) (held_at q es)) (sorted : IsStrictlySortedBy nat_cmp (keys_of fs)) (x : HookedContexts H) where
      moves : Moves opened (Some (new_held opened)) (gateway_of s es opened tally) (gateway_of (record s { contexts = x }) fs (opened + 1) tally)
      moves = moved_in opened (new_held opened) (gateway_of s es opened tally) (gateway_of (record s { contexts = x }) fs (opened + 1) tally) (unborn s es opened tally w.serving)
          (put ∙ ap (insert_entry nat_cmp es opened) new) (λ q. updates q ∙ ap (λ k. cond (is_at (nat_cmp opened) q) (Some k) (held_at q es)) new) w.serving.sorted sorted

      pub opens_step : open_now < most_open → x.standing ≡ opens opened s.contexts.standing
          → Opens (gateway_of s es opened tally) (gateway_of (record s { contexts = x }) fs (opened + 1) tally) opened
      opens_step few is = grind (arith, nat_tests, moves)

      pub opens_whole : (stock : List H) → x.standing ≡ opens opened s.contexts.standing → BringsHooks opened stock s.contexts x
          → IsServing (gateway_of (record s { contexts = x }) fs (opened + 1) tally) → IsWhole (record s { contexts = x }) fs (opened + 1) (open_now + 1) tally
      opens_whole stock is brings serving =
          let sums = sum_inserted waiting_for opened conn es fs (unborn s es opened tally w.serving) put w.serving.sorted in
          let zero_waits : waiting_for conn ≡ 0 = ap waiting_for new in
          let none_in : open_in (held_at opened es) ≡ 0 = ap open_in (unborn s es opened tally w.serving) in
          whole_moved s (record s { contexts = x }) es fs opened (opened + 1) open_now (open_now + 1) tally tally opened (Some (new_held opened)) w serving moves
          (others_opened opened stock s.contexts x is brings) (opened_tied opened stock s.contexts x (none_kept opened (omega arith)) is brings)
          (omega (arith, sums, zero_waits, w.fit.waits)) refl (omega (arith, none_in))
