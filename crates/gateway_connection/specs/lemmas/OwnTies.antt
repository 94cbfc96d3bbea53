-- A connection stays tied to its contexts: what another does, what is told to all, and once none is over.
use Rattle.std.specs.Prelude.{◌≡◌, ◌∷◌, ◌++◌, ◌||◌, ◌&&◌, ◌==◌}
use Rattle.gateway_connection.specs.lemmas.Names.{option_or, ℕ, suc, refl, sym, ap, ◌∙◌, List, [], Option, Some, None, Bool, true, false, arith, is_some, list_any, eq-eqb, or_parts, list_any-append, HeldConnection, KeptValue, Live, CallId, is_call, deadlines_in, ContextsValue, Ended, LifeValue, TimedBranch, contexts_value, ends_of, has_ended, is_over, HookedContexts, Over, life_in, linked_calls, lives_in, none_over, timed, IsTied, LeavesContexts, LeavesOthers, linked_conn, own_contexts, nat_tests}
use Rattle.gateway_connection.specs.lemmas.OwnContexts.{ends_own, none_over_own, own_left}

-- what ended a connection is told by its own contexts
pub ends_linked : (over : Over) (drained : Bool) (ended : Ended) (k : HeldConnection) → k.closed ≡ false → k.broken ≡ false
    → ends_of (linked_conn ended drained over k) k.number ≡ ended
ends_linked over drained ended k opened whole = rw (opened, whole, eq-eqb k.number k.number refl) refl

-- contexts that are those of a connection, whatever ended it, are so by what they tell
pub relinked : (over : Over) (drained : Bool) (ended : Ended) (k : HeldConnection) (x : ContextsValue) → own_contexts k.number x ≡ linked_conn ended drained over k
    → own_contexts k.number x ≡ linked_conn (ends_of x k.number) x.drained over k
relinked over drained ended k x is = grind (arith, nat_tests, ends_own, or_parts, ends_linked)

-- ---- what another connection does

ends_left : (c d : ℕ) (v w : ContextsValue) → (d == c) ≡ false → LeavesContexts c v w → ends_of w d ≡ ends_of v d
ends_left c d v w apart leaves = sym (ends_own d w) ∙ ap (λ x. ends_of x d) (own_left c d v w apart leaves) ∙ ends_own d v

module _ {H : Type 0} where
  pub tied_left : (over : Over) (c : ℕ) (k : HeldConnection) (v w : HookedContexts H) → (k.number == c) ≡ false → LeavesOthers c v w → IsTied over k v → IsTied over k w
  tied_left over c k v w apart leaves tied = grind (arith, nat_tests, own_left, ends_left)

  -- a number under which no connection is kept has no contexts
  pub none_left : (c d : ℕ) (v w : HookedContexts H) → (d == c) ≡ false → LeavesOthers c v w → own_contexts d v.standing ≡ contexts_value v.standing.drained [] []
      → own_contexts d w.standing ≡ contexts_value w.standing.drained [] []
  none_left c d v w apart leaves none = own_left c d v.standing w.standing apart leaves.contexts ∙ none ∙ ap (λ b. contexts_value b [] []) (sym leaves.contexts.drained_is)

-- ---- once none is over

none_timed : (over : Over) (id : CallId) (call : Option ℕ) (k : ℕ) (ds : List (Option ℕ)) → list_any (λ (b : TimedBranch). is_some b.ended) (timed over id call k ds) ≡ false
    → timed over id call k ds ≡ timed none_over id call k ds
none_timed over id call k [] none = refl
none_timed over id call k (None ∷ ds) none = none_timed over id call (suc k) ds none
none_timed over id call k (Some at ∷ ds) none =
    let two = or_parts (is_some (option_or (over id call) (over id (Some at)))) (list_any (λ (b : TimedBranch). is_some b.ended) (timed over id call (suc k) ds)) none in
    ap (λ e. record { branch = k; deadline = at; ended = e } ∷ timed over id call (suc k) ds) (is_none_of (option_or (over id call) (over id (Some at))) two.0)
    ∙ ap (λ bs. record { branch = k; deadline = at; ended = None } ∷ bs) (none_timed over id call (suc k) ds two.1)
  where
    is_none_of : (e : Ended) → is_some e ≡ false → e ≡ None
    is_none_of None free = refl
    is_none_of (Some x) free = cc

life_not_over : (over : Over) (id : CallId) (out : List Bool) (l : Live) → is_over (life_in over id out l) ≡ false → life_in over id out l ≡ life_in none_over id out l
life_not_over over id out l none = grind (arith, nat_tests, or_parts, none_timed)

-- the contexts of calls, of which none is over
pub calls_not_over : (over : Over) (ks : List KeptValue) → list_any is_over (linked_calls over ks) ≡ false → linked_calls over ks ≡ linked_calls none_over ks
calls_not_over over [] none = refl
calls_not_over over (k ∷ ks) none =
    let two = or_parts (list_any is_over (lives_in over k)) (list_any is_over (linked_calls over ks)) (sym (list_any-append is_over (lives_in over k) (linked_calls over ks)) ∙ none) in
    ap (λ ls. ls ++ linked_calls over ks) (by k.call.live refl two.0) ∙ ap (λ ls. lives_in none_over k ++ ls) (calls_not_over over ks two.1)
  where
    by : (o : Option Live) → k.call.live ≡ o → list_any is_over (lives_in over k) ≡ false → lives_in over k ≡ lives_in none_over k
    by None o_is free = rw o_is refl
    by (Some l) o_is free = rw o_is (ap (λ x. x ∷ []) (life_not_over over k.id k.call.out l (or_parts (is_over (life_in over k.id k.call.out l)) false (rw o_is at free)).0))

module _ {H : Type 0} where
  pub none_over_tied : (over : Over) (k : HeldConnection) (c : HookedContexts H) → list_any is_over c.standing.calls ≡ false → IsTied over k c → IsTied none_over k c
  none_over_tied over k c none tied = grind (arith, nat_tests, calls_not_over, none_over_own)

-- ---- which are over

-- as long as none has ended, none is over
none_timed_over : (id : CallId) (call : Option ℕ) (k : ℕ) (ds : List (Option ℕ)) → list_any (λ (b : TimedBranch). is_some b.ended) (timed none_over id call k ds) ≡ false
none_timed_over id call k [] = refl
none_timed_over id call k (None ∷ ds) = none_timed_over id call (suc k) ds
none_timed_over id call k (Some at ∷ ds) = none_timed_over id call (suc k) ds

pub none_is_over : (ks : List KeptValue) → list_any is_over (linked_calls none_over ks) ≡ false
none_is_over [] = refl
none_is_over (k ∷ ks) = list_any-append is_over (lives_in none_over k) (linked_calls none_over ks) ∙ ap (λ b. list_any is_over (lives_in none_over k) || b) (none_is_over ks) ∙ by k.call.live refl
  where
    by : (o : Option Live) → k.call.live ≡ o → (list_any is_over (lives_in none_over k) || false) ≡ false
    by None o_is = rw o_is refl
    by (Some l) o_is = rw (o_is, none_timed_over k.id l.asked.deadline 0 (deadlines_in k.call.out l.deadlines)) refl

-- one that has ended is over
pub ended_is_over : (id : CallId) (ls : List LifeValue) → list_any (has_ended id) ls ≡ true → list_any is_over ls ≡ true
ended_is_over id [] is = cc
ended_is_over id (l ∷ ls) is = by (λ rest. ended_is_over id ls rest) (is_call l.id id) (is_over l) is
  where
    by : (list_any (has_ended id) ls ≡ true → list_any is_over ls ≡ true) → (a b : Bool) → ((a && b) || list_any (has_ended id) ls) ≡ true → (b || list_any is_over ls) ≡ true
    by rest a true at = refl
    by rest true false at = rest at
    by rest false false at = rest at
