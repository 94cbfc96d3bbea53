-- The calls of a connection end, one after the other.
use Rattle.gateway_connection.specs.lemmas.Names.{◌≡◌, ℕ, zero, suc, ◌+◌, ◌≤◌, ◌<◌, refl, sym, ap, ◌∙◌, List, [], ◌∷◌, ◌++◌, subst, Option, Some, None, Bool, true, false, map, length, append-nil, arith, All, if◌then◌else◌, is_some, option_map, option_to_list, slice_set, option_or, All-cons, All-head, All-tail, CallEvent, CallState, ReplyEntry, CallId, is_call, ContextsValue, LivesApart, PeerValue, contexts_value, without, Trigger, AreApart, ended_call, ended_kept, reply_for, KeptValue, call_at, HeldConnection, ReplyValue, reply_with, Step, IsFound, given_up, kept_at, same_call, EndsIn, EndsOne, Shared, Holds, ended_held, call_apart, call_found, call_itself, call_missing, ends_with, filled_by, replies_by, linked_calls, over_by, nat_tests}
use Rattle.std.proofs.lemmas.List.{append_assoc}
use Rattle.gateway_theory.specs.Step.{kept}
use Rattle.gateway_connection.proofs.DoneLemmas.{done_to, set_same}
use Rattle.gateway_connection.proofs.HoldsLemmas.{own_id}
use Rattle.gateway_connection.proofs.LentLemmas.{rest_none}
use Rattle.gateway_connection.proofs.LinkedLemmas.{set_alike, set_dead}
use Rattle.gateway_connection.proofs.SlotLemmas.{same_filled}

module _ (trigger : Trigger) where
  -- what it makes of the call
  abbrev pub step_of : KeptValue → Step
  step_of x = ended_call trigger x.id x.call

  -- the call at a place ends, if this ends it, and so do its contexts
  pub ended_own : (b : Bool) (ns : List PeerValue) (ks : List KeptValue) (i : ℕ) (c d : ContextsValue) → i < length ks → LivesApart c.calls → c ≡ contexts_value b ns (linked_calls (over_by trigger) ks)
      → d ≡ (if is_some (step_of (kept_at i ks)).reply then without (kept_at i ks).id c else c) → d ≡ contexts_value b ns (linked_calls (over_by trigger) (slice_set ks i (ended_kept trigger (kept_at i ks))))
  ended_own b ns ks i c d lt apart c_is d_is = grind (arith, nat_tests, set_alike, set_dead)

  -- a call that it ends could be decided
  pub ends_live : (x : KeptValue) → is_some (step_of x).reply ≡ true → x.call.live ≡ None → ⊥
  ends_live x some dead = let clash : false ≡ true = sym (rw dead refl) ∙ some in cc

  -- ---- the replies of the first so many

  abbrev pub made_to : ℕ → List KeptValue → List ReplyValue
  made_to zero ks = []
  made_to (suc n) [] = []
  made_to (suc n) (k ∷ ks) = replies_by k.id (step_of k) ++ made_to n ks

  made_suc : (n : ℕ) (ks : List KeptValue) → n < length ks → made_to n ks ++ replies_by (kept_at n ks).id (step_of (kept_at n ks)) ≡ made_to (suc n) ks
  made_suc n [] lt = absurd (omega (arith, lt))
  made_suc zero (k ∷ ks) lt = sym (append-nil (replies_by k.id (step_of k)))
  made_suc (suc n) (k ∷ ks) lt = append_assoc (replies_by k.id (step_of k)) (made_to n ks) (replies_by (kept_at n ks).id (step_of (kept_at n ks))) ∙ ap (λ rs. replies_by k.id (step_of k) ++ rs) (made_suc n ks (omega (arith, lt)))

  pub made_next : (n : ℕ) (ks : List KeptValue) (made more : List ReplyValue) → n < length ks → made ≡ made_to n ks → more ≡ made ++ replies_by (kept_at n ks).id (step_of (kept_at n ks)) → more ≡ made_to (n + 1) ks
  made_next n ks made more lt made_is more_is =
      let one : suc n ≡ n + 1 = omega arith in
      more_is ∙ ap (λ rs. rs ++ replies_by (kept_at n ks).id (step_of (kept_at n ks))) made_is ∙ made_suc n ks lt ∙ ap (λ m. made_to m ks) one

  -- each is of its connection
  pub made_own : (c n : ℕ) (ks : List KeptValue) → All (λ (k : KeptValue). k.id.conn ≡ c) ks → All (λ (r : ReplyValue). r.id.conn ≡ c) (made_to n ks)
  made_own c zero ks own = λ i d lt. absurd (omega (arith, lt))
  made_own c (suc n) [] own = λ i d lt. absurd (omega (arith, lt))
  made_own c (suc n) (k ∷ ks) own = joined (step_of k).reply (All-head (λ (k : KeptValue). k.id.conn ≡ c) k ks own) (made_own c n ks (All-tail (λ (k : KeptValue). k.id.conn ≡ c) k ks own))
    where
      joined : (o : Option ReplyEntry) → k.id.conn ≡ c → All (λ (r : ReplyValue). r.id.conn ≡ c) (made_to n ks) → All (λ (r : ReplyValue). r.id.conn ≡ c) (option_to_list (option_map (reply_with k.id) o) ++ made_to n ks)
      joined None here rest = rest
      joined (Some e) here rest = All-cons (λ (r : ReplyValue). r.id.conn ≡ c) (reply_with k.id e) (made_to n ks) here rest

  -- of all of them that of each request is the entry by which it ends
  reply_append : (id : CallId) (xs ys : List ReplyValue) → reply_for id (xs ++ ys) ≡ option_or (reply_for id ys) (reply_for id xs)
  reply_append id [] ys = grind arith
  reply_append id (x ∷ xs) ys = grind (arith, reply_append id xs ys)

  one_reply : (id other : CallId) (s : Option ReplyEntry) → reply_for id (option_to_list (option_map (reply_with other) s)) ≡ (if is_call other id then s else None)
  one_reply id other s = grind (arith, nat_tests)

  pub reply_found : (id : CallId) (n : ℕ) (ks : List KeptValue) → length ks ≤ n → AreApart ks → reply_for id (made_to n ks) ≡ (ended_call trigger id (call_at id ks)).reply
  reply_found id zero [] le apart = refl
  reply_found id zero (k ∷ ks) le apart = absurd (omega (arith, le))
  reply_found id (suc n) [] le apart = refl
  reply_found id (suc n) (k ∷ ks) le apart =
      reply_append id (replies_by k.id (step_of k)) (made_to n ks) ∙ ap (λ o. option_or (reply_for id (made_to n ks)) o) (one_reply id k.id (step_of k).reply)
      ∙ ap (λ o. option_or o (if is_call k.id id then (step_of k).reply else None)) (reply_found id n ks (omega (arith, le)) (λ i j l m. apart (suc i) (suc j) (omega (arith, l)) (omega (arith, m))))
      ∙ by (is_call k.id id) refl
    where
      none : is_call k.id id ≡ true → IsFound id ks None
      none here = λ j lt. ap (λ d. is_call (kept_at j ks).id d) (sym (same_call k.id id here)) ∙ call_apart k.id (kept_at j ks).id (apart 0 (suc j) (omega arith) (omega (arith, lt)))

      or_none : (o : Option ReplyEntry) → option_or o None ≡ o
      or_none None = refl
      or_none (Some e) = refl

      by : (b : Bool) → is_call k.id id ≡ b → option_or (ended_call trigger id (call_at id ks)).reply (if is_call k.id id then (step_of k).reply else None) ≡ (ended_call trigger id (call_at id (k ∷ ks))).reply
      by true here =
          rw here (ap (λ c. option_or (ended_call trigger id c).reply (step_of k).reply) (call_missing id ks (none here)) ∙ ap (λ d. (ended_call trigger d k.call).reply) (same_call k.id id here))
      by false there = rw there (or_none (ended_call trigger id (call_at id ks)).reply)

  -- ---- the connection

  -- all have ended, and their replies go into their slots
  pub all_ended : (k l : HeldConnection) (n : ℕ) (made : List ReplyValue) → length k.calls ≤ n → AreApart k.calls → made ≡ made_to n k.calls → l ≡ record k { calls = map (ended_kept trigger) k.calls }
      → filled_by made l ≡ ended_held trigger k
  all_ended k l n made le apart made_is l_is = grind (arith, nat_tests, same_filled, reply_found)

  -- a call of it is one that it ends
  pub ends_in : (k : HeldConnection) (i : ℕ) → Holds k → i < length k.calls → is_some (step_of (kept_at i k.calls)).reply ≡ true → (k.closed ≡ false) × ((k.broken ≡ false) × EndsIn trigger k)
  ends_in k i h lt some = grind (arith, nat_tests, own_id, call_found, call_itself, ends_live)

-- some calls have ended and all are given up: so they are as if none had
pub done_given : (trigger : Trigger) (n : ℕ) (ks : List KeptValue) → map given_up (done_to (ended_kept trigger) n ks) ≡ map given_up ks
done_given trigger zero ks = refl
done_given trigger (suc n) [] = refl
done_given trigger (suc n) (k ∷ ks) = grind (arith, done_given trigger n ks)

-- ---- a call that does not end

-- it can't be decided any more, or no event ends it
pub not_live : (o : Option CallEvent) (c : CallState) → is_some c.live ≡ false → ends_with o c.out c.live ≡ kept c
not_live o c off = grind arith

pub no_event : (o : Option CallEvent) (c : CallState) → o ≡ None → ends_with o c.out c.live ≡ kept c
no_event o c none = grind arith

pub none_ends : {H : Type 0} (i : ℕ) (s : Step) (k : HeldConnection) (a : Shared H) → s ≡ kept (kept_at i k.calls).call → EndsOne i s k k a a
none_ends i s k a is = subst (λ t. EndsOne i t k k a a) (sym is) (record {
  conn_is = sym (set_same k i (kept_at i k.calls) refl);
  made_are = sym (append-nil a.made.items);
  standing_is = refl;
  stocks_are = refl;
  begun_is = refl;
  rest = rest_none k a;
})
