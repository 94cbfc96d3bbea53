-- The contexts of a connection's calls, of which these are over.
use Rattle.gateway_connection.specs.lemmas.Names.{◌≡◌, ℕ, ◌<◌, zero, suc, refl, sym, ap, ◌∙◌, List, [], ◌∷◌, ◌++◌, Option, Some, None, true, false, ⊎_elim, subst, length, arith, All, not, is_some, filter, slice_set, list_any, cases_Bool, All-head, All-tail, CallId, is_call, LifeValue, LivesApart, is_life, AreApart, KeptValue, Live, IsFound, kept_at, all_stay, same_call, call_apart, call_itself, Over, linked_calls, life_in, lives_in, nat_tests}
use Rattle.gateway_connection.proofs.TimedLemmas.{mapped, none_mapped}

module _ (over : Over) where
  pub live_life : (k : KeptValue) (l : Live) → k.call.live ≡ Some l → lives_in over k ≡ life_in over k.id k.call.out l ∷ []
  live_life k l is = rw is refl

  pub dead_life : (k : KeptValue) → k.call.live ≡ None → lives_in over k ≡ []
  dead_life k is = rw is refl

  -- a call that can be decided has a context
  pub live_linked : (ks : List KeptValue) (i : ℕ) (l : Live) → (kept_at i ks).call.live ≡ Some l → is_life (kept_at i ks).id (linked_calls over ks) ≡ true
  live_linked [] i l is = cc
  live_linked (k ∷ ks) zero l is = rw (live_life k l is, call_itself k.id) refl
  live_linked (k ∷ ks) (suc i) l is = grind (arith, live_linked ks i l is)

  pub set_alike : (ks : List KeptValue) (i : ℕ) (y : KeptValue) → i < length ks → lives_in over y ≡ lives_in over (kept_at i ks) → linked_calls over (slice_set ks i y) ≡ linked_calls over ks
  set_alike [] i y lt same = refl
  set_alike (k ∷ ks) zero y lt same = ap (λ ls. ls ++ linked_calls over ks) same
  set_alike (k ∷ ks) (suc i) y lt same = ap (λ ls. lives_in over k ++ ls) (set_alike ks i y (omega (arith, lt)) same)

  -- a call that can no longer be decided
  pub set_dead : (ks : List KeptValue) (i : ℕ) (y : KeptValue) (l : Live) → LivesApart (linked_calls over ks) → i < length ks → (kept_at i ks).call.live ≡ Some l → y.call.live ≡ None
      → linked_calls over (slice_set ks i y) ≡ filter (λ (m : LifeValue). not (is_call m.id (kept_at i ks).id)) (linked_calls over ks)
  set_dead [] i y l apart lt is dead = absurd (omega (arith, lt))
  set_dead (k ∷ ks) zero y l apart lt is dead =
      let far : list_any (λ (m : LifeValue). is_call m.id k.id) (linked_calls over ks) ≡ false =
      (subst (λ ls. LivesApart (ls ++ linked_calls over ks)) (live_life k l is) apart).0 in
      rw (dead_life y dead, live_life k l is, call_itself k.id) (sym (all_stay (λ (m : LifeValue). is_call m.id k.id) (linked_calls over ks) far))
  set_dead (k ∷ ks) (suc i) y l apart lt is dead = by (λ tail. set_dead ks i y l tail (omega (arith, lt)) is dead) k.call.live refl
    where
      by : (LivesApart (linked_calls over ks) → linked_calls over (slice_set ks i y) ≡ filter (λ (m : LifeValue). not (is_call m.id (kept_at i ks).id)) (linked_calls over ks)) → (o : Option Live)
          → k.call.live ≡ o
          → lives_in over k ++ linked_calls over (slice_set ks i y) ≡ filter (λ (m : LifeValue). not (is_call m.id (kept_at i ks).id)) (lives_in over k ++ linked_calls over ks)
      by rest None o_is = rw (dead_life k o_is) (rest (subst (λ ls. LivesApart (ls ++ linked_calls over ks)) (dead_life k o_is) apart))
      by rest (Some m) o_is =
          let two = subst (λ ls. LivesApart (ls ++ linked_calls over ks)) (live_life k m o_is) apart in
          let off : is_call k.id (kept_at i ks).id ≡ false = ⊎_elim
          (λ (e : is_call k.id (kept_at i ks).id ≡ true).
          let there : is_life (kept_at i ks).id (linked_calls over ks) ≡ true = live_linked ks i l is in
          let gone : is_life (kept_at i ks).id (linked_calls over ks) ≡ false = subst (λ d. is_life d (linked_calls over ks) ≡ false) (same_call k.id (kept_at i ks).id e) two.0 in
          let clash : true ≡ false = sym there ∙ gone in cc)
          (λ (n : is_call k.id (kept_at i ks).id ≡ false). n)
          (cases_Bool (is_call k.id (kept_at i ks).id)) in
          rw (live_life k m o_is, off) (ap (λ ls. life_in over k.id k.call.out m ∷ ls) (rest two.1))

  -- a call whose contexts change
  pub set_live : (h : LifeValue → LifeValue) (ks : List KeptValue) (i : ℕ) (y : KeptValue) (l : Live) → LivesApart (linked_calls over ks) → i < length ks → (kept_at i ks).call.live ≡ Some l
      → lives_in over y ≡ h (life_in over (kept_at i ks).id (kept_at i ks).call.out l) ∷ [] → linked_calls over (slice_set ks i y) ≡ mapped (kept_at i ks).id h (linked_calls over ks)
  set_live h [] i y l apart lt is after = absurd (omega (arith, lt))
  set_live h (k ∷ ks) zero y l apart lt is after = grind (arith, nat_tests, live_life, call_itself, none_mapped)
  set_live h (k ∷ ks) (suc i) y l apart lt is after = by (λ tail. set_live h ks i y l tail (omega (arith, lt)) is after) k.call.live refl
    where
      by : (LivesApart (linked_calls over ks) → linked_calls over (slice_set ks i y) ≡ mapped (kept_at i ks).id h (linked_calls over ks)) → (o : Option Live)
          → k.call.live ≡ o → lives_in over k ++ linked_calls over (slice_set ks i y) ≡ mapped (kept_at i ks).id h (lives_in over k ++ linked_calls over ks)
      by rest None o_is = rw (dead_life k o_is) (rest (subst (λ ls. LivesApart (ls ++ linked_calls over ks)) (dead_life k o_is) apart))
      by rest (Some m) o_is =
          let two = subst (λ ls. LivesApart (ls ++ linked_calls over ks)) (live_life k m o_is) apart in
          let off : is_call k.id (kept_at i ks).id ≡ false = ⊎_elim
          (λ (e : is_call k.id (kept_at i ks).id ≡ true).
          let there : is_life (kept_at i ks).id (linked_calls over ks) ≡ true = live_linked ks i l is in
          let gone : is_life (kept_at i ks).id (linked_calls over ks) ≡ false = subst (λ d. is_life d (linked_calls over ks) ≡ false) (same_call k.id (kept_at i ks).id e) two.0 in
          let clash : true ≡ false = sym there ∙ gone in cc)
          (λ (n : is_call k.id (kept_at i ks).id ≡ false). n)
          (cases_Bool (is_call k.id (kept_at i ks).id)) in
          rw (live_life k m o_is, off) (ap (λ ls. life_in over k.id k.call.out m ∷ ls) (rest two.1))

  pub calls_append : (ks ls : List KeptValue) → linked_calls over (ks ++ ls) ≡ linked_calls over ks ++ linked_calls over ls
  calls_append [] ls = refl
  calls_append (k ∷ ks) ls = ap (λ ms. lives_in over k ++ ms) (calls_append ks ls) ∙ sym (Rattle.std.proofs.lemmas.List.append_assoc (lives_in over k) (linked_calls over ks) (linked_calls over ls))

  -- none that can't be decided has one
  pub dead_calls : (ks : List KeptValue) → All (λ (c : KeptValue). c.call.live ≡ None) ks → linked_calls over ks ≡ []
  dead_calls [] all = refl
  dead_calls (k ∷ ks) all = rw (dead_life k (All-head (λ (c : KeptValue). c.call.live ≡ None) k ks all)) (dead_calls ks (All-tail (λ (c : KeptValue). c.call.live ≡ None) k ks all))

  -- where no call has an id, none has a context of it
  pub none_life : (id : CallId) (ks : List KeptValue) → IsFound id ks None → is_life id (linked_calls over ks) ≡ false
  none_life id [] none = refl
  none_life id (k ∷ ks) none = by k.call.live refl (none 0 (omega arith)) (none_life id ks (λ j lt. none (suc j) (omega (arith, lt))))
    where
      by : (o : Option Live) → k.call.live ≡ o → is_call k.id id ≡ false → is_life id (linked_calls over ks) ≡ false → is_life id (lives_in over k ++ linked_calls over ks) ≡ false
      by None o_is far rest = rw (dead_life k o_is) rest
      by (Some l) o_is far rest = rw (live_life k l o_is, far) rest

life_if_live : (k : KeptValue) (o : Option Live) → k.call.live ≡ o → is_some k.call.live ≡ true → (l : Live) × (k.call.live ≡ Some l)
life_if_live k None o_is some = absurd (let clash : true ≡ false = sym some ∙ ap (λ x. is_some x) o_is in cc)
life_if_live k (Some l) o_is some = (l, o_is)

module _ (over : Over) where
  pub live_has_life : (ks : List KeptValue) (i : ℕ) (x : KeptValue) → x ≡ kept_at i ks → is_some x.call.live ≡ true → is_life x.id (linked_calls over ks) ≡ true
  live_has_life ks i x x_is some = grind (arith, nat_tests, life_if_live, live_linked)

  pub forgot_linked : (id : CallId) (ks : List KeptValue) (i : ℕ) → IsFound id ks (Some i) → AreApart ks → (kept_at i ks).call.live ≡ None
      → linked_calls over (filter (λ (k : KeptValue). not (is_call k.id id)) ks) ≡ linked_calls over ks
  forgot_linked id [] i found apart dead = refl
  forgot_linked id (k ∷ ks) zero found apart dead =
      let here : is_call k.id id ≡ true = found.1 in
      rw (here, dead_life over k dead) (ap (linked_calls over) (all_stay (λ (m : KeptValue). is_call m.id id) ks (none ks (λ j lt. ap (λ d. is_call d (kept_at j ks).id) (sym (same_call k.id id here)) ∙ apart 0 (suc j) (omega arith) (omega (arith, lt))))))
    where
      none : (ms : List KeptValue) → ((j : ℕ) → j < length ms → is_call id (kept_at j ms).id ≡ false) → list_any (λ (m : KeptValue). is_call m.id id) ms ≡ false
      none [] far = refl
      none (m ∷ ms) far = rw (call_apart id m.id (far 0 (omega arith))) (none ms (λ j lt. far (suc j) (omega (arith, lt))))
  forgot_linked id (k ∷ ks) (suc i) found apart dead =
      let off : is_call k.id id ≡ false = found.2 0 (omega arith) in
      rw off (ap (λ ls. lives_in over k ++ ls) (forgot_linked id ks i (let lt = found.0 in omega (arith, lt), found.1, λ j l. found.2 (suc j) (omega (arith, l)))
      (λ a b l m. apart (suc a) (suc b) (omega (arith, l)) (omega (arith, m))) dead))
