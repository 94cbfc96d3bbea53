-- The least deadline of all contexts is that of the connections' calls.
use Rattle.gateway_core.proofs.Names.{◌≡◌, ℕ, suc, refl, sym, ap, ◌∙◌, List, [], ◌∷◌, Option, Some, None, Bool, true, false, ⊎_elim, map, subst, arith, list_any, IsStrictlySortedBy, keys_of, values_of, nat_cmp, ◌==◌, slice_get, cases_Bool, eq-eqb, HeldConnection, GatewayValue, KeptValue, IsServing, IsHeld, conn_of, call_id, CallId, ◌+◌, ◌<◌, ◌≤◌, ◌||◌, length, is_due, least_of, ContextsValue, LifeValue, has_due, HookedContexts, linked_calls, none_over, own_calls, own_none, due_ends, AreNumbered, AreTied, Conns, TiedAt, held_at, nat_tests}
use Rattle.std.proofs.Common.{zero}
use Rattle.std.proofs.lemmas.Bool.{cases_eq, or_right}
use Rattle.std.specs.List.{range_with_len}
use Rattle.std.proofs.lemmas.Cmp.{eq_by_cmp_equiv, nat_cmp_total}
use Rattle.std.proofs.lemmas.Map.Entries.{lookup_from_place}
use Rattle.std.proofs.lemmas.Map.Keys.{IsDistinct-from_sorted}
use Rattle.gateway_model.specs.Past.{is_call}
use Rattle.gateway_replies.specs.Least.{first_deadline}
use Rattle.gateway_replies.specs.lemmas.Due.{lives_due, same_due}
use Rattle.gateway_theory.specs.Least.{deadline_of, ends_any, least_deadline}
use Rattle.gateway_theory.specs.Store.{kept_at, no_call}
use Rattle.gateway_theory.specs.Values.{CallState, ConnectionValue, call_at, call_deadline, connection, deadline_among, deadline_in}
use Rattle.gateway_theory.specs.lemmas.Ahead.{due_least}
use Rattle.gateway_theory.specs.lemmas.Conns.{absent_value, there_value}
use Rattle.gateway_theory.specs.lemmas.Deadlines.{due_smaller, ends_due}
use Rattle.gateway_theory.specs.lemmas.StoreLemmas.{call_found, call_itself}

-- ---- connections

ahead_due : (m : ℕ) (ks : List HeldConnection) → list_any (λ (k : HeldConnection). ends_any m k.calls) ks ≡ is_due m (least_of (map (λ (k : HeldConnection). least_deadline k.calls) ks))
ahead_due m [] = refl
ahead_due m (k ∷ ks) = grind (arith, nat_tests, ahead_due m ks, ends_due, due_smaller)

-- a context of which something holds is one of its connection's
some_own : (p : LifeValue → Bool) (ls : List LifeValue) → list_any p ls ≡ true → (c : ℕ) × (list_any p (own_calls c ls) ≡ true)
some_own p [] is = cc
some_own p (l ∷ ls) is = by (p l) refl (λ rest. some_own p ls rest)
  where
    by : (b : Bool) → p l ≡ b → (list_any p ls ≡ true → (c : ℕ) × (list_any p (own_calls c ls) ≡ true)) → (c : ℕ) × (list_any p (own_calls c (l ∷ ls)) ≡ true)
    by true y rest = (l.id.conn, rw (eq-eqb l.id.conn l.id.conn refl, y) refl)
    by false n rest =
        let one = rest (rw n at is) in (
          one.0,
          ⊎_elim
              (λ (its : (l.id.conn == one.0) ≡ true). rw (its, n) one.1)
              (λ (far : (l.id.conn == one.0) ≡ false). rw far one.1)
              (cases_Bool (l.id.conn == one.0)),
        )

found_any : (q : HeldConnection → Bool) (c : ℕ) (k : HeldConnection) (es : Conns) → held_at c es ≡ Some k → q k ≡ true → list_any q (values_of es) ≡ true
found_any q c k [] is y = let clash : None ≡ Some k = is in cc
found_any q c k (e ∷ es) is y = grind (arith, found_any q c k es)

any_place : (q : HeldConnection → Bool) (es : Conns) → list_any q (values_of es) ≡ true → (i : ℕ) × (c : ℕ) × (k : HeldConnection) × (slice_get es i ≡ Some (c, k)) × (q k ≡ true)
any_place q [] is = cc
any_place q (e ∷ es) is = by (q e.1) refl (λ rest. any_place q es rest)
  where
    by : (b : Bool) → q e.1 ≡ b → (list_any q (values_of es) ≡ true → (i : ℕ) × (c : ℕ) × (k : HeldConnection) × (slice_get es i ≡ Some (c, k)) × (q k ≡ true))
        → (i : ℕ) × (c : ℕ) × (k : HeldConnection) × (slice_get (e ∷ es) i ≡ Some (c, k)) × (q k ≡ true)
    by true y rest = (0, e.0, e.1, refl, y)
    by false n rest = let r = rest (rw n at is) in (suc r.0, r.1, r.2, r.3, r.4)

any_found : (q : HeldConnection → Bool) (es : Conns) → IsStrictlySortedBy nat_cmp (keys_of es) → list_any q (values_of es) ≡ true → (c : ℕ) × (k : HeldConnection) × (held_at c es ≡ Some k) × (q k ≡ true)
any_found q es sorted is =
    let p = any_place q es is in
    (p.1, p.2, lookup_from_place (eq_by_cmp_equiv nat_cmp_total) es p.0 p.1 p.2 (IsDistinct-from_sorted nat_cmp (keys_of es) sorted) p.3, p.4)

both_ways : (a b : Bool) → (a ≡ true → b ≡ true) → (b ≡ true → a ≡ true) → a ≡ b
both_ways a b h2 h3 = grind (arith, nat_tests)

module _ {H : Type 0} (x : HookedContexts H) (es : Conns) (sorted : IsStrictlySortedBy nat_cmp (keys_of es)) (numbered : AreNumbered es) (tied : AreTied none_over es x) where
  any_due : (m : ℕ) → list_any (has_due m) x.standing.calls ≡ list_any (λ (k : HeldConnection). ends_any m k.calls) (values_of es)
  any_due m = both_ways (list_any (has_due m) x.standing.calls) (list_any (λ (k : HeldConnection). ends_any m k.calls) (values_of es)) into back
    where
      into : list_any (has_due m) x.standing.calls ≡ true → list_any (λ (k : HeldConnection). ends_any m k.calls) (values_of es) ≡ true
      into is = by (some_own (has_due m) x.standing.calls is)
        where
          at : (c : ℕ) → list_any (has_due m) (own_calls c x.standing.calls) ≡ true → (o : Option HeldConnection) → held_at c es ≡ o → TiedAt none_over c o x
              → list_any (λ (k : HeldConnection). ends_any m k.calls) (values_of es) ≡ true
          at c own None o_is t = absurd (let clash : false ≡ true = ap (λ (y : ContextsValue). list_any (has_due m) y.calls) (sym t) ∙ own in cc)
          at c own (Some k) o_is t = found_any (λ (k : HeldConnection). ends_any m k.calls) c k es o_is
              (sym (due_ends m k.calls) ∙ ap (λ (y : ContextsValue). list_any (has_due m) y.calls) (sym t.are) ∙ ap (λ n. list_any (has_due m) (own_calls n x.standing.calls)) (numbered c k o_is) ∙ own)

          by : (c : ℕ) × (list_any (has_due m) (own_calls c x.standing.calls) ≡ true) → list_any (λ (k : HeldConnection). ends_any m k.calls) (values_of es) ≡ true
          by (c, own) = at c own (held_at c es) refl (tied c)

      back : list_any (λ (k : HeldConnection). ends_any m k.calls) (values_of es) ≡ true → list_any (has_due m) x.standing.calls ≡ true
      back is = by (any_found (λ (k : HeldConnection). ends_any m k.calls) es sorted is)
        where
          by : (c : ℕ) × (k : HeldConnection) × (held_at c es ≡ Some k) × (ends_any m k.calls ≡ true) → list_any (has_due m) x.standing.calls ≡ true
          by (c, k, found, ends) = ⊎_elim
              (λ (y : list_any (has_due m) x.standing.calls ≡ true). y)
              (λ (n : list_any (has_due m) x.standing.calls ≡ false). absurd (
              let t = subst (λ o. TiedAt none_over c o x) found (tied c) in
              let free : list_any (has_due m) (linked_calls none_over k.calls) ≡ false =
              ap (λ (y : ContextsValue). list_any (has_due m) y.calls) (sym t.are) ∙ own_none (λ (l : LifeValue). l.id.conn) k.number (has_due m) x.standing.calls n in
              let clash : true ≡ false = sym ends ∙ sym (due_ends m k.calls) ∙ free in cc))
              (cases_Bool (list_any (has_due m) x.standing.calls))

  -- the least of the contexts is that of the connections
  pub least_is : first_deadline x.standing.calls ≡ least_of (map (λ (k : HeldConnection). least_deadline k.calls) (values_of es))
  least_is = same_due (first_deadline x.standing.calls) (least_of (map (λ (k : HeldConnection). least_deadline k.calls) (values_of es)))
      (λ m. lives_due m x.standing.calls ∙ any_due m ∙ ahead_due m (values_of es))

-- ---- by the numbers of connections and requests

-- what a moment has reached has a deadline
never_due : (m : ℕ) → is_due m None ≡ true → ⊥
never_due m is = cc

any_kept : (p : KeptValue → Bool) (calls : List KeptValue) → list_any p calls ≡ true → (i : ℕ) × (i < length calls) × (p (kept_at i calls) ≡ true)
any_kept p [] is = cc
any_kept p (k ∷ calls) is = by (p k) refl (λ rest. any_kept p calls rest)
  where
    by : (b : Bool) → p k ≡ b → (list_any p calls ≡ true → (i : ℕ) × (i < length calls) × (p (kept_at i calls) ≡ true))
        → (i : ℕ) × (i < length (k ∷ calls)) × (p (kept_at i (k ∷ calls)) ≡ true)
    by true y rest = (0, omega arith, y)
    by false n rest = let r = rest (rw n at is) in (suc r.0, omega (arith, r.1), r.2)

any_below : (p : ℕ → Bool) (from n k : ℕ) → from ≤ k → k < from + n → p k ≡ true → list_any p (range_with_len from n) ≡ true
any_below p from zero k least most is = absurd (omega (arith, least, most))
any_below p from (suc n) k least most is = ⊎_elim
    (λ (same : from ≡ k). ap (λ b. b || list_any p (range_with_len (from + 1) n)) (ap p same ∙ is))
    (λ (other : from ≡ k → ⊥). or_right (p from) (list_any p (range_with_len (from + 1) n)) (any_below p (from + 1) n k (omega (arith, least, other)) (omega (arith, most)) is))
    (cases_eq from k)

below_any : (p : ℕ → Bool) (from n : ℕ) → list_any p (range_with_len from n) ≡ true → (k : ℕ) × (k < from + n) × (p k ≡ true)
below_any p from zero is = cc
below_any p from (suc n) is = by (p from) refl (λ rest. below_any p (from + 1) n rest)
  where
    by : (b : Bool) → p from ≡ b → (list_any p (range_with_len (from + 1) n) ≡ true → (k : ℕ) × (k < (from + 1) + n) × (p k ≡ true))
        → (k : ℕ) × (k < from + suc n) × (p k ≡ true)
    by true y rest = (from, omega arith, y)
    by false other rest = let r = rest (rw other at is) in (r.0, omega (arith, r.1), r.2)

-- of a call that is kept under that id
call_any : (m : ℕ) (id : CallId) (calls : List KeptValue) → is_due m (call_deadline (call_at id calls)) ≡ true → list_any (λ (k : KeptValue). is_due m (deadline_of k)) calls ≡ true
call_any m id [] is = cc
call_any m id (k ∷ calls) is = by (is_call k.id id) refl (λ rest. call_any m id calls rest)
  where
    by : (b : Bool) → is_call k.id id ≡ b
        → (is_due m (call_deadline (call_at id calls)) ≡ true → list_any (λ (k : KeptValue). is_due m (deadline_of k)) calls ≡ true)
        → list_any (λ (k : KeptValue). is_due m (deadline_of k)) (k ∷ calls) ≡ true
    by true its rest = rw (rw its at is) refl
    by false other rest = or_right (is_due m (deadline_of k)) (list_any (λ (k : KeptValue). is_due m (deadline_of k)) calls) (rest (rw other at is))

module _ (v : GatewayValue) (serving : IsServing v) (m : ℕ) where
  abbrev has_reached : HeldConnection → Bool
  has_reached k = is_due m (least_deadline k.calls)

  abbrev reached_at : ℕ → Bool
  reached_at c = is_due m (deadline_in (connection c v))

  -- a call that can be decided stands at the number of its request
  one_into : (c : ℕ) (k : HeldConnection) → conn_of c v ≡ Some k → has_reached k ≡ true → list_any reached_at (range_with_len 0 v.opened) ≡ true
  one_into c k found due = any_below reached_at 0 v.opened c (omega arith) (omega (arith, held.born)) (
      subst (λ (x : ConnectionValue). is_due m (deadline_in x) ≡ true) (sym (there_value c v k found))
      (due_least m (λ r. call_deadline (call_at (call_id k.number r) k.calls)) (range_with_len 0 (k.taken + length k.slots))
      ∙ any_below (λ r. is_due m (call_deadline (call_at (call_id k.number r) k.calls))) 0 (k.taken + length k.slots) r (omega arith) (omega (arith, came)) at_number)
      )
    where
      held : IsHeld v.opened c k
      held = serving.each c k found

      place : (i : ℕ) × (i < length k.calls) × (is_due m (deadline_of (kept_at i k.calls)) ≡ true)
      place = any_kept (λ (x : KeptValue). is_due m (deadline_of x)) k.calls (sym (due_least m deadline_of k.calls) ∙ due)

      one : KeptValue
      one = kept_at place.0 k.calls

      r : ℕ
      r = one.id.request

      still : k.closed ≡ false
      still = by k.closed refl
        where
          by : (b : Bool) → k.closed ≡ b → k.closed ≡ false
          by false is = is
          by true is = absurd (
              let dead : one.call.live ≡ None = held.holds.dead (ap (λ b. b || k.broken) is) place.0 no_call place.1 in
              never_due m (rw dead at place.2)
              )

      came : r < k.taken + length k.slots
      came = held.holds.came still place.0 no_call place.1

      own : one.id.conn ≡ k.number
      own = held.holds.own place.0 no_call place.1

      at_number : is_due m (call_deadline (call_at (call_id k.number r) k.calls)) ≡ true
      at_number =
          ap (λ n. is_due m (call_deadline (call_at (call_id n r) k.calls))) (sym own)
          ∙ ap (λ (s : CallState). is_due m (call_deadline s)) (call_found one.id k.calls place.0 (place.1, call_itself one.id, λ j lt. held.holds.apart j place.0 lt place.1))
          ∙ place.2

  one_back : (c : ℕ) → reached_at c ≡ true → list_any has_reached (values_of v.conns) ≡ true
  one_back c due = by (conn_of c v) refl
    where
      by : (o : Option HeldConnection) → conn_of c v ≡ o → list_any has_reached (values_of v.conns) ≡ true
      by None absent = absurd (let clash = subst (λ (x : ConnectionValue). is_due m (deadline_in x) ≡ true) (absent_value c v absent) due in cc)
      by (Some k) found =
          let here = subst (λ (x : ConnectionValue). is_due m (deadline_in x) ≡ true) (there_value c v k found) due in
          let r = below_any (λ r. is_due m (call_deadline (call_at (call_id k.number r) k.calls))) 0 (k.taken + length k.slots)
          (sym (due_least m (λ r. call_deadline (call_at (call_id k.number r) k.calls)) (range_with_len 0 (k.taken + length k.slots))) ∙ here) in
          found_any has_reached c k v.conns found (due_least m deadline_of k.calls ∙ call_any m (call_id k.number r.0) k.calls r.2)

  reached_same : list_any has_reached (values_of v.conns) ≡ list_any reached_at (range_with_len 0 v.opened)
  reached_same = both_ways (list_any has_reached (values_of v.conns)) (list_any reached_at (range_with_len 0 v.opened))
      (λ is. let f = any_found has_reached v.conns serving.sorted is in one_into f.0 f.1 f.2 f.3)
      (λ is. let b = below_any reached_at 0 v.opened is in one_back b.0 b.2)

-- the least of the connections is that of the numbers
pub held_least : (v : GatewayValue) → IsServing v → least_of (map (λ (k : HeldConnection). least_deadline k.calls) (values_of v.conns)) ≡ deadline_among v.opened (λ c. connection c v)
held_least v serving = same_due (least_of (map (λ (k : HeldConnection). least_deadline k.calls) (values_of v.conns))) (deadline_among v.opened (λ c. connection c v))
    (λ m. due_least m (λ (k : HeldConnection). least_deadline k.calls) (values_of v.conns) ∙ reached_same v serving m
    ∙ sym (due_least m (λ c. deadline_in (connection c v)) (range_with_len 0 v.opened)))
