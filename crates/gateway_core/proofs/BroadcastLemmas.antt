-- A broadcast: each connection ends its calls at most once, one after the other, until no context is over.
use Rattle.gateway_core.proofs.Names.{◌≡◌, ℕ, ◌+◌, ◌<◌, ◌≤◌, refl, sym, ap, ◌∙◌, List, [], ◌∷◌, ◌++◌, length, Option, Some, None, Bool, true, false, ⊎_elim, inl, inr, subst, arith, is_at, list_any, keys_of, set_value, nat_cmp, ◌⊎◌, ◌==◌, ◌||◌, ◌^◌, filter, cases_Bool, eqb-true, same_Some, CallsEnd, ended as all_ended, broke as it_broke, HeldConnection, MayEnd, CallId, waiting, ContextsValue, LifeValue, contexts_value, has_ended, is_over, others, told, HookedContexts, KeepsHooks, LeavesRest, MayStep, Over, none_over, over_by, IsTied, LeavesContexts, LeavesOthers, own_calls, own_contexts, Shared, has_ended_own, none_over_own, held_same, over_ends, ended_is_over, none_is_over, none_left, none_over_tied, tied_left, AllEnd, AreFit, AreNumbered, Conns, IsToldOnly, OneBreaks, TiedAt, held_at, waiting_all, waiting_for, nat_tests}
use Rattle.gateway_theory.specs.lemmas.Cases.{sym_eqb}
use Rattle.std.proofs.lemmas.Map.{keys-set_value}
use Rattle.gateway_theory.specs.declared.trigger.Trigger.{Trigger}
use Rattle.gateway_theory.specs.declared.trigger.Trigger.TheVariants.{Reached, HungUp, Drained}
use Rattle.gateway_connection.specs.Ends.{EndsBy}
use Rattle.gateway_connection.specs.lemmas.OwnTold.{drained_tied, none_told, reached_tied}
use Rattle.gateway_core.specs.Telling.{IsForAll}
use Rattle.gateway_core.proofs.MapLemmas.{set_here, set_other, sum_holds, sum_set}

-- ---- how many calls are over

-- of all calls that are over some are of the connection, and the others are not
overs_parts : (c : ℕ) (ls : List LifeValue) → length (filter is_over ls) ≡ length (filter is_over (own_calls c ls)) + length (filter is_over (others c ls))
overs_parts c [] = refl
overs_parts c (l ∷ ls) = grind (arith, overs_parts c ls)

some_over : (ls : List LifeValue) → list_any is_over ls ≡ true → 0 < length (filter is_over ls)
some_over [] is = cc
some_over (l ∷ ls) is = by (is_over l) refl (λ rest. some_over ls rest)
  where
    by : (b : Bool) → is_over l ≡ b → (list_any is_over ls ≡ true → 0 < length (filter is_over ls)) → 0 < length (filter is_over (l ∷ ls))
    by true y rest = rw y (omega arith)
    by false n rest = rw n (rest (rw n at is))

none_left_over : (ls : List LifeValue) → list_any is_over ls ≡ false → length (filter is_over ls) ≡ 0
none_left_over [] none = refl
none_left_over (l ∷ ls) none = by (is_over l) refl (λ rest. none_left_over ls rest)
  where
    by : (b : Bool) → is_over l ≡ b → (list_any is_over ls ≡ false → length (filter is_over ls) ≡ 0) → length (filter is_over (l ∷ ls)) ≡ 0
    by true y rest = absurd (let clash : true ≡ false = rw y at none in cc)
    by false n rest = rw n (rest (rw n at none))

-- once those of a connection are no longer over, fewer are
pub fewer_over : (c : ℕ) (v w : ContextsValue) → LeavesContexts c v w → list_any is_over (own_contexts c v).calls ≡ true → list_any is_over (own_contexts c w).calls ≡ false
    → length (filter is_over w.calls) < length (filter is_over v.calls)
fewer_over c v w leaves some none =
    let before = overs_parts c v.calls in
    let after = overs_parts c w.calls in
    let more = some_over (own_calls c v.calls) some in
    let zero_own = none_left_over (own_calls c w.calls) none in
    let same : length (filter is_over (others c w.calls)) ≡ length (filter is_over (others c v.calls)) = ap (λ ls. length (filter is_over ls)) leaves.calls_are in
    omega (arith, before, after, more, zero_own, same)

-- ---- one connection

ends_is : (trigger : Trigger) (b : Bool) (k l : HeldConnection) → EndsBy trigger b k l → CallsEnd trigger k l
ends_is trigger false k l e = all_ended e
ends_is trigger true k l e = it_broke e.0 e.1 e.2 e.3

same_number : (trigger : Trigger) (b : Bool) (k l : HeldConnection) → EndsBy trigger b k l → l.number ≡ k.number
same_number trigger false k l e = ap (λ (m : HeldConnection). m.number) e
same_number trigger true k l e = ap (λ (m : HeldConnection). m.number) e.3

-- whether one broke, once another has ended its calls
breaks_then : (trigger : Trigger) (c : ℕ) (b before : Bool) (k l : HeldConnection) (old new : Conns) → held_at c old ≡ Some k → held_at c new ≡ Some k → EndsBy trigger b k l → OneBreaks before old new
    → OneBreaks (b || before) old (set_value (is_at (nat_cmp c)) new l)
breaks_then trigger c true before k l old new was is e h = (c, k, l, was, set_here c k l new is, e.1, ap (λ (m : HeldConnection). m.broken) e.3)
breaks_then trigger c false true k l old new was is e (d, m, n, m_is, n_is, whole, broken) = (d, m, n, m_is, set_other c d k l new is (apart (c == d) refl) ∙ n_is, whole, broken)
  where
    apart : (b : Bool) → (c == d) ≡ b → (c == d) ≡ false
    apart true same =
        let c_is : c ≡ d = eqb-true c d same in
        let one : k ≡ m = same_Some k m (sym was ∙ ap (λ i. held_at i old) c_is ∙ m_is) in
        let other : k ≡ n = same_Some k n (sym is ∙ ap (λ i. held_at i new) c_is ∙ n_is) in
        absurd (let clash : false ≡ true = sym whole ∙ ap (λ (x : HeldConnection). x.broken) (sym one ∙ other) ∙ broken in cc)
    apart false off = off
breaks_then trigger c false false k l old new was is e h = λ d m n m_is n_is broken. ⊎_elim
    (λ (same : (c == d) ≡ true).
    let c_is : c ≡ d = eqb-true c d same in
    let one : k ≡ m = same_Some k m (sym was ∙ ap (λ i. held_at i old) c_is ∙ m_is) in
    let other : l ≡ n = same_Some l n (sym (set_here c k l new is) ∙ ap (λ i. held_at i (set_value (is_at (nat_cmp c)) new l)) c_is ∙ n_is) in
    ap (λ (x : HeldConnection). x.broken) (sym one) ∙ sym (ap (λ (x : HeldConnection). x.broken) e) ∙ ap (λ (x : HeldConnection). x.broken) other ∙ broken)
    (λ (off : (c == d) ≡ false). h d m n m_is (sym (set_other c d k l new is off) ∙ n_is) broken)
    (cases_Bool (c == d))

-- ---- one connection amid the broadcast

module _ {H : Type 0} where
  -- it has ended its calls, or broke
  pub record IsDone (trigger : Trigger) (old new : Option HeldConnection) (x : HookedContexts H) : Type 0 where
    pub before : HeldConnection
    pub after : HeldConnection
    pub was : old ≡ Some before
    pub is : new ≡ Some after
    pub ends : CallsEnd trigger before after
    pub tied : IsTied none_over after x

  -- or waits for that
  abbrev pub Halfway : Trigger → ℕ → Option HeldConnection → Option HeldConnection → HookedContexts H → Type 0
  Halfway trigger c old new x = ((new ≡ old) × TiedAt (over_by trigger) c new x) ⊎ IsDone trigger old new x

  -- all of them, since the contexts were told
  pub record AreHalfway (trigger : Trigger) (s t : Shared H) (old new : Conns) (one_broke : Bool) : Type 0 where
    pub each : (c : ℕ) → Halfway trigger c (held_at c old) (held_at c new) t.contexts
    pub numbered : AreNumbered new
    pub keys_are : keys_of new ≡ keys_of old
    pub waits : t.jobs.waiting ≡ waiting_all new
    pub early : t.moment ≤ 2 ^ 62
    pub drained_is : t.contexts.standing.drained ≡ s.contexts.standing.drained
    pub rest : IsToldOnly s t
    pub breaks : OneBreaks one_broke old new

  -- ---- at first

  pub told_tied : (t : Trigger) (k : HeldConnection) (v w : HookedContexts H) → IsForAll t → w.standing ≡ told t v.standing → KeepsHooks v w → IsTied none_over k v → IsTied (over_by t) k w
  told_tied (Reached now) k v w all is keeps tied = reached_tied now k v w is keeps tied
  told_tied (HungUp c) k v w all is keeps tied = absurd all
  told_tied Drained k v w all is keeps tied = drained_tied k v w is keeps tied

  told_at : (t : Trigger) (c : ℕ) (o : Option HeldConnection) (v w : HookedContexts H) → IsForAll t → w.standing ≡ told t v.standing → KeepsHooks v w → TiedAt none_over c o v → TiedAt (over_by t) c o w
  told_at t c None v w all is keeps tied = none_told t c v w is tied
  told_at t c (Some k) v w all is keeps tied = told_tied t k v w all is keeps tied

  pub told_first : (trigger : Trigger) (s t : Shared H) (es : Conns) → IsForAll trigger → AreFit none_over s es → AreNumbered es → t.contexts.standing ≡ told trigger s.contexts.standing → KeepsHooks s.contexts t.contexts
      → t ≡ record s { contexts = t.contexts } → AreHalfway trigger t t es es false
  told_first trigger s t es all fit numbered is keeps same = record {
    each = λ c. inl (refl, told_at trigger c (held_at c es) s.contexts t.contexts all is keeps (fit.tied c));
    numbered = numbered;
    keys_are = refl;
    waits = ap (λ (u : Shared H). u.jobs.waiting) same ∙ fit.waits;
    early = subst (λ n. n ≤ 2 ^ 62) (sym (ap (λ (u : Shared H). u.moment) same)) fit.early;
    drained_is = refl;
    rest = record { plans_are = refl; moment_is = refl; jobs_are = refl; begun_is = refl };
    breaks = λ c k l k_is l_is broken. ap (λ (m : HeldConnection). m.broken) (same_Some k l (sym k_is ∙ l_is)) ∙ broken;
  }

  -- ---- the next

  -- none is over of one that has done it, nor under a number where none is kept
  done_none : (id : CallId) (c : ℕ) (k : HeldConnection) (x : HookedContexts H) → c ≡ id.conn → k.number ≡ c → IsTied none_over k x → list_any (has_ended id) x.standing.calls ≡ true → ⊥
  done_none id c k x c_is number tied over = grind (arith, nat_tests, has_ended_own, ended_is_over, none_is_over)

  absent_none : (id : CallId) (x : HookedContexts H) → own_contexts id.conn x.standing ≡ contexts_value x.standing.drained [] [] → list_any (has_ended id) x.standing.calls ≡ true → ⊥
  absent_none id x none over =
      let own : false ≡ true = ap (λ (y : ContextsValue). list_any (has_ended id) y.calls) (sym none) ∙ has_ended_own id x.standing ∙ over in cc

  module _ {trigger : Trigger} {s t : Shared H} {old new : Conns} {one_broke : Bool} (h : AreHalfway trigger s t old new one_broke) (id : CallId) (over : list_any (has_ended id) t.contexts.standing.calls ≡ true) where
    -- it is there
    pub there_is : held_at id.conn new ≡ None → ⊥
    there_is none = grind (arith, nat_tests, absent_none)

    -- and waits
    pub still_waits : (k : HeldConnection) → held_at id.conn new ≡ Some k → (held_at id.conn old ≡ Some k) × IsTied (over_by trigger) k t.contexts
    still_waits k is = grind (arith, nat_tests, done_none)

    pub may_step : (k : HeldConnection) → held_at id.conn new ≡ Some k → MayStep (over_by trigger) k t
    may_step k is = grind (arith, nat_tests, still_waits, sum_holds)

  left_at : (over : Over) (c d : ℕ) (o : Option HeldConnection) (x y : HookedContexts H) → ((k : HeldConnection) → o ≡ Some k → k.number ≡ d) → (d == c) ≡ false → LeavesOthers c x y → TiedAt over d o x → TiedAt over d o y
  left_at over c d None x y numbered apart leaves tied = none_left c d x y apart leaves tied
  left_at over c d (Some k) x y numbered apart leaves tied = tied_left over c k x y (ap (λ n. n == c) (numbered k refl) ∙ apart) leaves tied

  left_done : (trigger : Trigger) (c d : ℕ) (o p : Option HeldConnection) (x y : HookedContexts H) → ((k : HeldConnection) → p ≡ Some k → k.number ≡ d) → (d == c) ≡ false → LeavesOthers c x y
      → Halfway trigger d o p x → Halfway trigger d o p y
  left_done trigger c d o p x y h7 h8 h9 h10 = grind (arith, nat_tests, left_at, tied_left)

  -- it ends its calls
  module _ {trigger : Trigger} {s t u : Shared H} {old new after : Conns} {before : Bool} (h : AreHalfway trigger s t old new before) (id : CallId) (over : list_any (has_ended id) t.contexts.standing.calls ≡ true)
      (k l : HeldConnection) (is : held_at id.conn new ≡ Some k) (set : after ≡ set_value (is_at (nat_cmp id.conn)) new l) (b : Bool) (ends : EndsBy trigger b k l) (tied : IsTied none_over l u.contexts)
      (rest : LeavesRest [] k l t u) (begun : u.begun ≡ t.begun) where
    was : held_at id.conn old ≡ Some k
    was = (still_waits h id over k is).0

    number : k.number ≡ id.conn
    number = h.numbered id.conn k is

    leaves : LeavesOthers id.conn t.contexts u.contexts
    leaves = subst (λ n. LeavesOthers n t.contexts u.contexts) number rest.others

    here : held_at id.conn after ≡ Some l
    here = ap (held_at id.conn) set ∙ set_here id.conn k l new is

    elsewhere : (d : ℕ) → (id.conn == d) ≡ false → held_at d after ≡ held_at d new
    elsewhere d apart = ap (held_at d) set ∙ set_other id.conn d k l new is apart

    sums : waiting_all after + waiting k.calls ≡ waiting_all new + waiting l.calls
    sums = sum_set waiting_for id.conn k l new after is set

    each_then : (d : ℕ) → Halfway trigger d (held_at d old) (held_at d after) u.contexts
    each_then d = ⊎_elim
        (λ (same : (id.conn == d) ≡ true). subst (λ i. Halfway trigger i (held_at i old) (held_at i after) u.contexts) (eqb-true id.conn d same)
        (inr (record { before = k; after = l; was = was; is = here; ends = ends_is trigger b k l ends; tied = tied })))
        (λ (off : (id.conn == d) ≡ false). subst (λ o. Halfway trigger d (held_at d old) o u.contexts) (sym (elsewhere d off))
        (left_done trigger id.conn d (held_at d old) (held_at d new) t.contexts u.contexts (h.numbered d) (sym_eqb d id.conn ∙ off) leaves (h.each d)))
        (cases_Bool (id.conn == d))

    numbered_then : AreNumbered after
    numbered_then d m m_is = grind (arith, nat_tests, same_Some, here, eqb-true, same_number, number, elsewhere)

    pub goes_on : AreHalfway trigger s u old after (b || before)
    goes_on = record {
      each = each_then;
      numbered = numbered_then;
      keys_are = ap keys_of set ∙ keys-set_value (is_at (nat_cmp id.conn)) new l ∙ h.keys_are;
      waits = omega (arith, rest.waits, h.waits, sums);
      early = subst (λ n. n ≤ 2 ^ 62) (sym rest.moment_is) h.early;
      drained_is = rest.others.contexts.drained_is ∙ h.drained_is;
      rest = record {
        plans_are = rest.plans_are ∙ h.rest.plans_are;
        moment_is = rest.moment_is ∙ h.rest.moment_is;
        jobs_are = rest.jobs_are ∙ append_none t.jobs.jobs ∙ h.rest.jobs_are;
        begun_is = begun ∙ h.rest.begun_is;
      };
      breaks = subst (OneBreaks (b || before) old) (sym set) (breaks_then trigger id.conn b before k l old new was is ends h.breaks);
    }
      where
        append_none : {A : Type 0} (xs : List A) → xs ++ [] ≡ xs
        append_none [] = refl
        append_none (x ∷ xs) = ap (λ ys. x ∷ ys) (append_none xs)

    pub fewer : length (filter is_over u.contexts.standing.calls) < length (filter is_over t.contexts.standing.calls)
    fewer = grind (arith, nat_tests, fewer_over, leaves, ended_is_over, has_ended_own, same_number, number, none_is_over)

  -- the contexts stay as the next call is looked for
  pub same_shared : (t : Shared H) (x : HookedContexts H) → x ≡ t.contexts → record t { contexts = x } ≡ t
  same_shared t x same = ap (λ y. record t { contexts = y }) same

  pub ends_next : (trigger : Trigger) (s t u : Shared H) (old new after : Conns) (before : Bool) (h : AreHalfway trigger s t old new before) (id : CallId) (n : ℕ) (x : HookedContexts H)
      (over : list_any (has_ended id) t.contexts.standing.calls ≡ true) (k l : HeldConnection) (b : Bool) → n ≡ id.conn → x ≡ t.contexts → Some k ≡ held_at n new → after ≡ set_value (is_at (nat_cmp n)) new l
      → EndsBy trigger b k l → IsTied none_over l u.contexts → LeavesRest [] k l (record t { contexts = x }) u → u.begun ≡ t.begun
      → AreHalfway trigger s u old after (b || before) × (length (filter is_over u.contexts.standing.calls) < length (filter is_over t.contexts.standing.calls))
  ends_next trigger s t u old new after before h id n x over k l b n_is same found set ends tied rest begun =
      let is : held_at id.conn new ≡ Some k = ap (λ m. held_at m new) (sym n_is) ∙ sym found in
      let set_is : after ≡ set_value (is_at (nat_cmp id.conn)) new l = set ∙ ap (λ m. set_value (is_at (nat_cmp m)) new l) n_is in
      let rest_is : LeavesRest [] k l t u = subst (λ y. LeavesRest [] k l y u) (same_shared t x same) rest in
      (goes_on h id over k l is set_is b ends tied rest_is begun, fewer h id over k l is set_is b ends tied rest_is begun)

  pub may_next : (trigger : Trigger) (s t : Shared H) (old new : Conns) (before : Bool) (h : AreHalfway trigger s t old new before) (id : CallId) (n : ℕ) (x : HookedContexts H)
      (over : list_any (has_ended id) t.contexts.standing.calls ≡ true) (k : HeldConnection) → n ≡ id.conn → x ≡ t.contexts → Some k ≡ held_at n new → MayStep (over_by trigger) k (record t { contexts = x })
  may_next trigger s t old new before h id n x over k n_is same found =
      subst (MayStep (over_by trigger) k) (sym (same_shared t x same)) (may_step h id over k (ap (λ m. held_at m new) (sym n_is) ∙ sym found))

  pub none_absent : (trigger : Trigger) (s t : Shared H) (old new : Conns) (before : Bool) (h : AreHalfway trigger s t old new before) (id : CallId) (n : ℕ)
      (over : list_any (has_ended id) t.contexts.standing.calls ≡ true) → n ≡ id.conn → None ≡ held_at n new → ⊥
  none_absent trigger s t old new before h id n over n_is found = there_is h id over (ap (λ m. held_at m new) (sym n_is) ∙ sym found)

  -- ---- none is over any more

  module _ {trigger : Trigger} {s t : Shared H} {old new : Conns} {one_broke : Bool} (h : AreHalfway trigger s t old new one_broke) (none : list_any is_over t.contexts.standing.calls ≡ false) where
    waited : (c : ℕ) (o p : Option HeldConnection) → p ≡ o → TiedAt (over_by trigger) c p t.contexts → MayEnd trigger o p × TiedAt none_over c p t.contexts
    waited c o p h3 h4 = grind (arith, nat_tests, none_over_own, same_Some, held_same, over_ends, none_over_tied)

    both : (c : ℕ) → MayEnd trigger (held_at c old) (held_at c new) × TiedAt none_over c (held_at c new) t.contexts
    both c = by (h.each c)
      where
        by : Halfway trigger c (held_at c old) (held_at c new) t.contexts → MayEnd trigger (held_at c old) (held_at c new) × TiedAt none_over c (held_at c new) t.contexts
        by (inl w) = waited c (held_at c old) (held_at c new) w.0 w.1
        by (inr d) = (
          subst (λ o. MayEnd trigger o (held_at c new)) (sym d.was) (d.after, d.is, d.ends),
          subst (λ o. TiedAt none_over c o t.contexts) (sym d.is) d.tied,
        )

    pub all_end : AllEnd trigger old new
    all_end = record { each = λ c. (both c).0; keys_are = h.keys_are }

    pub all_fit : AreFit none_over t new
    all_fit = record { tied = λ c. (both c).1; waits = h.waits; early = h.early }
