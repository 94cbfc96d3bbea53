-- Which timers wait after each operation, and that nothing ends where none is due.
use Rattle.std.proofs.Common.{◌≡◌, refl, sym, ap, subst, ◌∙◌, arith, ℕ, suc, zero, ◌+◌, ◌<◌, ◌≤◌, List, [], ◌∷◌, ◌++◌, Option, Some, None, Bool, true, false, ⊎_elim}
use Rattle.std.specs.Prelude.{◌⊎◌, ◌&&◌, ◌||◌, ◌==◌, not, is_none, filter, min, nat_lt}
use Rattle.std.specs.Option.{option_map_or}
use Rattle.std.proofs.lemmas.Bool.{cases_Bool, and_parts, or_cases, or_left, or_right, eqb-true, eq-eqb, ltb-false, ne_eqb}
use Rattle.std.proofs.lemmas.List.Folds.{list_any-append}
use Rattle.std.proofs.Math.Bool.{or-false, and-false}
use Rattle.std.proofs.lemmas.Option.{same_Some}
use Rattle.timer_heap.specs.Timers.{Timer, Timing, without}
use Rattle.context_tree.specs.declared.node.Kind.{Kind}
use Rattle.context_tree.specs.Context.{Id, same, TreeOp, Makes, HandsOut, Releases, makes, held, chain, parent_of, follows, own_deadline, sooner, least, deadline, ending}
use Rattle.context_tree.specs.Tree.{IsLawful, ParentHeld}
use Rattle.context_tree.specs.Timed.{has_entry, if_sooner, deadline_above, time_of, IsTimed, TimedBy, Timed}
use Rattle.context_tree.proofs.Enders.{Ender, ByCancel, ByMoment, op_of}
use Rattle.context_tree.proofs.Lineage.{born, same_true, same_refl, option_cases, follows_parent}
use Rattle.context_tree.proofs.LawLemmas.{other_id}
use Rattle.context_tree.proofs.Tests.{and_not_parts, none_from_is_none}

-- ---- the entries alone

-- a conjunction with a negation, from its parts and back
and_not : (a b : Bool) → a ≡ true → b ≡ false → (a && not b) ≡ true
and_not a b kept stays = rw (kept, stays) refl

-- the entry is that of this time and this id
abbrev pub is_entry : ℕ → ℕ → Timer → Bool
is_entry at id e = e.at == at && e.id == id

-- a filter by the ids takes out the timers of those ids
pub filtered : (at m : ℕ) (es : List Timer) (gone : ℕ → Bool) → has_entry at m (filter (λ e. not (gone e.id)) es) ≡ (has_entry at m es && not (gone m))
filtered at m [] gone = refl
filtered at m (e ∷ es) gone = ⊎_elim
    (λ (out : gone e.id ≡ true). rw out (filtered at m es gone ∙ ⊎_elim
    (λ (hit : is_entry at m e ≡ true).
    let here : gone m ≡ true = subst (λ n. gone n ≡ true) (eqb-true e.id m (and_parts (e.at == at) (e.id == m) hit).1) out in
    rw here (and-false (has_entry at m es) ∙ sym (and-false (is_entry at m e || has_entry at m es))))
    (λ (miss : is_entry at m e ≡ false). ap (λ b. (b || has_entry at m es) && not (gone m)) (sym miss))
    (cases_Bool (is_entry at m e))))
    (λ (stays : gone e.id ≡ false). rw stays (ap (λ b. is_entry at m e || b) (filtered at m es gone) ∙ ⊎_elim
    (λ (hit : is_entry at m e ≡ true).
    let here : gone m ≡ false = subst (λ n. gone n ≡ false) (eqb-true e.id m (and_parts (e.at == at) (e.id == m) hit).1) stays in
    rw (hit, here) refl)
    (λ (miss : is_entry at m e ≡ false). rw miss refl)
    (cases_Bool (is_entry at m e))))
    (cases_Bool (gone e.id))

-- one that is stopped waits no longer, and the others do
pub stopped : (at m n : ℕ) (es : List Timer) → has_entry at m (without n es) ≡ (has_entry at m es && not (m == n))
stopped at m n es = filtered at m es (λ k. k == n)

-- one more is set
pub entry_added : (at m : ℕ) (es : List Timer) (e : Timer) → has_entry at m (es ++ e ∷ []) ≡ (has_entry at m es || is_entry at m e)
entry_added at m es e = list_any-append (is_entry at m) es (e ∷ []) ∙ ap (λ b. has_entry at m es || b) (or-false (is_entry at m e))

-- ---- the entries and the contexts

some_not : {A : Type 0} (a : A) → Some a ≡ None → ⊥
some_not a is = cc

module _ {C V : Type 0} where
  -- one that is held after a release is another one, and was held before it
  still_held : (id x : Id) (past : List (TreeOp C V)) (k : Kind C V) → held x (Releases id ∷ past) ≡ Some k → (same id x ≡ false) × (held x past ≡ Some k)
  still_held id x past k is = ⊎_elim
      (λ (yes' : same id x ≡ true). let bad : None ≡ Some k = rw yes' at is in cc)
      (λ (no' : same id x ≡ false). (no', rw no' at is))
      (cases_Bool (same id x))

  -- an empty tree has no timers
  pub new_timed : Timed {C = C} {V = V} (record { entries = []; sets = 0 }) []
  new_timed = record { set_are = λ x kind at is live own. cc; are_set = λ at slot is. absurd (false_not is); sets_low = omega arith }
    where
      false_not : false ≡ true → ⊥
      false_not is = cc

  -- ---- a context is made

  above_at : (kind : Kind C V) (past new : List (TreeOp C V)) → ((p : Id) → follows kind ≡ Some p → chain p new ≡ chain p past) → deadline_above kind new ≡ deadline_above kind past
  above_at kind past new same = by_parent (follows kind) refl
    where
      by_parent : (o : Option Id) → follows kind ≡ o → least (option_map_or (λ p. chain p new) o []) ≡ least (option_map_or (λ p. chain p past) o [])
      by_parent None is = refl
      by_parent (Some p) is = ap least (same p is)

  -- what the ends of others say of when a context ends by itself stays as another one is made
  time_stays : (past : List (TreeOp C V)) (id : Id) (kind : Kind C V) (now : ℕ) → IsLawful (Makes id kind now ∷ past) → (k : Kind C V) → ((p : Id) → follows k ≡ Some p → (q : Kind C V) × (held p past ≡ Some q))
      → time_of k (Makes id kind now ∷ past) ≡ time_of k past
  time_stays past id kind now lawful k parents = ap (if_sooner (own_deadline k)) (above_at k past (Makes id kind now ∷ past) (λ p is.
      let h = parents p is in
      rw (other_id id p kind h.0 now past lawful h.1) refl))

  parents_held : (past : List (TreeOp C V)) → IsLawful past → (x : Id) (k : Kind C V) → held x past ≡ Some k → (p : Id) → follows k ≡ Some p → (q : Kind C V) × (held p past ≡ Some q)
  parents_held past lawful x k is p f = (born past lawful x k is).parent_held p (follows_parent k p f)

  parent_of_new : (past : List (TreeOp C V)) (kind : Kind C V) → ParentHeld (parent_of kind) past → (p : Id) → follows kind ≡ Some p → (q : Kind C V) × (held p past ≡ Some q)
  parent_of_new past kind h p f = by_parent (parent_of kind) h (follows_parent kind p f)
    where
      by_parent : (o : Option Id) → ParentHeld o past → o ≡ Some p → (q : Kind C V) × (held p past ≡ Some q)
      by_parent None h is = cc
      by_parent (Some r) h is = let e : r ≡ p = same_Some r p is in subst (λ z. (q : Kind C V) × (held z past ≡ Some q)) e h

  -- one that had a timer has it still
  timed_before : (at slot : ℕ) (past : List (TreeOp C V)) (id : Id) (kind : Kind C V) (now : ℕ) → IsLawful (Makes id kind now ∷ past) → IsTimed (λ x. is_none (ending x past)) at slot past → IsTimed (λ x. is_none (ending x (Makes id kind now ∷ past))) at slot (Makes id kind now ∷ past)
  timed_before at slot past id kind now lawful it =
      let other : same id it.context ≡ false = other_id id it.context kind it.kind now past lawful it.is_held in
      record {
        context = it.context;
        kind = it.kind;
        slot_is = it.slot_is;
        is_held = rw other it.is_held;
        live = rw other it.live;
        ends_at = time_stays past id kind now lawful it.kind (parents_held past lawful.2 it.context it.kind it.is_held) ∙ it.ends_at;
      }

  set_before : (t : Timing) (past : List (TreeOp C V)) (id : Id) (kind : Kind C V) (now : ℕ) → IsLawful (Makes id kind now ∷ past) → Timed t past → (x : Id) (k : Kind C V) (at : ℕ) → same id x ≡ false
      → held x (Makes id kind now ∷ past) ≡ Some k → is_none (ending x (Makes id kind now ∷ past)) ≡ true → time_of k (Makes id kind now ∷ past) ≡ Some at → has_entry at x.1 t.entries ≡ true
  set_before t past id kind now lawful timed x k at other is live ends_at =
      let was : held x past ≡ Some k = rw other at is in
      timed.set_are x k at was (rw other at live) (sym (time_stays past id kind now lawful k (parents_held past lawful.2 x k was)) ∙ ends_at)

  -- one that is made and does not end by itself, or is ended at once, gets no timer
  pub make_untimed : (t : Timing) (past : List (TreeOp C V)) (id : Id) (kind : Kind C V) (now : ℕ) → IsLawful (Makes id kind now ∷ past) → Timed t past
      → ((time_of kind past ≡ None) ⊎ (ending id (Makes id kind now ∷ past) ≡ None → ⊥)) → Timed t (Makes id kind now ∷ past)
  make_untimed t past id kind now lawful timed why = record {
    set_are = λ x k at is live ends_at. ⊎_elim
        (λ (here : same id x ≡ true).
        let ix : id ≡ x = same_true id x here in
        let ke : kind ≡ k = same_Some kind k (rw here at is) in
        absurd (⊎_elim
        (λ (none : time_of kind past ≡ None). some_not at (sym ends_at ∙ ap (λ z. time_of z (Makes id kind now ∷ past)) (sym ke) ∙ time_stays past id kind now lawful kind (parent_of_new past kind lawful.1) ∙ none))
        (λ (ended : ending id (Makes id kind now ∷ past) ≡ None → ⊥). ended (none_from_is_none _ (subst (λ z. is_none (ending z (Makes id kind now ∷ past)) ≡ true) (sym ix) live)))
        why))
        (λ (other : same id x ≡ false). set_before t past id kind now lawful timed x k at other is live ends_at)
        (cases_Bool (same id x));
    are_set = λ at slot is. timed_before at slot past id kind now lawful (timed.are_set at slot is);
    sets_low = let low : t.sets ≤ makes past = timed.sets_low in omega (arith, low);
  }

  -- one that ends by itself later gets a timer
  pub make_timed : (t : Timing) (past : List (TreeOp C V)) (id : Id) (kind : Kind C V) (now at : ℕ) → IsLawful (Makes id kind now ∷ past) → Timed t past
      → time_of kind past ≡ Some at → ending id (Makes id kind now ∷ past) ≡ None
      → Timed (record { entries = t.entries ++ record { at = at; id = id.1 } ∷ []; sets = t.sets + 1 }) (Makes id kind now ∷ past)
  make_timed t past id kind now at lawful timed own live =
      let added : Timer = record { at = at; id = id.1 } in
      let own_now : time_of kind (Makes id kind now ∷ past) ≡ Some at = time_stays past id kind now lawful kind (parent_of_new past kind lawful.1) ∙ own in
      record {
        set_are = λ x k time is alive ends_at. entry_added time x.1 t.entries added ∙ ⊎_elim
            (λ (here : same id x ≡ true).
            let slot : id.1 ≡ x.1 = ap (λ z. z.1) (same_true id x here) in
            let ke : kind ≡ k = same_Some kind k (rw here at is) in
            let same_time : at ≡ time = same_Some at time (sym own_now ∙ ap (λ z. time_of z (Makes id kind now ∷ past)) ke ∙ ends_at) in
            or_right (has_entry time x.1 t.entries) (is_entry time x.1 added) (rw (← slot, ← same_time, eq-eqb at at refl) (eq-eqb id.1 id.1 refl)))
            (λ (other : same id x ≡ false). or_left _ _ (set_before t past id kind now lawful timed x k time other is alive ends_at))
            (cases_Bool (same id x));
        are_set = λ time slot is. ⊎_elim
            (λ (old : has_entry time slot t.entries ≡ true). timed_before time slot past id kind now lawful (timed.are_set time slot old))
            (λ (new : is_entry time slot added ≡ true).
            let parts = and_parts (at == time) (id.1 == slot) new in
            record {
              context = id;
              kind = kind;
              slot_is = eqb-true id.1 slot parts.1;
              is_held = rw (same_refl id) refl;
              live = ap is_none live;
              ends_at = own_now ∙ ap Some (eqb-true at time parts.0);
            })
            (or_cases _ _ (sym (entry_added time slot t.entries added) ∙ is));
        sets_low = let low : t.sets ≤ makes past = timed.sets_low in omega (arith, low);
      }

  -- ---- contexts are ended

  -- the timers of those in these slots are stopped
  pub stop_timed : (before after : Id → Bool) (t u : Timing) (past : List (TreeOp C V)) (gone : ℕ → Bool)
      → ((x : Id) (k : Kind C V) → held x past ≡ Some k → after x ≡ (before x && not (gone x.1)))
      → ((at slot : ℕ) → has_entry at slot u.entries ≡ (has_entry at slot t.entries && not (gone slot)))
      → u.sets ≡ t.sets → TimedBy before t past → TimedBy after u past
  stop_timed before after t u past gone same left sets timed = record {
    set_are = λ x k at is live ends_at.
        let parts = and_not_parts (before x) (gone x.1) (sym (same x k is) ∙ live) in
        left at x.1 ∙ and_not (has_entry at x.1 t.entries) (gone x.1) (timed.set_are x k at is parts.0 ends_at) parts.1;
    are_set = λ at slot is.
        let parts = and_not_parts (has_entry at slot t.entries) (gone slot) (sym (left at slot) ∙ is) in
        let it = timed.are_set at slot parts.0 in
        record {
          context = it.context;
          kind = it.kind;
          slot_is = it.slot_is;
          is_held = it.is_held;
          live = same it.context it.kind it.is_held ∙ and_not (before it.context) (gone it.context.1) it.live (ap gone it.slot_is ∙ parts.1);
          ends_at = it.ends_at;
        };
    sets_low = let low : t.sets ≤ makes past = timed.sets_low in rw sets low;
  }

  held_kept : (e : Ender C) (x : Id) (past : List (TreeOp C V)) → held x (op_of e ∷ past) ≡ held x past
  held_kept (ByCancel target cause) x past = refl
  held_kept (ByMoment now) x past = refl

  time_kept : (e : Ender C) (k : Kind C V) (past : List (TreeOp C V)) → time_of k (op_of e ∷ past) ≡ time_of k past
  time_kept (ByCancel target cause) k past = refl
  time_kept (ByMoment now) k past = refl

  pub makes_kept : (e : Ender C) (past : List (TreeOp C V)) → makes (op_of e ∷ past) ≡ makes past
  makes_kept (ByCancel target cause) past = refl
  makes_kept (ByMoment now) past = refl

  -- the timers of those that are left after an operation
  pub end_timed : (is_left : Id → Bool) (t : Timing) (past : List (TreeOp C V)) (e : Ender C) → ((x : Id) (k : Kind C V) → held x past ≡ Some k → is_none (ending x (op_of e ∷ past)) ≡ is_left x)
      → TimedBy is_left t past → Timed t (op_of e ∷ past)
  end_timed is_left t past e same timed = record {
    set_are = λ x k at is live ends_at.
        let was : held x past ≡ Some k = sym (held_kept e x past) ∙ is in
        timed.set_are x k at was (sym (same x k was) ∙ live) (sym (time_kept e k past) ∙ ends_at);
    are_set = λ at slot is.
        let it = timed.are_set at slot is in
        record {
          context = it.context;
          kind = it.kind;
          slot_is = it.slot_is;
          is_held = held_kept e it.context past ∙ it.is_held;
          live = same it.context it.kind it.is_held ∙ it.live;
          ends_at = time_kept e it.kind past ∙ it.ends_at;
        };
    sets_low = let low : t.sets ≤ makes past = timed.sets_low in rw (makes_kept e past) low;
  }

  -- ---- contexts are handed out and released

  -- a context that is handed out is held and ended as before
  pub hand_timed : (t : Timing) (past : List (TreeOp C V)) (id : Id) → Timed t past → Timed t (HandsOut id ∷ past)
  hand_timed t past id timed = record {
    set_are = timed.set_are;
    are_set = λ at slot is.
        let it = timed.are_set at slot is in
        record { context = it.context; kind = it.kind; slot_is = it.slot_is; is_held = it.is_held; live = it.live; ends_at = it.ends_at };
    sets_low = timed.sets_low;
  }

  -- the timer of one that is released is stopped
  pub release_timed : (t : Timing) (past : List (TreeOp C V)) (id : Id) → ((x : Id) (k : Kind C V) → held x past ≡ Some k → x.1 ≡ id.1 → x ≡ id) → Timed t past
      → Timed (record { entries = without id.1 t.entries; sets = t.sets }) (Releases id ∷ past)
  release_timed t past id only timed = record {
    set_are = λ x l at is live ends_at.
        let was = still_held id x past l is in
        let other : (x.1 == id.1) ≡ false = ne_eqb x.1 id.1 (λ n.
        let e : x ≡ id = only x l was.1 n in
        let bad : true ≡ false = sym (same_refl id) ∙ subst (λ z. same id z ≡ false) e was.0 in cc) in
        stopped at x.1 id.1 t.entries ∙ and_not (has_entry at x.1 t.entries) (x.1 == id.1) (timed.set_are x l at was.1 live ends_at) other;
    are_set = λ at slot is.
        let parts = and_not_parts (has_entry at slot t.entries) (slot == id.1) (sym (stopped at slot id.1 t.entries) ∙ is) in
        let it = timed.are_set at slot parts.0 in
        let other : same id it.context ≡ false = apart id it.context (λ n.
        let e : slot ≡ id.1 = sym it.slot_is ∙ sym n in
        let bad : true ≡ false = sym (eq-eqb id.1 id.1 refl) ∙ subst (λ m. (m == id.1) ≡ false) e parts.1 in cc) in
        record { context = it.context; kind = it.kind; slot_is = it.slot_is; is_held = rw other it.is_held; live = it.live; ends_at = it.ends_at };
    sets_low = timed.sets_low;
  }
    where
      apart : (a b : Id) → (a.1 ≡ b.1 → ⊥) → same a b ≡ false
      apart a b other = ⊎_elim
          (λ (yes' : same a b ≡ true). absurd (other (ap (λ z. z.1) (same_true a b yes'))))
          (λ (no' : same a b ≡ false). no')
          (cases_Bool (same a b))

  -- ---- what the timers tell of deadlines

  -- one that is live by a test that passes to what it follows, and ends no sooner than all timers
  pub not_before : (is_live : Id → Bool) (t : Timing) (past : List (TreeOp C V)) → IsLawful past → TimedBy is_live t past
      → ((x p : Id) (k : Kind C V) → held x past ≡ Some k → follows k ≡ Some p → is_live x ≡ true → is_live p ≡ true)
      → (first : ℕ) → ((at slot : ℕ) → has_entry at slot t.entries ≡ true → first ≤ at)
      → (n : ℕ) (x : Id) (k : Kind C V) (at : ℕ) → x.0 < n → held x past ≡ Some k → is_live x ≡ true → deadline x past ≡ Some at → first ≤ at
  not_before is_live t past lawful timed up first each zero x k at low is live due = absurd (omega (arith, low))
  not_before is_live t past lawful timed up first each (suc n) x k at low is live due =
      let b = born past lawful x k is in
      let above : (m : ℕ) → deadline_above k past ≡ Some m → first ≤ m = λ m is_m. ⊎_elim
      (λ (none : follows k ≡ None). let bad : None ≡ Some m = rw none at is_m in cc)
      (λ (some : (p : Id) × (follows k ≡ Some p)).
      let p = some.0 in
      let over = follows_parent k p some.1 in
      let ph = b.parent_held p over in
      let less : p.0 < x.0 = b.parent_low p over in
      not_before is_live t past lawful timed up first each n p ph.0 m (omega (arith, low, less)) ph.1 (up x p k is some.1 live) (rw some.1 at is_m))
      (option_cases (follows k)) in
      by_times (own_deadline k) (deadline_above k past) above (λ own own_is. each own x.1 (timed.set_are x k own is live own_is)) (rw b.chain_is at due)
    where
      by_times : (own above : Option ℕ) → ((m : ℕ) → above ≡ Some m → first ≤ m) → ((m : ℕ) → if_sooner own above ≡ Some m → first ≤ m) → sooner own above ≡ Some at → first ≤ at
      by_times None above lower timer is = lower at is
      by_times (Some a) None lower timer is = timer at is
      by_times (Some a) (Some m) lower timer is =
          let e : min a m ≡ at = same_Some (min a m) at is in
          let low_m : first ≤ m = lower m refl in
          ⊎_elim
          (λ (yes' : nat_lt a m ≡ true). let low_a : first ≤ a = timer a (rw yes' refl) in omega (arith, e, low_m, low_a))
          (λ (no' : nat_lt a m ≡ false). let le : m ≤ a = ltb-false a m no' in omega (arith, e, low_m, le))
          (cases_Bool (nat_lt a m))
