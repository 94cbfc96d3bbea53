-- An operation goes on by a walk, and is over.
use Rattle.std.proofs.Common.{◌≡◌, refl, sym, ap, subst, ◌∙◌, ℕ, ◌≤◌, List, [], ◌∷◌, ◌++◌, length, map, Option, Some, None, Bool, true, false, ⊎_elim, option_map, append_assoc}
use Rattle.std.specs.Prelude.{◌&&◌, ◌||◌, ◌==◌, not, is_some, is_none, if◌then◌else◌}
use Rattle.std.specs.Option.{option_or}
use Rattle.std.proofs.lemmas.Bool.{cases_Bool, eqb-true, eq-eqb, or_right, or_left, false_from_ne_true}
use Rattle.std.proofs.Math.Bool.{and-false, and-true}
use Rattle.std.proofs.lemmas.Option.{same_Some}
use Rattle.timer_heap.specs.Timers.{Timing}
use Rattle.context_tree.specs.declared.node.Ending.{Ending}
use Rattle.context_tree.specs.declared.node.Kind.{Kind}
use Rattle.context_tree.specs.declared.node.Node.{Node}
use Rattle.context_tree.specs.Context.{Id, same, TreeOp, Ended, makes, held, chain, is_member, follows, ends, ending, deadline}
use Rattle.context_tree.specs.Links.{slot_of, no_links, bare}
use Rattle.context_tree.specs.Tree.{TreeValue, EachBefore, numbered, node_at, told, context, is_among, IsLawful, QueuesDone, StandsFor, most_visits}
use Rattle.context_tree.specs.Timed.{has_entry, TimedBy}
use Rattle.context_tree.specs.Walks.{is_in, AreApart, with_end, id_in, Start, IsWalk}
use Rattle.context_tree.proofs.Enders.{Ender, ByCancel, ByMoment, op_of}
use Rattle.context_tree.proofs.Lineage.{born, option_cases, same_true, same_refl}
use Rattle.context_tree.proofs.Ordering.{among_first, each-append}
use Rattle.context_tree.proofs.Queueing.{EndsNow, EndsBefore, end_queue, ending_op, held_op}
use Rattle.context_tree.proofs.Standing.{node_of}
use Rattle.context_tree.proofs.Tests.{not_both, or_cases, and_not_parts, and_not_or, none_from_is_none, none_from_not_some}
use Rattle.context_tree.proofs.Timing.{end_timed, filtered, stop_timed, makes_kept}
use Rattle.context_tree.proofs.Underway.{among_append, id_shown, is_below, is_left, so_far, takes_all, IsUnderway}

or_none : (a b : Bool) → b ≡ false → (a || b) ≡ a
or_none true b is = refl
or_none false b is = is

module _ {C V : Type 0} where
  -- ---- the ids of keys

  id_same : (slots : List (Option (Node C V))) (k : ℕ) (x : Id) → same x (id_in slots k) ≡ true → id_in slots k ≡ x
  id_same slots k x is = sym (same_true x (id_in slots k) is)

  of_ids : (slots : List (Option (Node C V))) (ks : List ℕ) (x : Id) → is_among x (map (id_in slots) ks) ≡ true → (is_in x.1 ks ≡ true) × (id_in slots x.1 ≡ x)
  of_ids slots [] x is = cc
  of_ids slots (k ∷ ks) x is = or_cases (same x (id_in slots k)) (is_among x (map (id_in slots) ks)) _ is
      (λ first.
      let e : id_in slots k ≡ x = id_same slots k x first in
      let key : k ≡ x.1 = ap (λ z. z.1) e in
      (or_left _ _ (eq-eqb x.1 k (sym key)), ap (id_in slots) (sym key) ∙ e))
      (λ later. let rest = of_ids slots ks x later in (or_right _ _ rest.0, rest.1))

  in_ids : (slots : List (Option (Node C V))) (ks : List ℕ) (x : Id) → is_in x.1 ks ≡ true → id_in slots x.1 ≡ x → is_among x (map (id_in slots) ks) ≡ true
  in_ids slots [] x is e = cc
  in_ids slots (k ∷ ks) x is e = or_cases (x.1 == k) (is_in x.1 ks) _ is
      (λ first. let key : x.1 ≡ k = eqb-true x.1 k first in or_left _ _ (subst (λ z. same x z ≡ true) (sym e ∙ ap (id_in slots) key) (same_refl x)))
      (λ later. or_right _ _ (in_ids slots ks x later e))

  -- ---- a node, ended

  bare_ended : (how : Ending C) (o : Option (Node C V)) → bare (with_end how o) ≡ with_end how (bare o)
  bare_ended how None = refl
  bare_ended how (Some n) = refl

  numbered_ended : (how : Ending C) (n : ℕ) (o : Option (Node C V)) → numbered n (with_end how o) ≡ with_end how (numbered n o)
  numbered_ended how n None = refl
  numbered_ended how n (Some m) = ⊎_elim
      (λ (yes' : (m.number == n) ≡ true). rw yes' refl)
      (λ (no' : (m.number == n) ≡ false). rw no' refl)
      (cases_Bool (m.number == n))

  ended_context : (how : Ending C) (o : Option (Kind C V)) (x : Id) (was now' : Option (Ended C)) (d : Option ℕ) → ((k : Kind C V) → o ≡ Some k → option_map told now' ≡ Some how)
      → with_end how (option_map (node_of x was d) o) ≡ option_map (node_of x now' d) o
  ended_context how None x was now' d is = refl
  ended_context how (Some k) x was now' d is = ap (λ (z : Option (Ending C)). Some (record { number = x.0; kind = k; ending = z; deadline = d; links = no_links })) (sym (is k refl))

  -- ---- the walk

  module _ (e : Ender C) (past : List (TreeOp C V)) (s : Start C V) (before : List Id) (timers : Timing) (ended : List Id) (u : IsUnderway e past s.slots s.done before timers ended)
      (new : List (Option (Node C V))) (done2 : List Id) (timers2 : Timing) (keys visited : List ℕ) (w : IsWalk s new done2 timers2 keys visited keys 0 0)
      (how : Ended C) (told_is : told how ≡ s.ending) (member_is : how.member ≡ id_in s.slots s.target)
      (gives : (x : Id) (k : Kind C V) → held x past ≡ Some k → is_left past ended x ≡ true → is_member (id_in s.slots s.target) (chain x past) ≡ true → ends (length past) (chain x past) (op_of e) ≡ Some how)
      (kept : (at m : ℕ) → (m == s.target) ≡ false → has_entry at m s.timers.entries ≡ has_entry at m timers.entries) (sets : s.timers.sets ≡ timers.sets) where
    ids : List Id
    ids = map (id_in s.slots) keys

    all : List Id
    all = ended ++ map (id_in s.slots) keys

    -- what the operation gives to one that the walk ended
    by_walk : (x : Id) → is_among x (map (id_in s.slots) keys) ≡ true → (k : Kind C V) × (held x past ≡ Some k) × (is_left past ended x ≡ true) × (ends (length past) (chain x past) (op_of e) ≡ Some how)
    by_walk x is =
        let o = of_ids s.slots keys x is in
        let b = is_below e past s before timers ended u new done2 timers2 keys visited w x.1 o.0 in
        let held_is : held x past ≡ Some b.kind = ap (λ z. held z past) (sym o.1) ∙ b.is_held in
        let left : is_left past ended x ≡ true = ap (λ z. is_left past ended z) (sym o.1) ∙ b.left in
        let on : is_member (id_in s.slots s.target) (chain x past) ≡ true = ap (λ z. is_member (id_in s.slots s.target) (chain z past)) (sym o.1) ∙ b.on_chain in
        (b.kind, held_is, left, gives x b.kind held_is left on)

    -- one that is held is among them by its slot
    in_walk : (x : Id) (k : Kind C V) → held x past ≡ Some k → is_in x.1 keys ≡ true → is_among x (map (id_in s.slots) keys) ≡ true
    in_walk x k held_is is = in_ids s.slots keys x is (id_shown e past s.slots s.done before timers ended u x k held_is)

    out_walk : (x : Id) → is_in x.1 keys ≡ false → is_among x (map (id_in s.slots) keys) ≡ false
    out_walk x out = false_from_ne_true _ (λ is. not_both (is_in x.1 keys) (of_ids s.slots keys x is).0 out)

    new_nodes : (x : Id) → bare (node_at new x) ≡ option_map (node_of x (so_far e past (ended ++ map (id_in s.slots) keys) x) (deadline x past)) (held x past)
    new_nodes x = ⊎_elim
        (λ (hit : is_in x.1 keys ≡ true).
        let slot : slot_of new x.1 ≡ with_end s.ending (slot_of s.slots x.1) = w.slots_are x.1 ∙ ap (λ b. if b then with_end s.ending (slot_of s.slots x.1) else slot_of s.slots x.1) hit in
        ap (λ o. bare (numbered x.0 o)) slot ∙ ap bare (numbered_ended s.ending x.0 (slot_of s.slots x.1)) ∙ bare_ended s.ending (node_at s.slots x) ∙ ap (with_end s.ending) (u.nodes_are x)
        ∙ ended_context s.ending (held x past) x (so_far e past ended x) (so_far e past (ended ++ map (id_in s.slots) keys) x) (deadline x past) (λ k held_is.
        let inside = in_walk x k held_is hit in
        let among : is_among x (ended ++ map (id_in s.slots) keys) ≡ true = among_append x ended (map (id_in s.slots) keys) ∙ or_right _ _ inside in
        rw (among, (by_walk x inside).3) (ap Some told_is)))
        (λ (miss : is_in x.1 keys ≡ false).
        let slot : slot_of new x.1 ≡ slot_of s.slots x.1 = w.slots_are x.1 ∙ ap (λ b. if b then with_end s.ending (slot_of s.slots x.1) else slot_of s.slots x.1) miss in
        let among : is_among x (ended ++ map (id_in s.slots) keys) ≡ is_among x ended = among_append x ended (map (id_in s.slots) keys) ∙ or_none _ _ (out_walk x miss) in
        ap (λ o. bare (numbered x.0 o)) slot ∙ u.nodes_are x ∙ ap (λ b. option_map (node_of x (if b then ends (length past) (chain x past) (op_of e) else ending x past) (deadline x past)) (held x past)) (sym among))
        (cases_Bool (is_in x.1 keys))

    member_in : is_among how.member (map (id_in s.slots) keys) ≡ true
    member_in = rw member_is (rw w.begins.1 (among_first (id_in s.slots s.target) (map (id_in s.slots) w.begins.0)))

    new_ended : (x : Id) → is_among x (ended ++ map (id_in s.slots) keys) ≡ true → EndsNow e past (ended ++ map (id_in s.slots) keys) x
    new_ended x is = or_cases _ _ _ (sym (among_append x ended (map (id_in s.slots) keys)) ∙ is)
        (λ old. let n = u.are_ended x old in record {
          kind = n.kind;
          is_held = n.is_held;
          was = n.was;
          ended = n.ended;
          by_chain = n.by_chain;
          member_in = among_append n.ended.member ended (map (id_in s.slots) keys) ∙ or_left _ _ n.member_in;
        })
        (λ here. let b = by_walk x here in record {
          kind = b.0;
          is_held = b.1;
          was = none_from_is_none (ending x past) (and_not_parts (is_none (ending x past)) (is_among x ended) b.2).0;
          ended = how;
          by_chain = b.3;
          member_in = among_append how.member ended (map (id_in s.slots) keys) ∙ or_right _ _ member_in;
        })

    new_down : (x p : Id) (k : Kind C V) → held x past ≡ Some k → follows k ≡ Some p → ending x past ≡ None → is_among p (ended ++ map (id_in s.slots) keys) ≡ true → is_among x (ended ++ map (id_in s.slots) keys) ≡ true
    new_down x p k held_is f live is = among_append x ended (map (id_in s.slots) keys) ∙ or_cases _ _ _ (sym (among_append p ended (map (id_in s.slots) keys)) ∙ is)
        (λ old. or_left _ _ (u.down x p k held_is f live old))
        (λ here. ⊎_elim
        (λ (yes' : is_among x ended ≡ true). or_left _ _ yes')
        (λ (no' : is_among x ended ≡ false).
        let o = of_ids s.slots keys p here in
        let b = is_below e past s before timers ended u new done2 timers2 keys visited w p.1 o.0 in
        let on_p : is_member (id_in s.slots s.target) (chain p past) ≡ true = ap (λ z. is_member (id_in s.slots s.target) (chain z past)) (sym o.1) ∙ b.on_chain in
        let on : is_member (id_in s.slots s.target) (chain x past) ≡ true = rw ((born past u.lawful x k held_is).chain_is, f) (or_right _ _ on_p) in
        let left : is_left past ended x ≡ true = rw (live, no') refl in
        or_right _ _ (in_walk x k held_is (takes_all e past s before timers ended u new done2 timers2 keys visited w x k held_is left on)))
        (cases_Bool (is_among x ended)))

    differ : (x y : Id) → (x.1 ≡ y.1 → ⊥) → same x y ≡ false
    differ x y other = false_from_ne_true _ (λ is. other (ap (λ z. z.1) (same_true x y is)))

    -- one of the walk comes before one behind it that is not the target
    one_before : (k : ℕ) (y : Id) → is_in k keys ≡ true → (k ≡ y.1 → ⊥) → (s.target ≡ y.1 → ⊥) → EndsBefore e past (id_in s.slots k) y
    one_before k y inside other not_target = (
      differ (id_in s.slots k) y other,
      λ o by_chain.
          let b = is_below e past s before timers ended u new done2 timers2 keys visited w k inside in
          let o_is : how ≡ o = same_Some how o (sym (gives (id_in s.slots k) b.kind b.is_held b.left b.on_chain) ∙ by_chain) in
          let m : o.member ≡ id_in s.slots s.target = ap (λ (z : Ended C). z.member) (sym o_is) ∙ member_is in
          rw m (differ (id_in s.slots s.target) y not_target),
    )

    order : (ks : List ℕ) → AreApart ks → ((k : ℕ) → is_in k ks ≡ true → is_in k keys ≡ true) → is_in s.target ks ≡ false → EachBefore (EndsBefore e past) (map (id_in s.slots) ks)
    order [] apart inside out = tt
    order (k ∷ ks) apart inside out = (
      λ y is.
          let o = of_ids s.slots ks y is in
          one_before k y (inside k (or_left _ _ (eq-eqb k k refl)))
          (λ same_key. let hit : is_in k ks ≡ true = ap (λ z. is_in z ks) same_key ∙ o.0 in not_both (is_in k ks) hit apart.0)
          (λ same_key. let hit : is_in s.target ks ≡ true = ap (λ z. is_in z ks) same_key ∙ o.0 in not_both (s.target == k || is_in s.target ks) (or_right (s.target == k) (is_in s.target ks) hit) out),
      order ks apart.1 (λ j is. inside j (or_right _ _ is)) (false_from_ne_true _ (λ is. not_both (s.target == k || is_in s.target ks) (or_right _ _ is) out)),
    )

    whole_order : (ks : List ℕ) → keys ≡ ks → AreApart ks → (rest : List ℕ) → ks ≡ s.target ∷ rest → EachBefore (EndsBefore e past) (map (id_in s.slots) ks)
    whole_order ks ks_are apart rest is = subst (λ l. EachBefore (EndsBefore e past) (map (id_in s.slots) l)) (sym is) (
      λ y here.
          let o = of_ids s.slots rest y here in
          let parts : AreApart (s.target ∷ rest) = subst (λ l. AreApart l) is apart in
          let other : s.target ≡ y.1 → ⊥ = λ same_key. let hit : is_in s.target rest ≡ true = ap (λ z. is_in z rest) same_key ∙ o.0 in not_both (is_in s.target rest) hit parts.0 in
          one_before s.target y (rw (ks_are, is) (or_left _ _ (eq-eqb s.target s.target refl))) other other,
      let parts : AreApart (s.target ∷ rest) = subst (λ l. AreApart l) is apart in
          order rest parts.1 (λ j here. rw (ks_are, is) (or_right _ _ here)) parts.0,
    )

    cross : (x y : Id) → is_among x ended ≡ true → is_among y (map (id_in s.slots) keys) ≡ true → EndsBefore e past x y
    cross x y xin yin =
        let b = by_walk y yin in
        let y_out : is_among y ended ≡ false = (and_not_parts (is_none (ending y past)) (is_among y ended) b.2).1 in
        let n = u.are_ended x xin in (
          false_from_ne_true _ (λ is. not_both (is_among y ended) (ap (λ z. is_among z ended) (sym (same_true x y is)) ∙ xin) y_out),
          λ o by_chain.
              let o_is : n.ended ≡ o = same_Some n.ended o (sym n.by_chain ∙ by_chain) in
              let m : is_among o.member ended ≡ true = ap (λ (z : Ended C). is_among z.member ended) (sym o_is) ∙ n.member_in in
              false_from_ne_true _ (λ is. not_both (is_among y ended) (ap (λ z. is_among z ended) (sym (same_true o.member y is)) ∙ m) y_out),
        )

    new_timed : TimedBy (is_left past (ended ++ map (id_in s.slots) keys)) timers2 past
    new_timed = stop_timed (is_left past ended) (is_left past (ended ++ map (id_in s.slots) keys)) timers timers2 past (λ m. is_in m keys)
        (λ x k held_is. ap (λ b. is_none (ending x past) && not b) (among_append x ended (map (id_in s.slots) keys)) ∙ and_not_or (is_none (ending x past)) (is_among x ended) (is_among x (map (id_in s.slots) keys))
        ∙ ap (λ b. is_left past ended x && not b) (by_slot x k held_is))
        (λ at m. ap (λ (t : Timing). has_entry at m t.entries) w.timers_are ∙ filtered at m s.timers.entries (λ j. is_in j keys) ∙ ⊎_elim
        (λ (hit : is_in m keys ≡ true). rw hit (and-false (has_entry at m s.timers.entries) ∙ sym (and-false (has_entry at m timers.entries))))
        (λ (miss : is_in m keys ≡ false). ap (λ b. b && not (is_in m keys)) (kept at m (not_target m miss)))
        (cases_Bool (is_in m keys)))
        (ap (λ (t : Timing). t.sets) w.timers_are ∙ sets) u.timed
      where
        by_slot : (x : Id) (k : Kind C V) → held x past ≡ Some k → is_among x (map (id_in s.slots) keys) ≡ is_in x.1 keys
        by_slot x k held_is = ⊎_elim
            (λ (hit : is_in x.1 keys ≡ true). in_walk x k held_is hit ∙ sym hit)
            (λ (miss : is_in x.1 keys ≡ false). out_walk x miss ∙ sym miss)
            (cases_Bool (is_in x.1 keys))

        not_target : (m : ℕ) → is_in m keys ≡ false → (m == s.target) ≡ false
        not_target m miss = false_from_ne_true _ (λ is. not_both (is_in m keys) (rw (eqb-true m s.target is, w.begins.1) (or_left _ _ (eq-eqb s.target s.target refl))) miss)

    -- the operation has ended what the walk ended too
    pub goes_on : IsUnderway e past new done2 before timers2 (ended ++ map (id_in s.slots) keys)
    goes_on = record {
      lawful = u.lawful;
      nodes_are = new_nodes;
      are_ended = new_ended;
      down = new_down;
      done_is = w.done_is ∙ ap (λ l. l ++ map (id_in s.slots) keys) u.done_is ∙ append_assoc before ended (map (id_in s.slots) keys);
      in_order = each-append (EndsBefore e past) ended (map (id_in s.slots) keys) u.in_order (whole_order keys refl w.apart w.begins.0 w.begins.1) cross;
      timed = new_timed;
    }

    -- it ended each that was left and has the target on its chain
    pub took : (x : Id) (k : Kind C V) → held x past ≡ Some k → is_left past ended x ≡ true → is_member (id_in s.slots s.target) (chain x past) ≡ true → is_among x (ended ++ map (id_in s.slots) keys) ≡ true
    took x k held_is left on = among_append x ended (map (id_in s.slots) keys) ∙ or_right _ _ (in_walk x k held_is (takes_all e past s before timers ended u new done2 timers2 keys visited w x k held_is left on))

  -- ---- the operation is over

  lawful_op : (e : Ender C) (past : List (TreeOp C V)) → IsLawful past → IsLawful (op_of e ∷ past)
  lawful_op (ByCancel target cause) past l = l
  lawful_op (ByMoment now) past l = l

  deadline_op : (e : Ender C) (x : Id) (past : List (TreeOp C V)) → deadline x (op_of e ∷ past) ≡ deadline x past
  deadline_op (ByCancel target cause) x past = refl
  deadline_op (ByMoment now) x past = refl

  -- the operation ended all that it ends
  pub over : (e : Ender C) (t : TreeValue C V) (past : List (TreeOp C V)) (before ended : List Id) → IsUnderway e past t.slots t.done before t.timers ended → QueuesDone before past → t.made ≡ makes past
      → ((x : Id) (k : Kind C V) → held x past ≡ Some k → ending x past ≡ None → is_among x ended ≡ false → is_some (ends (length past) (chain x past) (op_of e)) ≡ false)
      → t.visits ≤ most_visits (op_of e ∷ past) → StandsFor t (op_of e ∷ past)
  over e t past before ended u q made_is none few = record {
    contexts = record {
      lawful = lawful_op e past u.lawful;
      made_is = made_is ∙ sym (makes_kept e past);
      nodes_are = λ x. u.nodes_are x ∙ by_kind x (held x past) refl;
    };
    queue = subst (λ d. QueuesDone d (op_of e ∷ past)) (sym u.done_is) (end_queue past e u.lawful before ended q u.are_ended none u.in_order);
    timers = end_timed (is_left past ended) t.timers past e left_now u.timed;
    visits_few = few;
  }
    where
      ending_now : (x : Id) (k : Kind C V) → held x past ≡ Some k → so_far e past ended x ≡ ending x (op_of e ∷ past)
      ending_now x k is = ⊎_elim
          (λ (yes' : is_among x ended ≡ true).
          let n = u.are_ended x yes' in
          ap (λ b. if b then ends (length past) (chain x past) (op_of e) else ending x past) yes' ∙ sym (ending_op e x past ∙ ap (λ o. option_or o (ends (length past) (chain x past) (op_of e))) n.was))
          (λ (no' : is_among x ended ≡ false). ap (λ b. if b then ends (length past) (chain x past) (op_of e) else ending x past) no' ∙ ⊎_elim
          (λ (live : ending x past ≡ None).
          live ∙ sym (ending_op e x past ∙ ap (λ o. option_or o (ends (length past) (chain x past) (op_of e))) live ∙ none_from_not_some _ (none x k is live no')))
          (λ (some : (o : Ended C) × (ending x past ≡ Some o)).
          some.1 ∙ sym (ending_op e x past ∙ ap (λ o. option_or o (ends (length past) (chain x past) (op_of e))) some.1))
          (option_cases (ending x past)))
          (cases_Bool (is_among x ended))

      by_kind : (x : Id) (o : Option (Kind C V)) → held x past ≡ o → option_map (node_of x (so_far e past ended x) (deadline x past)) (held x past) ≡ context x (op_of e ∷ past)
      by_kind x None is = rw (held_op e x past, is) refl
      by_kind x (Some k) is = rw (held_op e x past, deadline_op e x past, ending_now x k is, is) refl

      left_now : (x : Id) (k : Kind C V) → held x past ≡ Some k → is_none (ending x (op_of e ∷ past)) ≡ is_left past ended x
      left_now x k is = ap is_none (sym (ending_now x k is)) ∙ ⊎_elim
          (λ (yes' : is_among x ended ≡ true).
          let n = u.are_ended x yes' in
          ap (λ b. is_none (if b then ends (length past) (chain x past) (op_of e) else ending x past)) yes' ∙ ap is_none n.by_chain ∙ sym (ap (λ b. is_none (ending x past) && not b) yes' ∙ and-false (is_none (ending x past))))
          (λ (no' : is_among x ended ≡ false).
          ap (λ b. is_none (if b then ends (length past) (chain x past) (op_of e) else ending x past)) no' ∙ sym (ap (λ b. is_none (ending x past) && not b) no' ∙ and-true (is_none (ending x past))))
          (cases_Bool (is_among x ended))
