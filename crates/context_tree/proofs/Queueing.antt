-- Which contexts wait to be handed out, and in which order.
use Rattle.std.proofs.Common.{◌≡◌, refl, sym, ap, subst, ◌∙◌, arith, rules, ℕ, ◌<◌, List, [], ◌∷◌, ◌++◌, length, Option, Some, None, Bool, true, false, ⊎_elim, option_map}
use Rattle.std.specs.Prelude.{◌&&◌, ◌||◌, ◌==◌, not, nat_lt, if◌then◌else◌, is_some, is_none, filter, option_and_then}
use Rattle.std.specs.Option.{option_or}
use Rattle.std.proofs.lemmas.Bool.{cases_Bool}
use Rattle.std.proofs.lemmas.List.Folds.{list_any-append}
use Rattle.std.proofs.Math.Bool.{or-false, or-true, and-true, and-false}
use Rattle.std.proofs.lemmas.Option.{same_Some}
use Rattle.context_tree.specs.declared.node.Due.{Due}
use Rattle.context_tree.specs.declared.node.Kind.{Kind}
use Rattle.context_tree.specs.Context.{Id, same, TreeOp, Makes, Cancels, Advances, HandsOut, Releases, Ended, makes, held, chain, follows, own_due, first_due, has_cancel, ends, ending, expiry, inherited, handed, is_waiting, precedes, IsFirstDone}
use Rattle.context_tree.specs.Tree.{IsLawful, QueuesDone, ComesFirst, EachBefore, is_among}
use Rattle.context_tree.proofs.Enders.{Ender, ByCancel, ByMoment, op_of}
use Rattle.context_tree.proofs.LawLemmas.{or_first}
use Rattle.context_tree.proofs.Lineage.{held_low, same_true, same_false, same_refl, option_cases}
use Rattle.context_tree.proofs.Ordering.{among_filter, among_first, each-append, each-filter, each-turns}
use Rattle.context_tree.proofs.Standing.{among_end, is_some_of, same_false_sym}

-- the parts of what waits
waits : (a b c : Bool) → (a && b && not c) ≡ true → (a ≡ true) × (b ≡ true) × (c ≡ false)
waits true true false is = (refl, refl, refl)
waits true true true is = cc
waits true false c is = cc
waits false b c is = cc

waits_if : {A B : Type 0} (o : Option A) (e : Option B) (h : Bool) → is_some o ≡ true → h ≡ false → (is_some o && is_some e && not h) ≡ is_some e
waits_if None e h is no' = cc
waits_if (Some a) e h is no' = rw no' (and-true (is_some e))

abbrev pub done_after : {C : Type 0} → Option (Ended C) → List Id → Id → List Id
done_after e done id = if is_none e then done else done ++ id ∷ []

module _ {C : Type 0} where
  -- one that a later operation ended does not come before
  later : (a b : Id) (ea eb : Ended C) → eb.turn < ea.turn → precedes a b (Some ea) (Some eb) ≡ false
  later a b ea eb lt =
      let not_less : nat_lt ea.turn eb.turn ≡ false = grind (arith, rules) in
      let not_same : (ea.turn == eb.turn) ≡ false = grind (arith, rules) in
      rw (not_less, not_same) refl

  -- of two that one operation ended, one that is not what ended the other does not come before
  aside : (a b : Id) (ea eb : Ended C) → ea.turn ≡ eb.turn → same eb.member a ≡ false → precedes a b (Some ea) (Some eb) ≡ false
  aside a b ea eb is other =
      let not_less : nat_lt ea.turn eb.turn ≡ false = grind (arith, rules) in
      rw (not_less, other) (and-false (ea.turn == eb.turn))

  itself : (a : Id) (e : Option (Ended C)) → precedes a a e e ≡ false
  itself a None = refl
  itself a (Some e) =
      let not_less : nat_lt e.turn e.turn ≡ false = grind (arith, rules) in
      rw (not_less, same_refl a) (both_false (e.turn == e.turn) (same e.member a))
    where
      both_false : (b c : Bool) → (b && (c && false)) ≡ false
      both_false true c = and-false c
      both_false false c = refl

  or_turn : (a : Option (Ended C)) (b : Option (Due C)) (turn : ℕ) (id : Id) (e : Ended C) → option_or (option_map (inherited turn id) a) (option_map (expiry turn) b) ≡ Some e → e.turn ≡ turn
  or_turn None None turn id e is = cc
  or_turn None (Some d) turn id e is = sym (ap (λ x. x.turn) (same_Some (expiry turn d) e is))
  or_turn (Some a) b turn id e is = sym (ap (λ x. x.turn) (same_Some (inherited turn id a) e is))

  or_either : (a b : Option (Ended C)) (e : Ended C) → option_or a b ≡ Some e → (n : ℕ) → ((x : Ended C) → a ≡ Some x → x.turn < n) → ((x : Ended C) → b ≡ Some x → x.turn < n) → e.turn < n
  or_either None b e is n f g = g e is
  or_either (Some a) b e is n f g = f e is

module _ {C V : Type 0} where
  pub ends_turn : (turn : ℕ) (x : Id) (past : List (TreeOp C V)) (op : TreeOp C V) (e : Ended C) → ends turn (chain x past) op ≡ Some e → e.turn ≡ turn
  ends_turn turn x past (Makes id kind now) e is = cc
  ends_turn turn x past (Cancels id cause) e is = ⊎_elim
      (λ (yes' : has_cancel id (chain x past) ≡ true). sym (ap (λ x. x.turn) (same_Some _ e (rw yes' at is))))
      (λ (no' : has_cancel id (chain x past) ≡ false). let bad : None ≡ Some e = rw no' at is in cc)
      (cases_Bool (has_cancel id (chain x past)))
  ends_turn turn x past (Advances now) e is = ⊎_elim
      (λ (none : first_due now (chain x past) ≡ None). let bad : None ≡ Some e = rw none at is in cc)
      (λ (some : (d : Due C) × (first_due now (chain x past) ≡ Some d)). sym (ap (λ x. x.turn) (same_Some _ e (rw some.1 at is))))
      (option_cases (first_due now (chain x past)))
  ends_turn turn x past (HandsOut id) e is = cc
  ends_turn turn x past (Releases id) e is = cc

  -- what ended a context came before now
  pub ending_turn : (past : List (TreeOp C V)) (x : Id) (e : Ended C) → ending x past ≡ Some e → e.turn < length past
  ending_turn [] x e is = cc
  ending_turn (Makes id kind now ∷ past) x e is = ⊎_elim
      (λ (yes' : same id x ≡ true). let t : e.turn ≡ length past = or_turn (option_and_then (λ p. ending p past) (follows kind)) (own_due now (id, kind)) (length past) id e (rw yes' at is) in omega (arith, t))
      (λ (no' : same id x ≡ false). let t : e.turn < length past = ending_turn past x e (rw no' at is) in omega (arith, t))
      (cases_Bool (same id x))
  ending_turn (Cancels id cause ∷ past) x e is = or_either (ending x past) _ e is (length (Cancels id cause ∷ past))
      (λ o was. let t : o.turn < length past = ending_turn past x o was in omega (arith, t))
      (λ o now. let t : o.turn ≡ length past = ends_turn (length past) x past (Cancels id cause) o now in omega (arith, t))
  ending_turn (Advances now ∷ past) x e is = or_either (ending x past) _ e is (length (Advances now ∷ past))
      (λ o was. let t : o.turn < length past = ending_turn past x o was in omega (arith, t))
      (λ o here. let t : o.turn ≡ length past = ends_turn (length past) x past (Advances now) o here in omega (arith, t))
  ending_turn (HandsOut id ∷ past) x e is = let t : e.turn < length past = ending_turn past x e is in omega (arith, t)
  ending_turn (Releases id ∷ past) x e is = let t : e.turn < length past = ending_turn past x e is in omega (arith, t)

  -- one that was handed out was made, and is ended
  pub handed_ended : (past : List (TreeOp C V)) → IsLawful past → (x : Id) → handed x past ≡ true → (x.0 < makes past) × (is_some (ending x past) ≡ true)
  handed_ended [] lawful x is = cc
  handed_ended (Makes id kind now ∷ past) lawful x is =
      let old = handed_ended past lawful.2 x is in
      let other : same id x ≡ false = same_false id x (λ e. omega (arith, old.0, lawful.0, e)) in
      (omega (arith, old.0), rw other old.1)
  handed_ended (Cancels id cause ∷ past) lawful x is = let old = handed_ended past lawful x is in (old.0, or_first (ending x past) _ old.1)
  handed_ended (Advances now ∷ past) lawful x is = let old = handed_ended past lawful x is in (old.0, or_first (ending x past) _ old.1)
  handed_ended (HandsOut id ∷ past) lawful x is = ⊎_elim
      (λ (yes' : same id x ≡ true).
      let e : id ≡ x = same_true id x yes' in
      let w = waits (is_some (held id past)) (is_some (ending id past)) (handed id past) lawful.0 in
      let h = is_some_of (held id past) w.0 in
      rw (← e) (held_low past lawful.1 id h.0 h.1, w.1))
      (λ (no' : same id x ≡ false). handed_ended past lawful.1 x (rw no' at is))
      (cases_Bool (same id x))
  handed_ended (Releases id ∷ past) lawful x is = handed_ended past lawful.1 x is

  -- one that waits is held, ended and not handed out
  pub record Waits (x : Id) (past : List (TreeOp C V)) : Type 0 where
    pub kind : Kind C V
    pub is_held : held x past ≡ Some kind
    pub ended : Ended C
    pub ending_is : ending x past ≡ Some ended

  pub waits_so : (past : List (TreeOp C V)) (x : Id) → is_waiting x past ≡ true → Waits x past
  waits_so past x is =
      let w = waits (is_some (held x past)) (is_some (ending x past)) (handed x past) is in
      let h = is_some_of (held x past) w.0 in
      let e = is_some_of (ending x past) w.1 in
      record { kind = h.0; is_held = h.1; ended = e.0; ending_is = e.1 }

  -- ---- a context is made

  pub not_handed : (past : List (TreeOp C V)) → IsLawful past → (x : Id) → (x.0 < makes past → ⊥) → handed x past ≡ false
  not_handed past lawful x high = ⊎_elim
      (λ (yes' : handed x past ≡ true). absurd (high (handed_ended past lawful x yes').0))
      (λ (no' : handed x past ≡ false). no')
      (cases_Bool (handed x past))

  pub make_queue : (past : List (TreeOp C V)) (id : Id) (kind : Kind C V) (now : ℕ) → IsLawful (Makes id kind now ∷ past) → (done : List Id) → QueuesDone done past
      → QueuesDone (done_after (ending id (Makes id kind now ∷ past)) done id) (Makes id kind now ∷ past)
  make_queue past id kind now lawful done q = by_ending (ending id (Makes id kind now ∷ past)) refl
    where
      new : List (TreeOp C V)
      new = Makes id kind now ∷ past

      -- those that wait are others
      other : (x : Id) → is_among x done ≡ true → same id x ≡ false
      other x is =
          let w = waits_so past x (sym (q.are_waiting x) ∙ is) in
          let low : x.0 < makes past = held_low past lawful.2 x w.kind w.is_held in
          same_false id x (λ e. omega (arith, low, lawful.0, e))

      order : EachBefore (ComesFirst new) done
      order = each-turns (ComesFirst past) (ComesFirst new) done q.in_order (λ x y xin yin r. (r.0, rw (other x xin, other y yin) r.1))

      absent : is_among id done ≡ false
      absent = ⊎_elim
          (λ (yes' : is_among id done ≡ true). let bad : true ≡ false = sym (same_refl id) ∙ other id yes' in cc)
          (λ (no' : is_among id done ≡ false). no')
          (cases_Bool (is_among id done))

      fresh : handed id past ≡ false
      fresh = not_handed past lawful.2 id (λ lt. omega (arith, lt, lawful.0))

      is_new : is_waiting id new ≡ is_some (ending id new)
      is_new = waits_if (held id new) (ending id new) (handed id past) (rw (same_refl id) refl) fresh

      turn_of : (e : Ended C) → ending id new ≡ Some e → e.turn ≡ length past
      turn_of e e_is = or_turn (option_and_then (λ p. ending p past) (follows kind)) (own_due now (id, kind)) (length past) id e (rw (same_refl id) at e_is)

      -- the new one comes last
      last : (e : Ended C) → ending id new ≡ Some e → (x : Id) → is_among x done ≡ true → ComesFirst new x id
      last e e_is x xin =
          let w = waits_so past x (sym (q.are_waiting x) ∙ xin) in
          let x_ending : ending x new ≡ Some w.ended = rw (other x xin) w.ending_is in
          let before : w.ended.turn < length past = ending_turn past x w.ended w.ending_is in
          let t : e.turn ≡ length past = turn_of e e_is in (
            same_false_sym id x (other x xin),
            ap (λ o. precedes id x o (ending x new)) e_is ∙ ap (λ o. precedes id x (Some e) o) x_ending ∙ later id x e w.ended (omega (arith, before, t)),
          )

      by_ending : (e : Option (Ended C)) → ending id new ≡ e → QueuesDone (done_after e done id) new
      by_ending None e_is = record {
        are_waiting = λ x. ⊎_elim
            (λ (yes' : same id x ≡ true). let here : id ≡ x = same_true id x yes' in subst (λ y. is_among y done ≡ is_waiting y new) here (absent ∙ sym (is_new ∙ ap is_some e_is)))
            (λ (no' : same id x ≡ false). q.are_waiting x ∙ rw no' refl)
            (cases_Bool (same id x));
        in_order = order;
      }
      by_ending (Some e) e_is = record {
        are_waiting = λ x. ⊎_elim
            (λ (yes' : same id x ≡ true). let here : id ≡ x = same_true id x yes' in
            subst (λ y. is_among y (done ++ id ∷ []) ≡ is_waiting y new) here (among_end id id done true (same_refl id) ∙ or-true (is_among id done) ∙ sym (is_new ∙ ap is_some e_is)))
            (λ (no' : same id x ≡ false). among_end x id done false (same_false_sym id x no') ∙ or-false (is_among x done) ∙ q.are_waiting x ∙ rw no' refl)
            (cases_Bool (same id x));
        in_order = each-append (ComesFirst new) done (id ∷ []) order (λ y is. cc, tt) (λ x y xin yin.
            let here : y ≡ id = same_true y id (sym (or-false (same y id)) ∙ yin) in
            subst (λ z. ComesFirst new x z) (sym here) (last e e_is x xin));
      }

  -- ---- contexts are ended

  pub held_op : (e : Ender C) (x : Id) (past : List (TreeOp C V)) → held x (op_of e ∷ past) ≡ held x past
  held_op (ByCancel target cause) x past = refl
  held_op (ByMoment now) x past = refl

  handed_op : (e : Ender C) (x : Id) (past : List (TreeOp C V)) → handed x (op_of e ∷ past) ≡ handed x past
  handed_op (ByCancel target cause) x past = refl
  handed_op (ByMoment now) x past = refl

  pub ending_op : (e : Ender C) (x : Id) (past : List (TreeOp C V)) → ending x (op_of e ∷ past) ≡ option_or (ending x past) (ends (length past) (chain x past) (op_of e))
  ending_op (ByCancel target cause) x past = refl
  ending_op (ByMoment now) x past = refl

  -- one that this operation ends, by its chain; what ends it is among these
  pub record EndsNow (e : Ender C) (past : List (TreeOp C V)) (among : List Id) (x : Id) : Type 0 where
    pub kind : Kind C V
    pub is_held : held x past ≡ Some kind
    pub was : ending x past ≡ None
    pub ended : Ended C
    pub by_chain : ends (length past) (chain x past) (op_of e) ≡ Some ended
    pub member_in : is_among ended.member among ≡ true

  -- two that this operation ends, of which the second is not what ended the first
  abbrev pub EndsBefore : Ender C → List (TreeOp C V) → Id → Id → Type 0
  EndsBefore e past x y = (same x y ≡ false) × ((o : Ended C) → ends (length past) (chain x past) (op_of e) ≡ Some o → same o.member y ≡ false)

  same_waiting : (o : Option (Kind C V)) (a b : Option (Ended C)) (h : Bool) → ((k : Kind C V) → o ≡ Some k → a ≡ None → is_some b ≡ false) → (is_some o && is_some a && not h) ≡ (is_some o && is_some (option_or a b) && not h)
  same_waiting None a b h none = refl
  same_waiting (Some k) None b h none = rw (none k refl refl) refl
  same_waiting (Some k) (Some a) b h none = refl

  waiting_op : (e : Ender C) (x : Id) (past : List (TreeOp C V))
      → is_waiting x (op_of e ∷ past) ≡ (is_some (held x past) && is_some (option_or (ending x past) (ends (length past) (chain x past) (op_of e))) && not (handed x past))
  waiting_op e x past =
      ap (λ o. is_some o && is_some (ending x (op_of e ∷ past)) && not (handed x (op_of e ∷ past))) (held_op e x past)
      ∙ ap (λ o. is_some (held x past) && is_some o && not (handed x (op_of e ∷ past))) (ending_op e x past)
      ∙ ap (λ h. is_some (held x past) && is_some (option_or (ending x past) (ends (length past) (chain x past) (op_of e))) && not h) (handed_op e x past)

  -- one that is not ended was not handed out
  live_not_handed : (past : List (TreeOp C V)) → IsLawful past → (x : Id) → ending x past ≡ None → handed x past ≡ false
  live_not_handed past lawful x none = ⊎_elim
      (λ (yes' : handed x past ≡ true). let o = is_some_of (ending x past) (handed_ended past lawful x yes').1 in let bad : Some o.0 ≡ None = sym o.1 ∙ none in cc)
      (λ (no' : handed x past ≡ false). no')
      (cases_Bool (handed x past))

  -- those that the operation ended stand behind those that waited
  pub end_queue : (past : List (TreeOp C V)) (e : Ender C) → IsLawful past → (done ended : List Id) → QueuesDone done past
      → ((x : Id) → is_among x ended ≡ true → EndsNow e past ended x)
      → ((x : Id) (k : Kind C V) → held x past ≡ Some k → ending x past ≡ None → is_among x ended ≡ false → is_some (ends (length past) (chain x past) (op_of e)) ≡ false)
      → EachBefore (EndsBefore e past) ended
      → QueuesDone (done ++ ended) (op_of e ∷ past)
  end_queue past e lawful done ended q now_so all_so in_order = record {
    are_waiting = λ x. list_any-append (same x) done ended ∙ waiting x;
    in_order = each-append (ComesFirst new) done ended order (each-turns (EndsBefore e past) (ComesFirst new) ended in_order among_new) cross;
  }
    where
      new : List (TreeOp C V)
      new = op_of e ∷ past

      stays : (x : Id) (o : Ended C) → ending x past ≡ Some o → ending x new ≡ Some o
      stays x o is = ending_op e x past ∙ rw is refl

      now_is : (x : Id) (n : EndsNow e past ended x) → ending x new ≡ Some n.ended
      now_is x n = ending_op e x past ∙ rw n.was n.by_chain

      turn_is : (x : Id) (n : EndsNow e past ended x) → n.ended.turn ≡ length past
      turn_is x n = ends_turn (length past) x past (op_of e) n.ended n.by_chain

      waiting : (x : Id) → (is_among x done || is_among x ended) ≡ is_waiting x new
      waiting x = ⊎_elim
          (λ (yes' : is_among x ended ≡ true).
          let n = now_so x yes' in
          let not_yet : is_among x done ≡ false = q.are_waiting x ∙ none_waits (is_some (held x past)) (ending x past) (handed x past) n.was in
          let here : is_some (held x new) ≡ true = ap is_some (held_op e x past ∙ n.is_held) in
          rw (not_yet, yes') (sym (waits_if (held x new) (ending x new) (handed x new) here (handed_op e x past ∙ live_not_handed past lawful x n.was) ∙ ap is_some (now_is x n))))
          (λ (no' : is_among x ended ≡ false).
          rw no' (or-false (is_among x done) ∙ q.are_waiting x ∙ same_waiting (held x past) (ending x past) _ (handed x past) (λ k is live. all_so x k is live no') ∙ sym (waiting_op e x past)))
          (cases_Bool (is_among x ended))
        where
          none_waits : (a : Bool) (o : Option (Ended C)) (h : Bool) → o ≡ None → (a && is_some o && not h) ≡ false
          none_waits true o h is = rw is refl
          none_waits false o h is = refl

      order : EachBefore (ComesFirst new) done
      order = each-turns (ComesFirst past) (ComesFirst new) done q.in_order (λ x y xin yin r.
          let wx = waits_so past x (sym (q.are_waiting x) ∙ xin) in
          let wy = waits_so past y (sym (q.are_waiting y) ∙ yin) in (
            r.0,
            ap (λ o. precedes y x o (ending x new)) (stays y wy.ended wy.ending_is ∙ sym wy.ending_is)
                ∙ ap (λ o. precedes y x (ending y past) o) (stays x wx.ended wx.ending_is ∙ sym wx.ending_is) ∙ r.1,
          ))

      among_new : (x y : Id) → is_among x ended ≡ true → is_among y ended ≡ true → EndsBefore e past x y → ComesFirst new x y
      among_new x y xin yin b =
          let nx = now_so x xin in
          let ny = now_so y yin in (
            b.0,
            ap (λ o. precedes y x o (ending x new)) (now_is y ny) ∙ ap (λ o. precedes y x (Some ny.ended) o) (now_is x nx)
                ∙ aside y x ny.ended nx.ended (turn_is y ny ∙ sym (turn_is x nx)) (b.1 nx.ended nx.by_chain),
          )

      cross : (x y : Id) → is_among x done ≡ true → is_among y ended ≡ true → ComesFirst new x y
      cross x y xin yin =
          let wx = waits_so past x (sym (q.are_waiting x) ∙ xin) in
          let ny = now_so y yin in
          let lt : wx.ended.turn < length past = ending_turn past x wx.ended wx.ending_is in
          let turn_of_y = turn_is y ny in (
            ⊎_elim
                (λ (yes' : same x y ≡ true). let bad : Some wx.ended ≡ None = sym wx.ending_is ∙ ap (λ z. ending z past) (same_true x y yes') ∙ ny.was in cc)
                (λ (no' : same x y ≡ false). no')
                (cases_Bool (same x y)),
            ap (λ o. precedes y x o (ending x new)) (now_is y ny) ∙ ap (λ o. precedes y x (Some ny.ended) o) (stays x wx.ended wx.ending_is)
                ∙ later y x ny.ended wx.ended (omega (arith, lt, turn_of_y)),
          )

  -- ---- the first is handed out, and contexts are released

  pub first_done : (past : List (TreeOp C V)) (id : Id) (rest : List Id) → QueuesDone (id ∷ rest) past → IsFirstDone id past
  first_done past id rest q = record {
    waits = sym (q.are_waiting id) ∙ among_first id rest;
    first = λ y is. ⊎_elim
        (λ (yes' : same y id ≡ true). subst (λ z. precedes z id (ending z past) (ending id past) ≡ false) (sym (same_true y id yes')) (itself id (ending id past)))
        (λ (no' : same y id ≡ false). (q.in_order.0 y (rw no' at (q.are_waiting y ∙ is))).1)
        (cases_Bool (same y id));
  }

  pub hand_queue : (past : List (TreeOp C V)) (id : Id) (rest : List Id) → QueuesDone (id ∷ rest) past → QueuesDone rest (HandsOut id ∷ past)
  hand_queue past id rest q = record {
    are_waiting = λ x. ⊎_elim
        (λ (yes' : same id x ≡ true). let here : id ≡ x = same_true id x yes' in subst (λ y. is_among y rest ≡ is_waiting y (HandsOut id ∷ past)) here (once ∙ sym handed_now))
        (λ (no' : same id x ≡ false). let w : is_among x rest ≡ is_waiting x past = rw (same_false_sym id x no') at (q.are_waiting x) in w ∙ rw no' refl)
        (cases_Bool (same id x));
    in_order = each-turns (ComesFirst past) (ComesFirst (HandsOut id ∷ past)) rest q.in_order.1 (λ x y xin yin r. r);
  }
    where
      once : is_among id rest ≡ false
      once = ⊎_elim
          (λ (yes' : is_among id rest ≡ true). let bad : true ≡ false = sym (same_refl id) ∙ (q.in_order.0 id yes').0 in cc)
          (λ (no' : is_among id rest ≡ false). no')
          (cases_Bool (is_among id rest))

      handed_now : is_waiting id (HandsOut id ∷ past) ≡ false
      handed_now = rw (same_refl id) (and_no (is_some (held id past)) (is_some (ending id past)))
        where
          and_no : (a b : Bool) → (a && b && false) ≡ false
          and_no true b = and-false b
          and_no false b = refl

  pub release_queue : (past : List (TreeOp C V)) (id : Id) (done : List Id) → QueuesDone done past → QueuesDone (filter (λ x. not (same x id)) done) (Releases id ∷ past)
  release_queue past id done q = record {
    are_waiting = λ x. among_filter (λ y. not (same y id)) x done ∙ ⊎_elim
        (λ (yes' : same id x ≡ true). let here : id ≡ x = same_true id x yes' in rw (yes', ← here, same_refl id) (and-false (is_among id done)))
        (λ (no' : same id x ≡ false). rw (no', same_false_sym id x no') (and-true (is_among x done) ∙ q.are_waiting x))
        (cases_Bool (same id x));
    in_order = each-turns (ComesFirst past) (ComesFirst (Releases id ∷ past)) _ (each-filter (ComesFirst past) _ done q.in_order) (λ x y xin yin r. r);
  }
