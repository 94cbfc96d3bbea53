-- What a tree that stands for operations tells of its slots: parents and children are there.
use Rattle.std.proofs.Common.{◌≡◌, refl, sym, ap, subst, ◌∙◌, arith, ℕ, ◌^◌, ◌<◌, ◌≤◌, List, [], ◌∷◌, Option, Some, None, true, false, ⊎_elim, option_map}
use Rattle.std.specs.Prelude.{◌==◌, is_some, is_none, option_and_then}
use Rattle.std.proofs.lemmas.Bool.{cases_Bool, eqb-true}
use Rattle.std.proofs.lemmas.Option.{same_Some}
use Rattle.context_tree.specs.declared.node.Node.{Node}
use Rattle.context_tree.specs.Context.{Id, same, TreeOp, makes, parent_of, HasChild, is_waiting}
use Rattle.context_tree.specs.Links.{slot_of, parent_in, number_in, links_in, IsLinked, ArePlaced}
use Rattle.context_tree.specs.Tree.{TreeValue, EachBefore, ComesFirst, node_at, is_among, is_live, KnowsContexts, StandsFor}
use Rattle.context_tree.specs.Walks.{is_in, keys_of, AreApart, IsReady}
use Rattle.context_tree.proofs.Keys.{not_in}
use Rattle.context_tree.proofs.Lineage.{held_low, born, same_refl}
use Rattle.context_tree.proofs.Linking.{no_child}
use Rattle.context_tree.proofs.Marking.{in_slot, node_in_slot}
use Rattle.context_tree.proofs.Ordering.{among_first, among_later}
use Rattle.context_tree.proofs.Queueing.{waits_so}
use Rattle.context_tree.proofs.Standing.{is_some_of}
use Rattle.context_tree.proofs.Whole.{kind_held, live_told, node_there, one_slot}

in_keys : (k : ℕ) (xs : List Id) → is_in k (keys_of xs) ≡ true → (x : Id) × (is_among x xs ≡ true) × (x.1 ≡ k)
in_keys k [] is = cc
in_keys k (y ∷ ys) is = ⊎_elim
    (λ (here : (k == y.1) ≡ true). (y, among_first y ys, sym (eqb-true k y.1 here)))
    (λ (other : (k == y.1) ≡ false). let rest = in_keys k ys (rw other at is) in (rest.0, among_later rest.0 y ys rest.1, rest.2))
    (cases_Bool (k == y.1))

module _ {C V : Type 0} where
  -- the node at a key derives from a context of the slot
  pub record Derived (slots : List (Option (Node C V))) (k p : ℕ) : Type 0 where
    pub node : Node C V
    pub slot_is : slot_of slots k ≡ Some node
    pub parent : Id
    pub parent_is : parent_of node.kind ≡ Some parent
    pub slot_of_parent : parent.1 ≡ p

  pub derived : (slots : List (Option (Node C V))) (k p : ℕ) → parent_in slots k ≡ Some p → Derived slots k p
  derived slots k p is = by_slot (slot_of slots k) refl is
    where
      by_parent : (n : Node C V) → slot_of slots k ≡ Some n → (o : Option Id) → parent_of n.kind ≡ o → option_map (λ q. q.1) o ≡ Some p → Derived slots k p
      by_parent n slot_is None o_is e = cc
      by_parent n slot_is (Some q) o_is e = record { node = n; slot_is = slot_is; parent = q; parent_is = o_is; slot_of_parent = same_Some q.1 p e }

      by_slot : (o : Option (Node C V)) → slot_of slots k ≡ o → option_and_then (λ n. option_map (λ q. q.1) (parent_of n.kind)) o ≡ Some p → Derived slots k p
      by_slot None o_is e = cc
      by_slot (Some n) o_is e = by_parent n o_is (parent_of n.kind) refl e

  -- its parent is held, and has a node
  pub record WithParent (t : TreeValue C V) (past : List (TreeOp C V)) (d : Id) (parent : Id) : Type 0 where
    pub low : d.0 < makes past
    pub node : Node C V
    pub node_is : node_at t.slots parent ≡ Some node

  pub with_parent : (t : TreeValue C V) (past : List (TreeOp C V)) (k p : ℕ) → KnowsContexts t past → (d : Derived t.slots k p) → WithParent t past (d.node.number, k) d.parent
  with_parent t past k p s d =
      let h = kind_held t past (d.node.number, k) d.node s (node_in_slot t.slots k d.node d.slot_is) in
      let b = born past s.lawful (d.node.number, k) d.node.kind h in
      let ph = b.parent_held d.parent d.parent_is in
      let there = node_there t past d.parent ph.0 s ph.1 in
      record { low = held_low past s.lawful (d.node.number, k) d.node.kind h; node = there.0; node_is = there.1 }

  pub places_of : (t : TreeValue C V) (past : List (TreeOp C V)) → KnowsContexts t past → ArePlaced t.slots t.made
  places_of t past s = record {
    newest = λ k p is.
        let d = derived t.slots k p is in
        let low : d.node.number < makes past = (with_parent t past k p s d).low in
        rw (d.slot_is, s.made_is) low;
    parents = λ k p is.
        let d = derived t.slots k p is in
        let w = with_parent t past k p s d in
        let at : slot_of t.slots d.parent.1 ≡ Some w.node = (in_slot t.slots d.parent w.node w.node_is).slot_is in
        rw (← d.slot_of_parent, at) refl;
  }

  -- the first child of a context derives from it
  pub first_derives : (t : TreeValue C V) (past : List (TreeOp C V)) (id : Id) (n : Node C V) → KnowsContexts t past → IsLinked t.slots → node_at t.slots id ≡ Some n
      → is_some (links_in t.slots id.1).first ≡ true → HasChild id past
  first_derives t past id n s linked here some =
      let first = is_some_of (links_in t.slots id.1).first some in
      let d = derived t.slots first.0 id.1 (linked.first_is id.1 first.0 first.1).0 in
      let w = with_parent t past first.0 id.1 s d in
      let in_id = in_slot t.slots id n here in
      let in_parent = in_slot t.slots d.parent w.node w.node_is in
      let same_node : w.node ≡ n = same_Some w.node n (sym in_parent.slot_is ∙ ap (λ k. slot_of t.slots k) d.slot_of_parent ∙ in_id.slot_is) in
      let number : d.parent.0 ≡ id.0 = sym in_parent.number_is ∙ ap (λ (m : Node C V). m.number) same_node ∙ in_id.number_is in
      record {
        child = (d.node.number, first.0);
        kind = d.node.kind;
        is_held = kind_held t past (d.node.number, first.0) d.node s (node_in_slot t.slots first.0 d.node d.slot_is);
        derives = d.parent_is ∙ ap Some (same_id d.parent id number d.slot_of_parent);
      }
    where
      same_id : (a b : Id) → a.0 ≡ b.0 → a.1 ≡ b.1 → a ≡ b
      same_id a b first second = ap (λ n. (n, a.1)) first ∙ ap (λ n. (b.0, n)) second

  -- where it has no first child, none does
  pub none_derives : (slots : List (Option (Node C V))) (id : Id) → IsLinked slots → (links_in slots id.1).first ≡ None
      → (child : Id) (node : Node C V) → node_at slots child ≡ Some node → parent_of node.kind ≡ Some id → ⊥
  none_derives slots id linked none child node is derives =
      let at : slot_of slots child.1 ≡ Some node = (in_slot slots child node is).slot_is in
      let up : parent_in slots child.1 ≡ Some id.1 = rw (at, derives) refl in
      no_child (parent_in slots) (number_in slots) (links_in slots) linked id.1 child.1 none up

  -- the slot of an id that is known has a node
  pub key_there : (slots : List (Option (Node C V))) (id shown : Id) (n : Node C V) → shown ≡ id → node_at slots id ≡ Some n → is_some (slot_of slots shown.1) ≡ true
  key_there slots id shown n same_id is =
      let at : slot_of slots id.1 ≡ Some n = (in_slot slots id n is).slot_is in
      rw (same_id, at) refl

  -- ---- a tree is ready for a walk

  -- those that wait have slots of their own
  slots_apart : (t : TreeValue C V) (past : List (TreeOp C V)) → KnowsContexts t past → (xs : List Id) → EachBefore (ComesFirst past) xs → ((x : Id) → is_among x xs ≡ true → is_waiting x past ≡ true) → AreApart (keys_of xs)
  slots_apart t past s [] order waits = tt
  slots_apart t past s (x ∷ xs) order waits = (
    not_in x.1 (keys_of xs) (λ is.
        let y = in_keys x.1 xs is in
        let wx = waits_so past x (waits x (among_first x xs)) in
        let wy = waits_so past y.0 (waits y.0 (among_later y.0 x xs y.1)) in
        let e : x ≡ y.0 = one_slot t past x y.0 wx.kind wy.kind s wx.is_held wy.is_held (sym y.2) in
        let hit : same x y.0 ≡ true = subst (λ z. same x z ≡ true) e (same_refl x) in
        let bad : true ≡ false = sym hit ∙ (order.0 y.0 y.1).0 in cc),
    slots_apart t past s xs order.1 (λ y is. waits y (among_later y x xs is)),
  )

  pub ready_of : (t : TreeValue C V) (past : List (TreeOp C V)) (room : ℕ) → StandsFor t past → IsLinked t.slots → t.made ≤ 2 ^ 62 → ((k : ℕ) → is_some (slot_of t.slots k) ≡ true → k < room) → IsReady t.slots t.done room
  ready_of t past room st linked few within =
      let s = st.contexts in
      let waits : (x : Id) → is_among x t.done ≡ true → is_waiting x past ≡ true = λ x is. sym (st.queue.are_waiting x) ∙ is in
      record {
        linked = linked;
        few = λ k q is. let low : number_in t.slots k < t.made = (places_of t past s).newest k q is in omega (arith, low, few);
        apart = slots_apart t past s t.done st.queue.in_order waits;
        ended = λ k is.
            let x = in_keys k t.done is in
            let w = waits_so past x.0 (waits x.0 x.1) in
            let n = node_there t past x.0 w.kind s w.is_held in
            let slot : slot_of t.slots k ≡ Some n.0 = ap (λ z. slot_of t.slots z) (sym x.2) ∙ (in_slot t.slots x.0 n.0 n.1).slot_is in
            let live : is_live t.slots x.0 ≡ false = live_told t past x.0 s (ap is_some w.is_held) ∙ ap is_none w.ending_is in
            let own : is_none n.0.ending ≡ false = ap (λ o. is_none (option_and_then (λ (m : Node C V). m.ending) o)) (sym n.1) ∙ live in
            (rw slot own, rw slot refl);
        within = within;
      }
