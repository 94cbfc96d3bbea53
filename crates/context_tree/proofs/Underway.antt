-- An operation that ends contexts, when it has ended some of them.
use Rattle.std.proofs.Common.{◌≡◌, refl, sym, ap, subst, ◌∙◌, arith, ℕ, zero, suc, ◌+◌, ◌<◌, ◌≤◌, List, [], ◌++◌, length, map, Option, Some, None, Bool, true, false, ⊎_elim, option_map}
use Rattle.std.specs.Prelude.{◌&&◌, ◌||◌, not, is_some, is_none, if◌then◌else◌, option_and_then}
use Rattle.std.specs.Option.{option_map_or}
use Rattle.std.proofs.lemmas.Bool.{cases_Bool, and_parts, eq-eqb, or_right, or_left}
use Rattle.std.proofs.lemmas.List.{append-nil}
use Rattle.std.proofs.lemmas.List.Folds.{list_any-append}
use Rattle.std.proofs.Math.Bool.{and-true, and-false}
use Rattle.std.proofs.lemmas.Option.{same_Some}
use Rattle.timer_heap.specs.Timers.{Timing}
use Rattle.context_tree.specs.declared.node.Kind.{Kind}
use Rattle.context_tree.specs.declared.node.Node.{Node}
use Rattle.context_tree.specs.Context.{Id, same, TreeOp, Ended, held, line, chain, is_member, parent_of, follows, ends, ending, deadline}
use Rattle.context_tree.specs.Links.{slot_of, parent_in, number_in, no_links, bare}
use Rattle.context_tree.specs.Tree.{TreeValue, EachBefore, node_at, told, is_among, IsLawful, StandsFor}
use Rattle.context_tree.specs.Timed.{TimedBy}
use Rattle.context_tree.specs.Walks.{is_in, is_live_at, is_ended_with, id_in, Start, IsReachedBy, IsWalk}
use Rattle.context_tree.proofs.Enders.{Ender, op_of}
use Rattle.context_tree.proofs.Bare.{bare_there}
use Rattle.context_tree.proofs.LawLemmas.{child_ends}
use Rattle.context_tree.proofs.Lineage.{born, option_cases, follows_parent, same_true, same_refl}
use Rattle.context_tree.proofs.Marking.{in_slot, node_in_slot}
use Rattle.context_tree.proofs.Queueing.{EndsNow, EndsBefore}
use Rattle.context_tree.proofs.Standing.{is_some_of, node_of, told_none}
use Rattle.context_tree.proofs.Tests.{not_both, and_not_parts, none_from_is_none}

some_none : {A : Type 0} (o : Option A) (a : A) → o ≡ Some a → o ≡ None → ⊥
some_none None a is none = cc
some_none (Some b) a is none = cc

pub among_append : (x : Id) (xs ys : List Id) → is_among x (xs ++ ys) ≡ (is_among x xs || is_among x ys)
among_append x xs ys = list_any-append (same x) xs ys

module _ {C V : Type 0} where
  -- how a context is ended when the operation has ended these
  abbrev pub so_far : Ender C → List (TreeOp C V) → List Id → Id → Option (Ended C)
  so_far e past ended x = if is_among x ended then ends (length past) (chain x past) (op_of e) else ending x past

  -- the context was not ended before, and is none of these
  abbrev pub is_left : List (TreeOp C V) → List Id → Id → Bool
  is_left past ended x = is_none (ending x past) && not (is_among x ended)

  -- The operation has ended these, and all that follow them.
  pub record IsUnderway (e : Ender C) (past : List (TreeOp C V)) (slots : List (Option (Node C V))) (done before : List Id) (timers : Timing) (ended : List Id) : Type 0 where
    pub lawful : IsLawful past
    pub nodes_are : (x : Id) → bare (node_at slots x) ≡ option_map (node_of x (so_far e past ended x) (deadline x past)) (held x past)
    pub are_ended : (x : Id) → is_among x ended ≡ true → EndsNow e past ended x
    pub down : (x p : Id) (k : Kind C V) → held x past ≡ Some k → follows k ≡ Some p → ending x past ≡ None → is_among p ended ≡ true → is_among x ended ≡ true
    pub done_is : done ≡ before ++ ended
    pub in_order : EachBefore (EndsBefore e past) ended
    pub timed : TimedBy (is_left past ended) timers past

  -- it has ended none
  pub begin : (e : Ender C) (t : TreeValue C V) (past : List (TreeOp C V)) → StandsFor t past → IsUnderway e past t.slots t.done t.done t.timers []
  begin e t past s = record {
    lawful = s.contexts.lawful;
    nodes_are = s.contexts.nodes_are;
    are_ended = λ x is. cc;
    down = λ x p k held_is f live is. cc;
    done_is = sym (append-nil t.done);
    in_order = tt;
    timed = record {
      set_are = λ x k at is live ends_at. s.timers.set_are x k at is (sym (and-true (is_none (ending x past))) ∙ live) ends_at;
      are_set = λ at slot is. let it = s.timers.are_set at slot is in
          record { context = it.context; kind = it.kind; slot_is = it.slot_is; is_held = it.is_held; live = and-true (is_none (ending it.context past)) ∙ it.live; ends_at = it.ends_at };
      sets_low = s.timers.sets_low;
    };
  }

  module _ (e : Ender C) (past : List (TreeOp C V)) (slots : List (Option (Node C V))) (done before : List Id) (timers : Timing) (ended : List Id) (u : IsUnderway e past slots done before timers ended) where
    -- a context that is held, as its slot shows it
    pub record IsShown (x : Id) (k : Kind C V) : Type 0 where
      pub node : Node C V
      pub slot_is : slot_of slots x.1 ≡ Some node
      pub number_is : node.number ≡ x.0
      pub kind_is : node.kind ≡ k
      pub ending_is : is_none node.ending ≡ is_left past ended x

    left_is : (x : Id) → is_none (option_map told (so_far e past ended x)) ≡ is_left past ended x
    left_is x = ⊎_elim
        (λ (yes' : is_among x ended ≡ true).
        let n = u.are_ended x yes' in
        let shown : is_none (option_map told (so_far e past ended x)) ≡ false = rw (yes', n.by_chain) refl in
        shown ∙ sym (ap (λ b. is_none (ending x past) && not b) yes' ∙ and-false (is_none (ending x past))))
        (λ (no' : is_among x ended ≡ false). ap (λ b. is_none (option_map told (if b then ends (length past) (chain x past) (op_of e) else ending x past))) no' ∙ told_none (ending x past)
        ∙ sym (ap (λ b. is_none (ending x past) && not b) no' ∙ and-true (is_none (ending x past))))
        (cases_Bool (is_among x ended))

    same_bare : (n m : Node C V) → bare (Some n) ≡ Some m → is_none n.ending ≡ is_none m.ending
    same_bare n m is = ap (λ (k : Node C V). is_none k.ending) (same_Some _ m is)

    pub shown : (x : Id) (k : Kind C V) → held x past ≡ Some k → IsShown x k
    shown x k is =
        let m : Node C V = node_of x (so_far e past ended x) (deadline x past) k in
        let at : bare (node_at slots x) ≡ Some m = u.nodes_are x ∙ rw is refl in
        let n = bare_there (node_at slots x) m at in
        let here = in_slot slots x n.0 n.1 in
        record {
          node = n.0;
          slot_is = here.slot_is;
          number_is = here.number_is;
          kind_is = n.2;
          ending_is = same_bare n.0 m (ap bare (sym n.1) ∙ at) ∙ left_is x;
        }

    -- a node of a slot is that of a context that is held
    pub holds : (k : ℕ) (n : Node C V) → slot_of slots k ≡ Some n → held (n.number, k) past ≡ Some n.kind
    holds k n is = by_kind (held (n.number, k) past) (sym (u.nodes_are (n.number, k)) ∙ ap bare (node_in_slot slots k n is))
      where
        by_kind : (o : Option (Kind C V)) → option_map (node_of (n.number, k) (so_far e past ended (n.number, k)) (deadline (n.number, k) past)) o ≡ bare (Some n) → o ≡ Some n.kind
        by_kind None bad = cc
        by_kind (Some l) same_node = ap (λ (m : Node C V). Some m.kind) (same_Some _ (record n { links = no_links }) same_node)

    -- two that are held have not the same slot
    pub one_slot : (x y : Id) (k l : Kind C V) → held x past ≡ Some k → held y past ≡ Some l → x.1 ≡ y.1 → x ≡ y
    one_slot x y k l hx hy slot =
        let a = shown x k hx in
        let b = shown y l hy in
        let same_node : a.node ≡ b.node = same_Some a.node b.node (sym a.slot_is ∙ ap (λ z. slot_of slots z) slot ∙ b.slot_is) in
        let number : x.0 ≡ y.0 = sym a.number_is ∙ ap (λ (m : Node C V). m.number) same_node ∙ b.number_is in
        ap (λ z. (z, x.1)) number ∙ ap (λ z. (y.0, z)) slot

    pub number_shown : (x : Id) (k : Kind C V) → held x past ≡ Some k → number_in slots x.1 ≡ x.0
    number_shown x k is = let a = shown x k is in rw a.slot_is a.number_is

    -- what a context that is left follows is left
    pub up : (x p : Id) (k : Kind C V) → held x past ≡ Some k → follows k ≡ Some p → is_left past ended x ≡ true → is_left past ended p ≡ true
    up x p k is f left =
        let parts = and_not_parts (is_none (ending x past)) (is_among x ended) left in
        let live : ending x past ≡ None = none_from_is_none (ending x past) parts.0 in
        let p_live : ending p past ≡ None = ⊎_elim
        (λ (none : ending p past ≡ None). none)
        (λ (some : (o : Ended C) × (ending p past ≡ Some o)).
        let bad : is_some (ending x past) ≡ true = child_ends past x p k u.lawful is f (rw some.1 refl) in
        absurd (not_both (is_some (ending x past)) bad (ap is_some live)))
        (option_cases (ending p past)) in
        let p_out : is_among p ended ≡ false = ⊎_elim
        (λ (yes' : is_among p ended ≡ true). absurd (not_both (is_among x ended) (u.down x p k is f live yes') parts.1))
        (λ (no' : is_among p ended ≡ false). no')
        (cases_Bool (is_among p ended)) in
        rw (p_live, p_out) refl

    -- a node of a slot that is not ended is that of a context that is left
    left_at : (x : Id) (k : Kind C V) → held x past ≡ Some k → (n : Node C V) → slot_of slots x.1 ≡ Some n → is_none n.ending ≡ true → is_left past ended x ≡ true
    left_at x k is n slot_is live =
        let a = shown x k is in
        sym a.ending_is ∙ ap (λ (m : Node C V). is_none m.ending) (same_Some a.node n (sym a.slot_is ∙ slot_is)) ∙ live

    -- ---- a walk

    -- the node of a slot that is not ended
    pub live_node : (k : ℕ) → is_live_at slots k ≡ true → (n : Node C V) × (slot_of slots k ≡ Some n) × (is_none n.ending ≡ true)
    live_node k is = by_slot (slot_of slots k) refl is
      where
        by_slot : (o : Option (Node C V)) → slot_of slots k ≡ o → option_map_or (λ (n : Node C V). is_none n.ending) o false ≡ true → (n : Node C V) × (slot_of slots k ≡ Some n) × (is_none n.ending ≡ true)
        by_slot None o_is live = cc
        by_slot (Some n) o_is live = (n, o_is, live)

    -- the node of a slot that ends with its parent
    pub goes_node : (k : ℕ) → is_ended_with slots k ≡ true → (n : Node C V) × (slot_of slots k ≡ Some n) × (is_none n.ending ≡ true) × (is_some (follows n.kind) ≡ true)
    goes_node k is = by_slot (slot_of slots k) refl is
      where
        by_slot : (o : Option (Node C V)) → slot_of slots k ≡ o → option_map_or (λ (n : Node C V). is_none n.ending && is_some (follows n.kind)) o false ≡ true
            → (n : Node C V) × (slot_of slots k ≡ Some n) × (is_none n.ending ≡ true) × (is_some (follows n.kind) ≡ true)
        by_slot None o_is goes = cc
        by_slot (Some n) o_is goes = let parts = and_parts (is_none n.ending) (is_some (follows n.kind)) goes in (n, o_is, parts.0, parts.1)

    -- the node of a slot that has a parent
    pub child_node : (k q : ℕ) → parent_in slots k ≡ Some q → (n : Node C V) × (slot_of slots k ≡ Some n) × ((p : Id) × (parent_of n.kind ≡ Some p) × (p.1 ≡ q))
    child_node k q is = by_slot (slot_of slots k) refl is
      where
        by_parent : (n : Node C V) → slot_of slots k ≡ Some n → (o : Option Id) → parent_of n.kind ≡ o → option_map (λ p. p.1) o ≡ Some q → (n : Node C V) × (slot_of slots k ≡ Some n) × ((p : Id) × (parent_of n.kind ≡ Some p) × (p.1 ≡ q))
        by_parent n slot_is None o_is e' = cc
        by_parent n slot_is (Some p) o_is e' = (n, slot_is, (p, o_is, same_Some p.1 q e'))

        by_slot : (o : Option (Node C V)) → slot_of slots k ≡ o → option_and_then (λ (n : Node C V). option_map (λ p. p.1) (parent_of n.kind)) o ≡ Some q → (n : Node C V) × (slot_of slots k ≡ Some n) × ((p : Id) × (parent_of n.kind ≡ Some p) × (p.1 ≡ q))
        by_slot None o_is e' = cc
        by_slot (Some n) o_is e' = by_parent n o_is (parent_of n.kind) refl e'

    pub id_of : (k : ℕ) (n : Node C V) → slot_of slots k ≡ Some n → id_in slots k ≡ (n.number, k)
    id_of k n is = rw is refl

    pub id_shown : (x : Id) (k : Kind C V) → held x past ≡ Some k → id_in slots x.1 ≡ x
    id_shown x k is = ap (λ z. (z, x.1)) (number_shown x k is)

    -- a context that is held, was left, and has the target on its chain and its line
    pub record IsBelow (t x : Id) : Type 0 where
      pub kind : Kind C V
      pub is_held : held x past ≡ Some kind
      pub left : is_left past ended x ≡ true
      pub on_chain : is_member t (chain x past) ≡ true
      pub on_line : is_member t (line x past) ≡ true
      pub low : t.0 ≤ x.0

    itself : (t : Id) (k : Kind C V) → held t past ≡ Some k → is_left past ended t ≡ true → IsBelow t t
    itself t k is left =
        let b = born past u.lawful t k is in
        record {
          kind = k;
          is_held = is;
          left = left;
          on_chain = rw b.chain_is (or_left _ _ (same_refl t));
          on_line = rw b.line_is (or_left _ _ (same_refl t));
          low = omega arith;
        }

    child_of : (t x p : Id) (k : Kind C V) → held x past ≡ Some k → is_left past ended x ≡ true → follows k ≡ Some p → IsBelow t p → IsBelow t x
    child_of t x p k is left f below =
        let b = born past u.lawful x k is in
        let over = follows_parent k p f in
        let less : p.0 < x.0 = b.parent_low p over in
        let low : t.0 ≤ p.0 = below.low in
        record {
          kind = k;
          is_held = is;
          left = left;
          on_chain = rw (b.chain_is, f) (or_right _ _ below.on_chain);
          on_line = rw (b.line_is, over) (or_right _ _ below.on_line);
          low = omega (arith, less, low);
        }

  module _ (e : Ender C) (past : List (TreeOp C V)) (s : Start C V) (before : List Id) (timers : Timing) (ended : List Id) (u : IsUnderway e past s.slots s.done before timers ended)
      (new : List (Option (Node C V))) (done2 : List Id) (timers2 : Timing) (keys visited : List ℕ) (w : IsWalk s new done2 timers2 keys visited keys 0 0) where
    -- the target of the walk, and those that it ended
    abbrev target : Id
    target = id_in s.slots s.target

    abbrev ids : List Id
    ids = map (id_in s.slots) keys

    -- what the walk ended was left, and has the target on its chain
    below : (n k : ℕ) → number_in s.slots k < n → is_in k keys ≡ true → IsBelow e past s.slots s.done before timers ended u target (id_in s.slots k)
    below zero k lt is = absurd (omega (arith, lt))
    below (suc n) k lt is = ⊎_elim
        (λ (first : k ≡ s.target).
        let l = live_node e past s.slots s.done before timers ended u s.target w.target_live in
        let id_is = id_of e past s.slots s.done before timers ended u s.target l.0 l.1 in
        let held_is = holds e past s.slots s.done before timers ended u s.target l.0 l.1 in
        let left = left_at e past s.slots s.done before timers ended u (l.0.number, s.target) l.0.kind held_is l.0 l.1 l.2 in
        subst (λ z. IsBelow e past s.slots s.done before timers ended u target (id_in s.slots z)) (sym first)
        (itself e past s.slots s.done before timers ended u target l.0.kind (ap (λ z. held z past) id_is ∙ held_is) (ap (λ z. is_left past ended z) id_is ∙ left)))
        (λ (r : IsReachedBy s keys k).
        let g = goes_node e past s.slots s.done before timers ended u k r.ends in
        let x : Id = (g.0.number, k) in
        let id_is = id_of e past s.slots s.done before timers ended u k g.0 g.1 in
        let held_is = holds e past s.slots s.done before timers ended u k g.0 g.1 in
        let left = left_at e past s.slots s.done before timers ended u x g.0.kind held_is g.0 g.1 g.2 in
        let f = is_some_of (follows g.0.kind) g.3 in
        let over = follows_parent g.0.kind f.0 f.1 in
        let b = born past u.lawful x g.0.kind held_is in
        let ph = b.parent_held f.0 over in
        let less : f.0.0 < x.0 = b.parent_low f.0 over in
        let c = child_node e past s.slots s.done before timers ended u k r.parent r.derives in
        let same_node : c.0 ≡ g.0 = same_Some c.0 g.0 (sym c.1 ∙ g.1) in
        let same_parent : c.2.0 ≡ f.0 = same_Some c.2.0 f.0 (sym c.2.1 ∙ ap (λ (m : Node C V). parent_of m.kind) same_node ∙ over) in
        let slot : f.0.1 ≡ r.parent = ap (λ z. z.1) (sym same_parent) ∙ c.2.2 in
        let number : number_in s.slots f.0.1 ≡ f.0.0 = number_shown e past s.slots s.done before timers ended u f.0 ph.0 ph.1 in
        let own : number_in s.slots k ≡ x.0 = ap (λ z. z.0) id_is in
        let up_there = below n f.0.1 (omega (arith, lt, less, number, own)) (rw slot r.parent_ended) in
        let parent_is : id_in s.slots f.0.1 ≡ f.0 = id_shown e past s.slots s.done before timers ended u f.0 ph.0 ph.1 in
        subst (λ z. IsBelow e past s.slots s.done before timers ended u target z) (sym id_is)
        (child_of e past s.slots s.done before timers ended u target x f.0 g.0.kind held_is left f.1 (subst (λ z. IsBelow e past s.slots s.done before timers ended u target z) parent_is up_there)))
        (w.reached k is)

    pub is_below : (k : ℕ) → is_in k keys ≡ true → IsBelow e past s.slots s.done before timers ended u target (id_in s.slots k)
    is_below k is = below (number_in s.slots k + 1) k (omega arith) is

    target_in : is_in s.target keys ≡ true
    target_in = rw w.begins.1 (or_left _ _ (eq-eqb s.target s.target refl))

    -- the walk ended each that was left and has the target on its chain
    all_below : (n : ℕ) (x : Id) (k : Kind C V) → x.0 < n → held x past ≡ Some k → is_left past ended x ≡ true → is_member target (chain x past) ≡ true → is_in x.1 keys ≡ true
    all_below zero x k lt is left on = absurd (omega (arith, lt))
    all_below (suc n) x k lt is left on =
        let b = born past u.lawful x k is in
        ⊎_elim
        (λ (yes' : same x target ≡ true). let same_key : x.1 ≡ s.target = ap (λ z. z.1) (same_true x target yes') in rw same_key target_in)
        (λ (no' : same x target ≡ false). ⊎_elim
        (λ (none : follows k ≡ None). let bad : false ≡ true = rw (b.chain_is, no', none) at on in cc)
        (λ (some : (p : Id) × (follows k ≡ Some p)).
        let p = some.0 in
        let over = follows_parent k p some.1 in
        let ph = b.parent_held p over in
        let less : p.0 < x.0 = b.parent_low p over in
        let on_p : is_member target (chain p past) ≡ true = rw (b.chain_is, no', some.1) at on in
        let p_in = all_below n p ph.0 (omega (arith, lt, less)) ph.1 (up e past s.slots s.done before timers ended u x p k is some.1 left) on_p in
        let a = shown e past s.slots s.done before timers ended u x k is in
        let derives : parent_in s.slots x.1 ≡ Some p.1 = rw (a.slot_is, a.kind_is, over) refl in
        let goes : is_ended_with s.slots x.1 ≡ true = rw (a.slot_is, a.kind_is, some.1, a.ending_is, left) refl in
        w.closed p.1 x.1 p_in derives goes)
        (option_cases (follows k)))
        (cases_Bool (same x target))

    pub takes_all : (x : Id) (k : Kind C V) → held x past ≡ Some k → is_left past ended x ≡ true → is_member target (chain x past) ≡ true → is_in x.1 keys ≡ true
    takes_all x k = all_below (x.0 + 1) x k (omega arith)
