-- What a tree knows of the contexts after each call.
use Rattle.std.proofs.Common.{◌≡◌, refl, sym, ap, ◌∙◌, arith, rules, ℕ, ◌+◌, ◌^◌, ◌<◌, List, [], ◌∷◌, ◌++◌, length, Option, Some, None, Bool, true, false, ⊎_elim, option_map}
use Rattle.std.specs.Prelude.{◌&&◌, ◌||◌, ◌==◌, if◌then◌else◌, is_some, is_none, option_and_then}
use Rattle.std.specs.Option.{option_or, option_map_or}
use Rattle.std.proofs.lemmas.Bool.{cases_Bool, lt-leb, eqb-true}
use Rattle.std.proofs.Math.Bool.{or-false}
use Rattle.slab.specs.Slab.{Slab, get}
use Rattle.context_tree.specs.declared.node.Ending.{Ending}
use Rattle.context_tree.specs.declared.node.Due.{Due}
use Rattle.context_tree.specs.declared.node.Kind.{Kind}
use Rattle.context_tree.specs.declared.node.Kind.TheVariants.{Background, Cancel, Deadline, Value, WithoutCancel}
use Rattle.context_tree.specs.declared.node.Node.{Node}
use Rattle.context_tree.specs.Context.{Id, same, TreeOp, Makes, Ended, makes, held, chain, parent_of, follows, ending, deadline, inherited, expiry, own_due, own_deadline, sooner, least}
use Rattle.context_tree.specs.Links.{no_links, bare, slot_of, KeepsOthers}
use Rattle.context_tree.specs.Tree.{TreeValue, numbered, node_at, ending_in, deadline_in, told, is_among, ParentHeld, Keeps, KnowsContexts, make_fault}
use Rattle.context_tree.proofs.Lineage.{same_true, same_refl}
use Rattle.context_tree.proofs.Bare.{bare_numbered, bare_kind, bare_ending, bare_deadline, bare_some}
use Rattle.context_tree.proofs.Marking.{among_push}

pub and_left : (a b : Bool) → (a && b) ≡ true → a ≡ true
and_left true b is = refl
and_left false b is = cc

pub is_some_of : {A : Type 0} (o : Option A) → is_some o ≡ true → (a : A) × (o ≡ Some a)
is_some_of None is = cc
is_some_of (Some a) is = (a, refl)

pub same_false_sym : (a b : Id) → same a b ≡ false → same b a ≡ false
same_false_sym a b is = ⊎_elim
    (λ (yes' : same b a ≡ true). let e : b ≡ a = same_true b a yes' in let bad : same a b ≡ true = rw e (same_refl a) in let no' : true ≡ false = sym bad ∙ is in cc)
    (λ (no' : same b a ≡ false). no')
    (cases_Bool (same b a))

pub among_end : (x id : Id) (ids : List Id) (b : Bool) → same x id ≡ b → is_among x (ids ++ id ∷ []) ≡ (is_among x ids || b)
among_end x id ids b is = among_push x id ids ∙ rw is (ap (λ r. is_among x ids || r) (or-false b))

told_or : {C : Type 0} (a : Option (Ended C)) (b : Option (Due C)) (turn : ℕ) (id : Id)
    → option_or (option_map told a) (option_map (λ d. told (expiry 0 d)) b) ≡ option_map told (option_or (option_map (inherited turn id) a) (option_map (expiry turn) b))
told_or None None turn id = refl
told_or None (Some d) turn id = refl
told_or (Some e) b turn id = refl

pub told_none : {C : Type 0} (e : Option (Ended C)) → is_none (option_map told e) ≡ is_none e
told_none None = refl
told_none (Some e) = refl

module _ {C V : Type 0} where
  kind_of_context : (o : Option (Kind C V)) (f : Kind C V → Node C V) → ((k : Kind C V) → (f k).kind ≡ k) → option_map (λ n. n.kind) (option_map f o) ≡ o
  kind_of_context None f is = refl
  kind_of_context (Some k) f is = ap Some (is k)

  pub keeps_of : (t : TreeValue C V) (past : List (TreeOp C V)) → KnowsContexts t past → Keeps t.slots past
  keeps_of t past s = record {
    lawful = s.lawful;
    kinds_are = λ x. sym (bare_kind (node_at t.slots x)) ∙ ap (option_map (λ n. n.kind)) (s.nodes_are x) ∙ kind_of_context (held x past) _ (λ k. refl);
  }

  -- the node that a context of this kind has
  abbrev pub node_of : Id → Option (Ended C) → Option ℕ → Kind C V → Node C V
  node_of x e d k = record { number = x.0; kind = k; ending = option_map told e; deadline = d; links = no_links }

  ending_of_node : (o : Option (Kind C V)) (x : Id) (e : Option (Ended C)) (d : Option ℕ) → is_some o ≡ true → option_and_then (λ (n : Node C V). n.ending) (option_map (node_of x e d) o) ≡ option_map told e
  ending_of_node None x e d is = cc
  ending_of_node (Some k) x e d is = refl

  -- ---- new trees and new contexts

  pub new_known : KnowsContexts {C = C} {V = V} (record { slots = []; done = []; timers = record { entries = []; sets = 0 }; made = 0; visits = 0 }) []
  new_known = record { lawful = tt; made_is = refl; nodes_are = λ x. refl }

  -- the ending and the deadline of a node that is there are those of its context
  ending_there : (t : TreeValue C V) (past : List (TreeOp C V)) → KnowsContexts t past → (o : Option Id) → ParentHeld o past
      → option_and_then (λ p. ending_in t.slots p) o ≡ option_map told (option_and_then (λ p. ending p past) o)
  ending_there t past s None held_is = refl
  ending_there t past s (Some p) held_is =
      sym (bare_ending (node_at t.slots p)) ∙ ap (option_and_then (λ n. n.ending)) (s.nodes_are p) ∙ ending_of_node (held p past) p (ending p past) (deadline p past) (rw held_is.1 refl)

  deadline_of_node : (o : Option (Kind C V)) (x : Id) (e : Option (Ended C)) (d : Option ℕ) → is_some o ≡ true → option_and_then (λ (n : Node C V). n.deadline) (option_map (node_of x e d) o) ≡ d
  deadline_of_node None x e d is = cc
  deadline_of_node (Some k) x e d is = refl

  pub deadline_there : (t : TreeValue C V) (past : List (TreeOp C V)) → KnowsContexts t past → (o : Option Id) → ParentHeld o past
      → option_and_then (λ p. deadline_in t.slots p) o ≡ least (option_map_or (λ p. chain p past) o [])
  deadline_there t past s None held_is = refl
  deadline_there t past s (Some p) held_is =
      sym (bare_deadline (node_at t.slots p)) ∙ ap (option_and_then (λ n. n.deadline)) (s.nodes_are p) ∙ deadline_of_node (held p past) p (ending p past) (deadline p past) (rw held_is.1 refl)

  pub follows_held : (kind : Kind C V) (past : List (TreeOp C V)) → ParentHeld (parent_of kind) past → ParentHeld (follows kind) past
  follows_held Background past h = tt
  follows_held (Cancel parent) past h = h
  follows_held (Deadline parent at cause) past h = h
  follows_held (Value parent key value) past h = h
  follows_held (WithoutCancel parent) past h = tt

  -- what an id finds after a node was put in a vacant slot
  node_put : (old new : ℕ → Option (Node C V)) (id : Id) (n : Node C V) → n.number ≡ id.0 → old id.1 ≡ None
      → new id.1 ≡ Some n → ((k : ℕ) → (k ≡ id.1 → ⊥) → new k ≡ old k)
      → (x : Id) → numbered x.0 (new x.1) ≡ (if same id x then Some n else numbered x.0 (old x.1))
  node_put old new id n number vacant put others x = ⊎_elim
      (λ (slot : (id.1 == x.1) ≡ true).
      let e : id.1 ≡ x.1 = eqb-true _ _ slot in
      let new_is : new x.1 ≡ Some n = rw (← e) put in
      let old_is : old x.1 ≡ None = rw (← e) vacant in
      ⊎_elim
      (λ (num : (id.0 == x.0) ≡ true). let ne : (n.number == x.0) ≡ true = rw number num in rw (new_is, num, slot, ne) refl)
      (λ (num : (id.0 == x.0) ≡ false). let ne : (n.number == x.0) ≡ false = rw number num in rw (new_is, num, ne, old_is) refl)
      (cases_Bool (id.0 == x.0)))
      (λ (slot : (id.1 == x.1) ≡ false).
      let other : x.1 ≡ id.1 → ⊥ = λ e. let same_slot : (id.1 == x.1) ≡ true = rw e (grind (arith, rules)) in let bad : true ≡ false = sym same_slot ∙ slot in cc in
      let differ : same id x ≡ false = ⊎_elim (λ (a : (id.0 == x.0) ≡ true). rw (a, slot) refl) (λ (a : (id.0 == x.0) ≡ false). rw a refl) (cases_Bool (id.0 == x.0)) in
      rw (differ, others x.1 other) refl)
      (cases_Bool (id.1 == x.1))

  pub made_known : (t u : TreeValue C V) (past : List (TreeOp C V)) (id : Id) (kind : Kind C V) (now : ℕ) (e : Option (Ending C)) (d : Option ℕ)
      → KnowsContexts t past → ParentHeld (parent_of kind) past → id.0 ≡ t.made
      → slot_of t.slots id.1 ≡ None → bare (slot_of u.slots id.1) ≡ Some (record { number = id.0; kind = kind; ending = e; deadline = d; links = no_links })
      → KeepsOthers t.slots u.slots id.1
      → e ≡ option_or (option_and_then (λ p. ending_in t.slots p) (follows kind)) (option_map (λ x. told (expiry 0 x)) (own_due now (id, kind)))
      → d ≡ sooner (own_deadline kind) (option_and_then (λ p. deadline_in t.slots p) (follows kind))
      → u.made ≡ t.made + 1
      → KnowsContexts u (Makes id kind now ∷ past)
  made_known t u past id kind now e d s parent number vacant put others e_is d_is made_is =
      let n : Node C V = record { number = id.0; kind = kind; ending = e; deadline = d; links = no_links } in
      let ended = option_or (option_map (inherited (length past) id) (option_and_then (λ p. ending p past) (follows kind))) (option_map (expiry (length past)) (own_due now (id, kind))) in
      let e_told : e ≡ option_map told ended =
      e_is ∙ rw (ending_there t past s (follows kind) (follows_held kind past parent)) (told_or (option_and_then (λ p. ending p past) (follows kind)) (own_due now (id, kind)) (length past) id) in
      let d_told : d ≡ sooner (own_deadline kind) (least (option_map_or (λ p. chain p past) (follows kind) [])) = d_is ∙ rw (deadline_there t past s (follows kind) (follows_held kind past parent)) refl in
      record {
        lawful = (number ∙ s.made_is, parent, s.lawful);
        made_is = rw (made_is, s.made_is) refl;
        nodes_are = λ x. bare_numbered x.0 (slot_of u.slots x.1) ∙ node_put (λ k. bare (slot_of t.slots k)) (λ k. bare (slot_of u.slots k)) id n refl (ap bare vacant) put others x ∙ ⊎_elim
            (λ (yes' : same id x ≡ true). let same_id : id ≡ x = same_true id x yes' in rw (← same_id) (rw (same_refl id, e_told, d_told) refl))
            (λ (no' : same id x ≡ false). rw no' (sym (bare_numbered x.0 (slot_of t.slots x.1)) ∙ s.nodes_are x))
            (cases_Bool (same id x));
      }

  known_held : (t : TreeValue C V) (past : List (TreeOp C V)) → KnowsContexts t past → (p : Id) → is_some (node_at t.slots p) ≡ is_some (held p past)
  known_held t past s p = sym (bare_some (node_at t.slots p)) ∙ ap is_some (s.nodes_are p) ∙ some_map (held p past)
    where
      some_map : (o : Option (Kind C V)) → is_some (option_map (node_of p (ending p past) (deadline p past)) o) ≡ is_some o
      some_map None = refl
      some_map (Some k) = refl

  pub known_parent : (t : TreeValue C V) (past : List (TreeOp C V)) → KnowsContexts t past → (o : Option Id) → option_map_or (λ p. is_some (node_at t.slots p)) o true ≡ option_map_or (λ p. is_some (held p past)) o true
  known_parent t past s None = refl
  known_parent t past s (Some p) = known_held t past s p

  pub parent_held : (past : List (TreeOp C V)) (o : Option Id) → option_map_or (λ p. is_some (held p past)) o true ≡ true → ParentHeld o past
  parent_held past None is = tt
  parent_held past (Some p) is = is_some_of (held p past) is

  pub no_fault : (past : List (TreeOp C V)) (o : Option Id) → option_map_or (λ p. is_some (held p past)) o true ≡ true → makes past < 2 ^ 62 → make_fault o past ≡ None
  no_fault past o known few = rw (known, lt-leb (2 ^ 62) (makes past) few) refl

  -- The slab made room, and then the node was put in its vacant slot.
  pub put_known : (t u : TreeValue C V) (past : List (TreeOp C V)) → KnowsContexts t past → (roomy put : Slab (Node C V)) (slot key : ℕ) (kind : Kind C V) (now : ℕ) (e : Option (Ending C)) (d : Option ℕ)
      → roomy.slots ≡ t.slots → key ≡ slot → get roomy slot ≡ None
      → bare (slot_of put.slots key) ≡ Some (record { number = t.made; kind = kind; ending = e; deadline = d; links = no_links }) → KeepsOthers roomy.slots put.slots key
      → ParentHeld (parent_of kind) past
      → e ≡ option_or (option_and_then (λ p. ending_in roomy.slots p) (follows kind)) (option_map (λ x. told (expiry 0 x)) (own_due now ((t.made, slot), kind)))
      → d ≡ sooner (own_deadline kind) (option_and_then (λ p. deadline_in roomy.slots p) (follows kind))
      → u.slots ≡ put.slots → u.made ≡ t.made + 1
      → KnowsContexts u (Makes (t.made, slot) kind now ∷ past)
  put_known t u past s roomy put slot key kind now e d slots_are key_is vacant here others parent e_is d_is put_is made_is =
      made_known (record { slots = roomy.slots; done = t.done; timers = t.timers; made = t.made; visits = t.visits }) u past (t.made, slot) kind now e d (rw slots_are s) parent refl vacant
      (rw (put_is, ← key_is) here)
      (rw (put_is, ← key_is) others)
      e_is d_is made_is

  -- ---- links change

  -- the node of an id, where only links changed
  pub same_at : (old new : List (Option (Node C V))) → ((k : ℕ) → bare (slot_of new k) ≡ bare (slot_of old k)) → (x : Id) → bare (node_at new x) ≡ bare (node_at old x)
  same_at old new same_slots x = bare_numbered x.0 (slot_of new x.1) ∙ ap (numbered x.0) (same_slots x.1) ∙ sym (bare_numbered x.0 (slot_of old x.1))
