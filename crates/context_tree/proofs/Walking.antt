-- A walk from a context to its parent, and so on, as the slots keep them.
use Rattle.std.proofs.Common.{◌≡◌, refl, sym, ap, ◌∙◌, arith, ℕ, ◌+◌, ◌≤◌, List, [], Option, Some, None, option_map}
use Rattle.std.specs.Option.{option_map_or, option_or}
use Rattle.context_tree.specs.declared.node.Node.{Node}
use Rattle.context_tree.specs.Context.{Id, TreeOp, held, line, parent_of, own_value, nearest}
use Rattle.context_tree.specs.Tree.{node_at, Keeps, IsKept}
use Rattle.context_tree.proofs.Lineage.{born, Born}

-- more than any number that is still to come
abbrev pub bound : Option Id → ℕ
bound None = 0
bound (Some x) = x.0 + 1

module _ {C V : Type 0} where
  -- the next of a walk, if there is one, is kept
  abbrev pub NextKept : List (Option (Node C V)) → Option Id → Type 0
  NextKept slots None = Unit {0}
  NextKept slots (Some x) = IsKept slots x

  kind_held : (slots : List (Option (Node C V))) (past : List (TreeOp C V)) → Keeps slots past → (x : Id) (n : Node C V) → node_at slots x ≡ Some n → held x past ≡ Some n.kind
  kind_held slots past keeps x n is = let e : option_map (λ m. m.kind) (node_at slots x) ≡ held x past = keeps.kinds_are x in sym (rw is at e)

  pub born_at : (slots : List (Option (Node C V))) (past : List (TreeOp C V)) → Keeps slots past → (x : Id) (n : Node C V) → node_at slots x ≡ Some n → Born x n.kind past
  born_at slots past keeps x n is = born past keeps.lawful x n.kind (kind_held slots past keeps x n is)

  pub kept_parent : (slots : List (Option (Node C V))) (x : Id) (n : Node C V) → IsKept slots x → node_at slots x ≡ Some n → (o : Option Id) → ((p : Id) → o ≡ Some p → parent_of n.kind ≡ Some p) → NextKept slots o × (bound o ≤ x.0)
  kept_parent slots x n kept is None sub = (tt, omega arith)
  kept_parent slots x n kept is (Some p) sub =
      let b = born_at slots kept.past kept.keeps x n is in
      let here = b.parent_held p (sub p refl) in
      (record { past = kept.past; keeps = kept.keeps; kind = here.0; is_held = here.1 }, let low = b.parent_low p (sub p refl) in omega (arith, low))

  -- ---- what is found on the way

  abbrev pub values_on : ℕ → List (TreeOp C V) → Option Id → Option V
  values_on k past o = option_map_or (λ p. nearest k (line p past)) o None

  nearest_next : (k : ℕ) (past : List (TreeOp C V)) (o : Option Id) → nearest k (option_map_or (λ p. line p past) o []) ≡ values_on k past o
  nearest_next k past None = refl
  nearest_next k past (Some p) = refl

  pub value_step : (slots : List (Option (Node C V))) (past : List (TreeOp C V)) → Keeps slots past → (x : Id) (n : Node C V) → node_at slots x ≡ Some n → (k : ℕ)
      → nearest k (line x past) ≡ option_or (own_value k n.kind) (values_on k past (parent_of n.kind))
  value_step slots past keeps x n is k = let b = born_at slots past keeps x n is in rw (b.line_is) (ap (option_or (own_value k n.kind)) (nearest_next k past (parent_of n.kind)))

  pub value_goes_on : (slots : List (Option (Node C V))) (past : List (TreeOp C V)) → Keeps slots past → (x : Id) (n : Node C V) → node_at slots x ≡ Some n → (k : ℕ)
      → own_value k n.kind ≡ None → nearest k (line x past) ≡ values_on k past (parent_of n.kind)
  value_goes_on slots past keeps x n is k no' = value_step slots past keeps x n is k ∙ rw no' refl

  pub value_found : (slots : List (Option (Node C V))) (past : List (TreeOp C V)) → Keeps slots past → (x : Id) (n : Node C V) → node_at slots x ≡ Some n → (k : ℕ) (v : V)
      → own_value k n.kind ≡ Some v → nearest k (line x past) ≡ Some v
  value_found slots past keeps x n is k v yes' = value_step slots past keeps x n is k ∙ rw yes' refl
