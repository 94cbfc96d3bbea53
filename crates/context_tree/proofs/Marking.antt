-- The node in the slot of an id.
use Rattle.std.proofs.Common.{◌≡◌, refl, ap, arith, ℕ, zero, suc, ◌<◌, ◌≤◌, List, [], ◌∷◌, ◌++◌, length, Option, Some, None, true, false, ⊎_elim, slice_index_or}
use Rattle.std.specs.Prelude.{◌||◌, ◌==◌}
use Rattle.std.proofs.lemmas.Bool.{cases_Bool, cases_lt, eq-eqb, eqb-true}
use Rattle.std.proofs.lemmas.List.Folds.{list_any-append}
use Rattle.std.proofs.lemmas.Option.{same_Some}
use Rattle.context_tree.specs.declared.node.Node.{Node}
use Rattle.context_tree.specs.Context.{Id, same}
use Rattle.context_tree.specs.Tree.{numbered, node_at, is_among}

pub among_push : (x id : Id) (ids : List Id) → is_among x (ids ++ id ∷ []) ≡ (is_among x ids || (same x id || false))
among_push x id ids = list_any-append (same x) ids (id ∷ [])

module _ {C V : Type 0} where
  past_end : (slots : List (Option (Node C V))) (i : ℕ) → length slots ≤ i → slice_index_or slots i None ≡ None
  past_end [] i le = refl
  past_end (s ∷ slots) zero le = absurd (omega (arith, le))
  past_end (s ∷ slots) (suc i) le = past_end slots i (omega (arith, le))

  -- the slot of a node has it, and the node has the number of the id
  pub record InSlot (slots : List (Option (Node C V))) (x : Id) (n : Node C V) : Type 0 where
    pub slot_is : slice_index_or slots x.1 None ≡ Some n
    pub number_is : n.number ≡ x.0

  in_slot_of : (o : Option (Node C V)) (k : ℕ) (n : Node C V) → numbered k o ≡ Some n → (o ≡ Some n) × (n.number ≡ k)
  in_slot_of None k n is = cc
  in_slot_of (Some m) k n is = ⊎_elim
      (λ (yes' : (m.number == k) ≡ true). let e : m ≡ n = same_Some m n (rw yes' at is) in (ap Some e, rw (← e) (eqb-true _ _ yes')))
      (λ (no' : (m.number == k) ≡ false). let bad : None ≡ Some n = rw no' at is in cc)
      (cases_Bool (m.number == k))

  pub in_slot : (slots : List (Option (Node C V))) (x : Id) (n : Node C V) → node_at slots x ≡ Some n → InSlot slots x n
  in_slot slots x n is = let p = in_slot_of (slice_index_or slots x.1 None) x.0 n is in record { slot_is = p.0; number_is = p.1 }

  pub in_range : (slots : List (Option (Node C V))) (i : ℕ) (n : Node C V) → slice_index_or slots i None ≡ Some n → i < length slots
  in_range slots i n is = ⊎_elim
      (λ (lt : i < length slots). lt)
      (λ (le : length slots ≤ i). let bad : None ≡ Some n = rw (past_end slots i le) at is in cc)
      (cases_lt i (length slots))

  -- the node in a slot is that of the id with its number
  pub node_in_slot : (slots : List (Option (Node C V))) (k : ℕ) (n : Node C V) → slice_index_or slots k None ≡ Some n → node_at slots (n.number, k) ≡ Some n
  node_in_slot slots k n is = rw (is, eq-eqb n.number n.number refl) refl
