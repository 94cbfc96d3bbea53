-- A node without its links.
use Rattle.std.proofs.Common.{◌≡◌, refl, sym, ap, ◌∙◌, ℕ, List, Option, Some, None, true, false, ⊎_elim, option_map}
use Rattle.std.specs.Prelude.{◌==◌, is_some, option_and_then}
use Rattle.std.proofs.lemmas.Bool.{cases_Bool}
use Rattle.std.proofs.lemmas.Option.{same_Some}
use Rattle.std.specs.Option.{option_map_or}
use Rattle.context_tree.specs.declared.node.Node.{Node}
use Rattle.context_tree.specs.Context.{parent_of}
use Rattle.context_tree.specs.Links.{bare, slot_of, parent_in, number_in}
use Rattle.context_tree.specs.Tree.{numbered}

module _ {C V : Type 0} where
  pub bare_numbered : (n : ℕ) (o : Option (Node C V)) → bare (numbered n o) ≡ numbered n (bare o)
  bare_numbered n None = refl
  bare_numbered n (Some m) = ⊎_elim
      (λ (yes' : (m.number == n) ≡ true). rw yes' refl)
      (λ (no' : (m.number == n) ≡ false). rw no' refl)
      (cases_Bool (m.number == n))

  pub bare_kind : (o : Option (Node C V)) → option_map (λ n. n.kind) (bare o) ≡ option_map (λ n. n.kind) o
  bare_kind None = refl
  bare_kind (Some n) = refl

  pub bare_ending : (o : Option (Node C V)) → option_and_then (λ n. n.ending) (bare o) ≡ option_and_then (λ n. n.ending) o
  bare_ending None = refl
  bare_ending (Some n) = refl

  pub bare_deadline : (o : Option (Node C V)) → option_and_then (λ n. n.deadline) (bare o) ≡ option_and_then (λ n. n.deadline) o
  bare_deadline None = refl
  bare_deadline (Some n) = refl

  pub bare_some : (o : Option (Node C V)) → is_some (bare o) ≡ is_some o
  bare_some None = refl
  bare_some (Some n) = refl

  -- a node that is there, where it is without its links
  pub bare_there : (o : Option (Node C V)) (m : Node C V) → bare o ≡ Some m → (n : Node C V) × (o ≡ Some n) × (n.kind ≡ m.kind)
  bare_there None m is = cc
  bare_there (Some n) m is = (n, refl, ap (λ (k : Node C V). k.kind) (same_Some _ m is))

  -- slots that hold the same but for links
  pub same_there : (a b : Option (Node C V)) → bare a ≡ bare b → is_some a ≡ is_some b
  same_there a b is = sym (bare_some a) ∙ ap is_some is ∙ bare_some b

  parent_of_bare : (o : Option (Node C V)) → option_and_then (λ n. option_map (λ p. p.1) (parent_of n.kind)) (bare o) ≡ option_and_then (λ n. option_map (λ p. p.1) (parent_of n.kind)) o
  parent_of_bare None = refl
  parent_of_bare (Some n) = refl

  number_of_bare : (o : Option (Node C V)) → option_map_or (λ n. n.number) (bare o) 0 ≡ option_map_or (λ n. n.number) o 0
  number_of_bare None = refl
  number_of_bare (Some n) = refl

  pub same_parent : (old new : List (Option (Node C V))) (k : ℕ) → bare (slot_of new k) ≡ bare (slot_of old k) → parent_in new k ≡ parent_in old k
  same_parent old new k is = sym (parent_of_bare (slot_of new k)) ∙ ap (option_and_then (λ n. option_map (λ p. p.1) (parent_of n.kind))) is ∙ parent_of_bare (slot_of old k)

  pub same_number : (old new : List (Option (Node C V))) (k : ℕ) → bare (slot_of new k) ≡ bare (slot_of old k) → number_in new k ≡ number_in old k
  same_number old new k is = sym (number_of_bare (slot_of new k)) ∙ ap (λ o. option_map_or (λ n. n.number) o 0) is ∙ number_of_bare (slot_of old k)
