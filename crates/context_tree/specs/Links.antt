-- How the nodes of a tree are linked, by the keys of their slots.
use Rattle.std.specs.Prelude.{◌≡◌, ◌<◌, ℕ, zero, suc, Bool, true, false, ◌==◌, is_some, if◌then◌else◌, List, slice_index_or, Option, Some, None, option_map, option_and_then}
use Rattle.std.specs.Option.{option_map_or}
use Rattle.context_tree.specs.declared.node.Links.{Links}
use Rattle.context_tree.specs.declared.node.Node.{Node}
use Rattle.context_tree.specs.Context.{parent_of}

-- the links of a node that stands alone
abbrev pub no_links : Links
no_links = record { first = None; last = None; prev = None; next = None }

-- Two nodes derive from the same one; the second was made after the first, and names it as the one before.
pub record AreNext (up : ℕ → Option ℕ) (number : ℕ → ℕ) (links : ℕ → Links) (k j : ℕ) : Type 0 where
  pub parent : ℕ
  pub first_up : up k ≡ Some parent
  pub second_up : up j ≡ Some parent
  pub back : (links j).prev ≡ Some k
  pub rises : number k < number j

-- The links are those of a tree in which each key has this parent and this number: a node names as its first and its
-- last child the ends of the list of those that derive from it, and as its neighbours those next to it in that list,
-- which goes by creation.
pub record AreLinked (up : ℕ → Option ℕ) (number : ℕ → ℕ) (links : ℕ → Links) : Type 0 where
  pub first_is : (k j : ℕ) → (links k).first ≡ Some j → (up j ≡ Some k) × ((links j).prev ≡ None)
  pub last_is : (k j : ℕ) → (links k).last ≡ Some j → (up j ≡ Some k) × ((links j).next ≡ None)
  pub next_is : (k j : ℕ) → (links k).next ≡ Some j → AreNext up number links k j
  pub prev_is : (k j : ℕ) → (links k).prev ≡ Some j → (links j).next ≡ Some k
  pub begins : (k p : ℕ) → up k ≡ Some p → (links k).prev ≡ None → (links p).first ≡ Some k
  pub ends : (k p : ℕ) → up k ≡ Some p → (links k).next ≡ None → (links p).last ≡ Some k
  pub both : (k j : ℕ) → (links k).first ≡ Some j → is_some (links k).last ≡ true

-- the child at a place, counted from the first, by the links
abbrev pub child_at : (ℕ → Links) → ℕ → ℕ → Option ℕ
child_at links k zero = (links k).first
child_at links k (suc i) = option_and_then (λ j. (links j).next) (child_at links k i)

-- the key is this one, if there is one
abbrev pub is_at : Option ℕ → ℕ → Bool
is_at o k = option_map_or (λ a. a == k) o false

-- this link, but at that key another one
abbrev pub put : Option ℕ → Option ℕ → ℕ → Option ℕ → Option ℕ
put at new k old = if is_at at k then new else old

-- the link as it was
abbrev pub keep : ℕ → Option ℕ → Option ℕ
keep k old = old

-- this key, where there is no such link
abbrev pub where_none : Option ℕ → Option ℕ → Option ℕ
where_none None at = at
where_none (Some link) at = None

module _ {C V : Type 0} where
  -- the node in a slot
  abbrev pub slot_of : List (Option (Node C V)) → ℕ → Option (Node C V)
  slot_of slots k = slice_index_or slots k None

  -- the key of the parent of the node at a key
  abbrev pub parent_in : List (Option (Node C V)) → ℕ → Option ℕ
  parent_in slots k = option_and_then (λ n. option_map (λ p. p.1) (parent_of n.kind)) (slot_of slots k)

  -- the number of the node at a key
  abbrev pub number_in : List (Option (Node C V)) → ℕ → ℕ
  number_in slots k = option_map_or (λ n. n.number) (slot_of slots k) 0

  -- the links of the node at a key
  abbrev pub links_in : List (Option (Node C V)) → ℕ → Links
  links_in slots k = option_map_or (λ n. n.links) (slot_of slots k) no_links

  -- the nodes of these slots are linked as they derive from each other
  abbrev pub IsLinked : List (Option (Node C V)) → Type 0
  IsLinked slots = AreLinked (parent_in slots) (number_in slots) (links_in slots)

  -- the node without its links
  abbrev pub bare : Option (Node C V) → Option (Node C V)
  bare o = option_map (λ (n : Node C V). record n { links = no_links }) o

  -- only links change, each as its function says
  pub record Relinks (old new : List (Option (Node C V))) (first last prev next : ℕ → Option ℕ → Option ℕ) : Type 0 where
    pub nodes : (k : ℕ) → bare (slot_of new k) ≡ bare (slot_of old k)
    pub first_is : (k : ℕ) → (links_in new k).first ≡ first k (links_in old k).first
    pub last_is : (k : ℕ) → (links_in new k).last ≡ last k (links_in old k).last
    pub prev_is : (k : ℕ) → (links_in new k).prev ≡ prev k (links_in old k).prev
    pub next_is : (k : ℕ) → (links_in new k).next ≡ next k (links_in old k).next

  -- the key, if there is one, has a node
  abbrev pub IsThere : List (Option (Node C V)) → Option ℕ → Type 0
  IsThere slots at = (k : ℕ) → at ≡ Some k → is_some (slot_of slots k) ≡ true

  -- each that derives from one has a lower number than this, and the one that it derives from is there
  pub record ArePlaced (slots : List (Option (Node C V))) (made : ℕ) : Type 0 where
    pub newest : (k p : ℕ) → parent_in slots k ≡ Some p → number_in slots k < made
    pub parents : (k p : ℕ) → parent_in slots k ≡ Some p → is_some (slot_of slots p) ≡ true

  -- but for its links, each other slot has what it had
  abbrev pub KeepsOthers : List (Option (Node C V)) → List (Option (Node C V)) → ℕ → Type 0
  KeepsOthers old new key = (k : ℕ) → (k ≡ key → ⊥) → bare (slot_of new k) ≡ bare (slot_of old k)
