-- How the nodes stand while a walk ends contexts, by the keys of their slots.
use Rattle.std.specs.Prelude.{◌≡◌, ◌<◌, ◌+◌, ◌^◌, ◌⊎◌, ℕ, Bool, true, false, not, ◌==◌, ◌&&◌, if◌then◌else◌, is_some, is_none, filter, map, length, List, [], ◌∷◌, ◌++◌, Option, Some, None, option_map}
use Rattle.std.specs.List.{list_any}
use Rattle.std.specs.Option.{option_map_or}
use Rattle.timer_heap.specs.Timers.{Timing}
use Rattle.context_tree.specs.declared.node.Ending.{Ending}
use Rattle.context_tree.specs.declared.node.Node.{Node}
use Rattle.context_tree.specs.Context.{Id, TreeOp, follows, own_due}
use Rattle.context_tree.specs.Tree.{StandsFor}
use Rattle.context_tree.specs.Links.{slot_of, parent_in, number_in, links_in, child_at, IsLinked}

-- the key is one of these
abbrev pub is_in : ℕ → List ℕ → Bool
is_in k ks = list_any (λ j. k == j) ks

-- none is equal to one after it
abbrev pub AreApart : List ℕ → Type 0
AreApart [] = Unit {0}
AreApart (k ∷ ks) = (is_in k ks ≡ false) × AreApart ks

-- the first of these, if there is one
abbrev pub first_key : List ℕ → Option ℕ
first_key [] = None
first_key (k ∷ ks) = Some k

-- the slots that these ids name
abbrev pub keys_of : List Id → List ℕ
keys_of ids = map (λ (x : Id). x.1) ids

module _ {C V : Type 0} where
  -- the node, ended so
  abbrev pub with_end : Ending C → Option (Node C V) → Option (Node C V)
  with_end e o = option_map (λ (n : Node C V). record n { ending = Some e }) o

  -- the node at a key is not ended
  abbrev pub is_live_at : List (Option (Node C V)) → ℕ → Bool
  is_live_at slots k = option_map_or (λ n. is_none n.ending) (slot_of slots k) false

  -- the node at a key is not ended, and ends with its parent
  abbrev pub is_ended_with : List (Option (Node C V)) → ℕ → Bool
  is_ended_with slots k = option_map_or (λ n. is_none n.ending && is_some (follows n.kind)) (slot_of slots k) false

  -- the id of the node at a key
  abbrev pub id_in : List (Option (Node C V)) → ℕ → Id
  id_in slots k = (number_in slots k, k)

  -- The nodes are linked, those that wait are ended and stand in slots of their own, and there is room for all others
  -- behind them.
  pub record IsReady (slots : List (Option (Node C V))) (done : List Id) (room : ℕ) : Type 0 where
    pub linked : IsLinked slots
    pub few : (k q : ℕ) → parent_in slots k ≡ Some q → number_in slots k < 2 ^ 62
    pub apart : AreApart (keys_of done)
    pub ended : (k : ℕ) → is_in k (keys_of done) ≡ true → (is_live_at slots k ≡ false) × (is_some (slot_of slots k) ≡ true)
    pub within : (k : ℕ) → is_some (slot_of slots k) ≡ true → k < room

  -- the node in that slot has a deadline of its own that the moment has reached
  pub record IsDueAt (slots : List (Option (Node C V))) (key now : ℕ) : Type 0 where
    pub node : Node C V
    pub slot_is : slot_of slots key ≡ Some node
    pub is_due : is_some (own_due now ((node.number, key), node.kind)) ≡ true

  -- some operations lead to these nodes, these that wait and these timers
  pub record IsReachedAt (slots : List (Option (Node C V))) (done : List Id) (timers : Timing) : Type 0 where
    pub made : ℕ
    pub visits : ℕ
    pub past : List (TreeOp C V)
    pub stands : StandsFor (record { slots = slots; done = done; timers = timers; made = made; visits = visits }) past

  -- one node is ended so
  abbrev pub EndsAt : List (Option (Node C V)) → List (Option (Node C V)) → ℕ → Ending C → Type 0
  EndsAt old new key e = (k : ℕ) → slot_of new k ≡ (if k == key then with_end e (slot_of old k) else slot_of old k)

-- what a walk starts from: the nodes, those that wait, the timers, the slot of the context that ends first, and how
pub record Start (C V : Type 0) : Type 0 where
  pub slots : List (Option (Node C V))
  pub done : List Id
  pub timers : Timing
  pub target : ℕ
  pub ending : Ending C

module _ {C V : Type 0} where
  -- A key that the walk looked at is a child of one that it ended: of one that it left behind, or an earlier child of
  -- the one whose children it looks at.
  pub record IsVisited (s : Start C V) (keys front : List ℕ) (p place k : ℕ) : Type 0 where
    pub parent : ℕ
    pub derives : parent_in s.slots k ≡ Some parent
    pub parent_ended : is_in parent keys ≡ true
    pub how : (is_in parent front ≡ true) ⊎ ((i : ℕ) × (i < place) × (parent ≡ p) × (child_at (links_in s.slots) p i ≡ Some k))

  -- one that a walk ended is its target, or ends with one that it ended
  pub record IsReachedBy (s : Start C V) (keys : List ℕ) (k : ℕ) : Type 0 where
    pub parent : ℕ
    pub derives : parent_in s.slots k ≡ Some parent
    pub parent_ended : is_in parent keys ≡ true
    pub ends : is_ended_with s.slots k ≡ true

  -- The walk ended these keys, the target first, and looked at the visited ones beside. It has left those in front
  -- behind, with all of their children, and so many children of the key p.
  pub record IsWalk (s : Start C V) (slots : List (Option (Node C V))) (done : List Id) (timers : Timing) (keys visited front : List ℕ) (p place : ℕ) : Type 0 where
    pub slots_are : (k : ℕ) → slot_of slots k ≡ (if is_in k keys then with_end s.ending (slot_of s.slots k) else slot_of s.slots k)
    pub done_is : done ≡ s.done ++ map (id_in s.slots) keys
    pub timers_are : timers ≡ record s.timers { entries = filter (λ t. not (is_in t.id keys)) s.timers.entries }
    pub begins : (rest : List ℕ) × (keys ≡ s.target ∷ rest)
    pub apart : AreApart keys
    pub target_live : is_live_at s.slots s.target ≡ true
    pub reached : (k : ℕ) → is_in k keys ≡ true → (k ≡ s.target) ⊎ IsReachedBy s keys k
    pub closed : (q k : ℕ) → is_in q front ≡ true → parent_in s.slots k ≡ Some q → is_ended_with s.slots k ≡ true → is_in k keys ≡ true
    pub closed_in : (i k : ℕ) → i < place → child_at (links_in s.slots) p i ≡ Some k → is_ended_with s.slots k ≡ true → is_in k keys ≡ true
    pub visited_apart : AreApart visited
    pub visited_are : (k : ℕ) → is_in k visited ≡ true → IsVisited s keys front p place k

  -- between two contexts of the list of those that wait: the children of this one are looked at next
  pub record IsWalking (s : Start C V) (slots : List (Option (Node C V))) (done : List Id) (timers : Timing) (at : Option ℕ) (visits : ℕ) : Type 0 where
    pub keys : List ℕ
    pub visited : List ℕ
    pub front : List ℕ
    pub back : List ℕ
    pub parts : keys ≡ front ++ back
    pub at_is : at ≡ first_key back
    pub visits_is : visits ≡ length visited + 1
    pub walk : IsWalk s slots done timers keys visited front 0 0

  -- after some of the children of one, from a walk that had come so far: the next child is this one, if there is one
  pub record IsWalkingOn (s : Start C V) (slots : List (Option (Node C V))) (done : List Id) (timers : Timing) (keys visited front : List ℕ) (p : ℕ) (next : Option ℕ) (visits : ℕ) : Type 0 where
    pub more : List ℕ
    pub seen : List ℕ
    pub place : ℕ
    pub next_is : child_at (links_in s.slots) p place ≡ next
    pub visits_is : length seen ≡ length visited + visits
    pub walk : IsWalk s slots done timers (keys ++ more) seen front p place

  -- all that the target's end takes with it is ended, and nothing else
  pub record IsWalked (s : Start C V) (slots : List (Option (Node C V))) (done : List Id) (timers : Timing) (visits : ℕ) : Type 0 where
    pub keys : List ℕ
    pub visited : List ℕ
    pub visits_is : visits ≡ length visited + 1
    pub walk : IsWalk s slots done timers keys visited keys 0 0
