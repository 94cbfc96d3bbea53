-- How those that wait to be handed out are linked, by places that go with the slots.
use Rattle.std.specs.Prelude.{◌≡◌, ℕ, zero, suc, Bool, true, nat_lt, is_some, List, [], ◌∷◌, length, slice_index_or, Option, Some, None}
use Rattle.std.specs.Option.{option_map_or}
use Rattle.context_tree.specs.declared.queue.Place.{Place}
use Rattle.context_tree.specs.Context.{Id}
use Rattle.context_tree.specs.Links.{put}
use Rattle.context_tree.specs.Walks.{is_in, AreApart, keys_of}

-- what contracts see of a queue: those that wait, the first that came first, and the slots below which there is room
pub record QueueValue : Type 0 where
  pub items : List Id
  pub room : ℕ

-- a place where none waits
abbrev pub empty_place : Place
empty_place = record { number = None; before = None; after = None }

-- the place of a slot
abbrev pub place_at : List Place → ℕ → Place
place_at places k = slice_index_or places k empty_place

-- the slot, if one is given, is below this bound
abbrev pub is_below : Option ℕ → ℕ → Bool
is_below slot bound = option_map_or (λ k. nat_lt k bound) slot true

-- the place of a slot, once these two are linked
abbrev pub joined : Option ℕ → Option ℕ → ℕ → Place → Place
joined before after k place = record place { before = put after before k place.before; after = put before after k place.after }

-- the ids from a slot on, at most so many
abbrev pub ids_from : ℕ → (ℕ → Place) → Option ℕ → List Id
ids_from zero at from = []
ids_from (suc n) at None = []
ids_from (suc n) at (Some k) = (option_map_or (λ n. n) (at k).number 0, k) ∷ ids_from n at (at k).after

-- those that wait, from the first slot on
abbrev pub items_in : List Place → Option ℕ → List Id
items_in places first = ids_from (length places) (place_at places) first

-- The places lead from a slot, behind the one before it, over these ids to the last slot.
abbrev pub IsChain : (ℕ → Place) → Option ℕ → Option ℕ → List Id → Option ℕ → Type 0
IsChain at before from [] last = (from ≡ None) × (last ≡ before)
IsChain at before from (x ∷ xs) last =
    (from ≡ Some x.1) × (after : Option ℕ) × (at x.1 ≡ record { number = Some x.0; before = before; after = after }) × IsChain at (Some x.1) after xs last

-- these ids wait, each in a slot of its own, and no others
pub record IsQueue (at : ℕ → Place) (first last : Option ℕ) (items : List Id) : Type 0 where
  pub chain : IsChain at None first items last
  pub apart : AreApart (keys_of items)
  pub only : (k : ℕ) → is_some (at k).number ≡ is_in k (keys_of items)
