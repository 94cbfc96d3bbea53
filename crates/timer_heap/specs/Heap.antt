-- How a heap of entries in a vector, and the place of each by its id, stand for the timers that wait.
use Rattle.std.specs.Prelude.{◌≡◌, ◌≢◌, ℕ, zero, suc, ◌+◌, ◌*◌, ◌^◌, ◌<◌, ◌≤◌, List, All, [], ◌∷◌, ◌++◌, map, filter, length, Bool, ◌==◌, nat_lt, ◌||◌, ◌&&◌, Option, Some, None, slice_index_or, if◌then◌else◌}
use Rattle.std.specs.List.{swap, swap_remove}
use Rattle.std.specs.List.Sorted.{IsPermutation, apply_swaps}
use Rattle.timer_heap.specs.Timers.{Timer, binary_digits}
use Rattle.timer_heap.specs.declared.heap.Entry.{Entry}

-- the entry at a place; past the end one of zeros
abbrev pub entry_at : List Entry → ℕ → Entry
entry_at heap place = slice_index_or heap place (record { at = 0; id = 0; number = 0 })

-- whether e is due before d, where of equal times the one that was set first is
abbrev pub is_before : Entry → Entry → Bool
is_before e d = nat_lt e.at d.at || (e.at == d.at && nat_lt e.number d.number)

-- e is not due after d, and at an equal time it was not set after it
pub record Leads (e d : Entry) : Type 0 where
  pub no_later : e.at ≤ d.at
  pub in_turn : e.at ≡ d.at → e.number ≤ d.number

-- The place below hangs under the place above. Each place has two that hang under it, if the vector is long enough.
pub record IsUnder (below above : ℕ) : Type 0 where
  pub from : above * 2 + 1 ≤ below
  pub to : below ≤ above * 2 + 2

-- each entry leads those under it
pub record IsHeap (heap : List Entry) : Type 0 where
  pub leads : (above below : ℕ) → IsUnder below above → below < length heap → Leads (entry_at heap above) (entry_at heap below)

-- The same, but for the entry at this place. The one above it leads those under it.
pub record IsHeapBut (place : ℕ) (heap : List Entry) : Type 0 where
  pub others : (above below : ℕ) → IsUnder below above → below < length heap → above ≢ place → below ≢ place → Leads (entry_at heap above) (entry_at heap below)
  pub across : (above below : ℕ) → IsUnder place above → IsUnder below place → below < length heap → Leads (entry_at heap above) (entry_at heap below)

-- the entry at this place leads those under it
pub record LeadsBelow (place : ℕ) (heap : List Entry) : Type 0 where
  pub leads : (below : ℕ) → IsUnder below place → below < length heap → Leads (entry_at heap place) (entry_at heap below)

-- the entry at this place is led by the one above it, if there is one
pub record IsLed (place : ℕ) (heap : List Entry) : Type 0 where
  pub leads : (above : ℕ) → IsUnder place above → Leads (entry_at heap above) (entry_at heap place)

-- this place is under the one above, and its entry leads that one's
pub record IsToRise (place above : ℕ) (heap : List Entry) : Type 0 where
  pub under : IsUnder place above
  pub comes_first : Leads (entry_at heap place) (entry_at heap above)

-- the place below is under this one, and its entry leads the one here and the other one under it
pub record IsToSink (place below : ℕ) (heap : List Entry) : Type 0 where
  pub under : IsUnder below place
  pub within : below < length heap
  pub comes_first : Leads (entry_at heap below) (entry_at heap place)
  pub leads : (other : ℕ) → IsUnder other place → other < length heap → Leads (entry_at heap below) (entry_at heap other)

-- each entry's id has its place, and no other id has one
pub record ArePlaced (heap : List Entry) (place_of : ℕ → Option ℕ) : Type 0 where
  pub found : (place : ℕ) → place < length heap → place_of (entry_at heap place).id ≡ Some place
  pub only : (id place : ℕ) → place_of id ≡ Some place → (place < length heap) × ((entry_at heap place).id ≡ id)

-- an id has this place now, or none, and the others have theirs
pub record IsPut (id : ℕ) (place : Option ℕ) (old new : ℕ → Option ℕ) : Type 0 where
  pub here : new id ≡ place
  pub others : (other : ℕ) → other ≢ id → new other ≡ old other

-- two entries are in each other's place
pub record Exchanged (one other : ℕ) (old new : List Entry) (place_of : ℕ → Option ℕ) : Type 0 where
  pub swapped : new ≡ swap old one other
  pub placed : ArePlaced new place_of

-- The entry at this place has risen, by this many exchanges. Where it has not, only those under it may still be out of order.
pub record Rises (place : ℕ) (old new : List Entry) (place_of : ℕ → Option ℕ) (moves : ℕ) : Type 0 where
  pub same : IsPermutation old new
  pub counted : moves ≡ length same.moves
  pub placed : ArePlaced new place_of
  pub few : 2 ^ moves ≤ place + 1
  pub still : moves ≡ 0 → IsHeapBut place new × IsLed place new
  pub ordered : 0 < moves → IsHeap new

-- the entries are a heap, after this many exchanges
pub record Settles (old new : List Entry) (place_of : ℕ → Option ℕ) (moves : ℕ) : Type 0 where
  pub same : IsPermutation old new
  pub counted : moves ≡ length same.moves
  pub placed : ArePlaced new place_of
  pub few : 2 ^ moves ≤ length old
  pub ordered : IsHeap new

-- the entry was added, by this many exchanges, and the others stay
pub record Added (e : Entry) (old new : List Entry) (place_of : ℕ → Option ℕ) (moves : ℕ) : Type 0 where
  pub same : IsPermutation (old ++ e ∷ []) new
  pub counted : moves ≡ length same.moves
  pub placed : ArePlaced new place_of
  pub few : moves ≤ binary_digits (length new)
  pub ordered : IsHeap new

-- The entry at this place was taken out, and the others stay. Where it is not the last, that the last one fills its place
-- is an exchange too.
pub record TakenOut (place : ℕ) (old new : List Entry) (place_of : ℕ → Option ℕ) (moves : ℕ) : Type 0 where
  pub same : IsPermutation old (entry_at old place ∷ new)
  pub placed : ArePlaced new place_of
  pub gone : place_of (entry_at old place).id ≡ None
  pub swaps : List (ℕ × ℕ)
  pub reached : new ≡ apply_swaps (swap_remove old place (entry_at old place)) swaps
  pub counted : moves ≡ (if place + 1 == length old then 0 else length swaps + 1)
  pub few : moves ≤ binary_digits (length old)
  pub ordered : IsHeap new

-- the entries and their places stay
pub record Unchanged (old new : List Entry) (before after : ℕ → Option ℕ) : Type 0 where
  pub entries : new ≡ old
  pub places : (id : ℕ) → after id ≡ before id

-- the entries by their numbers, up to this one
unfoldable pub ranked : ℕ → List Entry → List Entry
ranked zero heap = []
ranked (suc n) heap = ranked n heap ++ filter (λ e. e.number == n) heap

-- the timers of these entries, in the order of setting, where this many were set
unfoldable pub in_order : ℕ → List Entry → List Timer
in_order sets heap = map (λ e. record { at = e.at; id = e.id }) (ranked sets heap)

-- They are a heap, and placed. Each has a number of its own, below the count of those that were set.
pub record IsSound (sets : ℕ) (heap : List Entry) (place_of : ℕ → Option ℕ) : Type 0 where
  pub ordered : IsHeap heap
  pub placed : ArePlaced heap place_of
  pub below : All (λ e. e.number < sets) heap
  pub apart : (n : ℕ) → length (filter (λ e. e.number == n) heap) ≤ 1
