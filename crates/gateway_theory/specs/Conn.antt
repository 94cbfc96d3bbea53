-- The slots of a connection, each for the reply of one request.
use Rattle.std.specs.List.{count_by}
use Rattle.std.specs.Prelude.{◌≡◌, ℕ, ◌+◌, Bool, if◌then◌else◌, nat_le, is_none, List, Option, None, Some, option_map, slice_get, slice_index_or, slice_set}
use Rattle.gateway_model.specs.declared.entry.ReplyEntry.{ReplyEntry}
use Rattle.gateway_model.specs.Past.{call_id, most_calls}
use Rattle.gateway_theory.specs.Replies.{ReplyValue}

abbrev pub slot_at : ℕ → List (Option ReplyEntry) → Option ReplyEntry
slot_at j slots = slice_index_or slots j None

-- a call too many
abbrev pub is_full : List (Option ReplyEntry) → Bool
is_full slots = nat_le most_calls (count_by is_none slots)

abbrev pub entry_in : Option ReplyValue → Option ReplyEntry
entry_in slot = option_map (λ r. r.entry) slot

-- each reply answers the request that its slot is of
abbrev pub AreInPlace : ℕ → ℕ → List (Option ReplyValue) → Type 0
AreInPlace number taken slots = (j : ℕ) (r : ReplyValue) → slice_get slots j ≡ Some (Some r) → r.id ≡ call_id number (taken + j)

-- an empty slot holds the entry
abbrev pub fill_at : ℕ → ReplyEntry → List (Option ReplyEntry) → List (Option ReplyEntry)
fill_at j e slots = if is_none (slot_at j slots) then slice_set slots j (Some e) else slots
