-- What one operation does to one context, in the words of the laws.
use Rattle.std.specs.Prelude.{ℕ, Bool, true, false, ◌||◌, nat_le, List, [], ◌∷◌, Option}
use Rattle.std.specs.Option.{option_map_or}
use Rattle.context_tree.specs.Context.{Id, same, TreeOp, Makes, Cancels, Advances, HandsOut, Releases}

-- the moment has reached the deadline, if there is one
abbrev pub is_due : ℕ → Option ℕ → Bool
is_due now deadline = option_map_or (λ at. nat_le at now) deadline false

module _ {C V : Type 0} where
  -- the context of that id was made, and may have been released since
  abbrev pub was_made : Id → List (TreeOp C V) → Bool
  was_made x [] = false
  was_made x (Makes id kind now ∷ past) = same id x || was_made x past
  was_made x (Cancels id cause ∷ past) = was_made x past
  was_made x (Advances now ∷ past) = was_made x past
  was_made x (HandsOut id ∷ past) = was_made x past
  was_made x (Releases id ∷ past) = was_made x past

  -- the operation makes the context of that id, or releases it
  abbrev pub makes_or_releases : Id → TreeOp C V → Bool
  makes_or_releases x (Makes id kind now) = same id x
  makes_or_releases x (Cancels id cause) = false
  makes_or_releases x (Advances now) = false
  makes_or_releases x (HandsOut id) = false
  makes_or_releases x (Releases id) = same id x

  -- the operation releases the context of that id
  abbrev pub releases : Id → TreeOp C V → Bool
  releases x (Makes id kind now) = false
  releases x (Cancels id cause) = false
  releases x (Advances now) = false
  releases x (HandsOut id) = false
  releases x (Releases id) = same id x

  -- the operation is a cancel or a moment, which alone end contexts that are made
  abbrev pub may_end : TreeOp C V → Bool
  may_end (Makes id kind now) = false
  may_end (Cancels id cause) = true
  may_end (Advances now) = true
  may_end (HandsOut id) = false
  may_end (Releases id) = false
