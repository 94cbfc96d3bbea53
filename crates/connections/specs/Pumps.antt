-- What an object tells of its calls, and what reading a stream into an inlet makes of both.
use Rattle.std.specs.Prelude.{◌≡◌, ◌≢◌, ℕ, ◌+◌, ◌<◌, ◌≤◌, All, List, [], ◌++◌, length, map, flat_map, Option, None, Some, ⊤}
use Rattle.std.specs.Io.KnownBytes.{Consumes}
use Rattle.connections.specs.declared.pumping.Fed.{Fed}
use Rattle.connections.specs.declared.pumping.Fed.TheVariants.{Go, Stop, Full}
use Rattle.connections.specs.declared.pumping.Heard.{Heard}
use Rattle.connections.specs.declared.pumping.Heard.TheVariants.{Piece, HangUp}

-- what was told stays, and these are told behind it
abbrev pub Tells : {A : Type 0} → Option (List A) → Option (List A) → List A → Type 0
Tells None new news = ⊤
Tells (Some xs) None news = ⊥
Tells (Some xs) (Some ys) news = ys ≡ xs ++ news

-- the bytes of a piece that are taken
abbrev pub taken_of : List ℕ → Fed → List ℕ
taken_of bytes Go = bytes
taken_of bytes Stop = bytes
taken_of bytes Full = []

-- what an inlet took of what it was given
abbrev pub bytes_in : Heard → List ℕ
bytes_in (Piece bytes fed) = taken_of bytes fed
bytes_in HangUp = []

-- and in all
abbrev pub bytes_heard : List Heard → List ℕ
bytes_heard heard = flat_map bytes_in heard

-- the pieces, joined
abbrev pub joined : List (List ℕ) → List ℕ
joined pieces = flat_map (λ piece. piece) pieces

-- the pieces, each answered so
abbrev pub answered : Fed → List (List ℕ) → List Heard
answered fed pieces = map (λ piece. Piece piece fed) pieces

-- what one read may bring: some bytes, and no more than there is room for
abbrev pub most_read : ℕ
most_read = 4096

abbrev pub IsRead : List ℕ → Type 0
IsRead piece = (0 < length piece) × (length piece ≤ most_read)

-- how many pieces have this answer as the last: the reading goes on at `Go`
abbrev pub ends_by : Fed → ℕ
ends_by Go = 0
ends_by Stop = 1
ends_by Full = 1

-- All that was read was given to the inlet, in order and in so many pieces at most: it answered `Go` to all but the one that ended
-- the reading, if one did; and then this was told.
pub record Pumps (most : ℕ) (before after : Option (List ℕ)) (old new : Option (List Heard)) (took takes : ℕ)
    (fed : Fed) (last : List Heard) : Type 0 where
  -- those that it answered by `Go`, and the one that ended the reading
  pub pieces : List (List ℕ)
  pub final : List (List ℕ)
  pub one_at_most : length final ≡ ends_by fed
  pub few : length pieces + length final ≤ most
  pub reads : All IsRead (pieces ++ final)
  pub read : Consumes before after (joined pieces ++ joined final)
  pub given : Tells old new ((answered Go pieces ++ answered fed final) ++ last)
  pub counted : takes ≡ took + length (joined pieces) + length (taken_of (joined final) fed)

-- Of what was read as many bytes were counted as were taken: all, but those of the last read where there was no room for them. Of that
-- one read none was taken.
pub record Counts (before after : Option (List ℕ)) (old new : ℕ) (fed : Fed) : Type 0 where
  pub taken : List ℕ
  pub refused : List ℕ
  pub read : Consumes before after (taken ++ refused)
  pub counted : new ≡ old + length taken
  pub all_taken : fed ≢ Full → refused ≡ []
  pub last_read : fed ≡ Full → IsRead refused
