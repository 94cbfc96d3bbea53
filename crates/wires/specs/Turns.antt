-- What was done at a stream, turn by turn.
use Rattle.std.specs.Prelude.{Bool, true, false, ◌≡◌, ℕ, ◌<◌, ◌≤◌, ◌++◌, ◌∷◌, [], All, List, length, take, ⊤}
use Rattle.std.specs.List.{flat_map, list_any}
use Rattle.wires.specs.declared.got.Got.{Got}
use Rattle.wires.specs.declared.got.Got.TheVariants as got
use Rattle.wires.specs.declared.got.Sent.{Sent}
use Rattle.wires.specs.declared.got.Sent.TheVariants as sent

-- one thing that was done
pub data Turn : Type 0 where
  -- a read brought these bytes
  Came : List ℕ → Turn
  -- a read said that nothing was there: it would have had to wait
  Quiet : Turn
  -- a read found the end, or failed
  Over : Turn
  -- a write took these bytes
  Went : List ℕ → Turn

-- the bytes that a turn brought
abbrev pub came : Turn → List ℕ
came (Came bytes) = bytes
came Quiet = []
came Over = []
came (Went bytes) = []

-- the bytes that a turn took
abbrev pub went : Turn → List ℕ
went (Came bytes) = []
went Quiet = []
went Over = []
went (Went bytes) = bytes

-- whether a turn found the end, or failed
abbrev pub is_over : Turn → Bool
is_over (Came bytes) = false
is_over Quiet = false
is_over Over = true
is_over (Went bytes) = false

-- all the bytes that were read in these turns
abbrev pub given_of : List Turn → List ℕ
given_of turns = flat_map came turns

-- all the bytes that were written in these turns
abbrev pub got_of : List Turn → List ℕ
got_of turns = flat_map went turns

-- whether a read of these turns found the end, or failed
abbrev pub ended_of : List Turn → Bool
ended_of turns = list_any is_over turns

-- the turn that a read was which answered so, into the first places of this piece; one that a signal interrupted was none
abbrev pub turns_of_read : List ℕ → Got → List Turn
turns_of_read piece (got.Bytes n) = Came (take n piece) ∷ []
turns_of_read piece got.Nothing = Quiet ∷ []
turns_of_read piece got.Interrupted = []
turns_of_read piece (got.End kind) = Over ∷ []

-- the turn that a write of what waits was which answered so; one that took nothing was none
abbrev pub turns_of_write : List ℕ → Sent → List Turn
turns_of_write waiting (sent.Bytes n) = Went (take n waiting) ∷ []
turns_of_write waiting sent.Nothing = []
turns_of_write waiting sent.Interrupted = []
turns_of_write waiting (sent.Failed kind) = []

-- a read that brought bytes brought one at least, and no more than its piece holds
abbrev pub BringsWithin : List ℕ → Got → Type 0
BringsWithin piece (got.Bytes n) = (0 < n) × (n ≤ length piece)
BringsWithin piece got.Nothing = ⊤
BringsWithin piece got.Interrupted = ⊤
BringsWithin piece (got.End kind) = ⊤

-- a write that took bytes took one at least, and no more than wait
abbrev pub TakesWithin : List ℕ → Sent → Type 0
TakesWithin waiting (sent.Bytes n) = (0 < n) × (n ≤ length waiting)
TakesWithin waiting sent.Nothing = ⊤
TakesWithin waiting sent.Interrupted = ⊤
TakesWithin waiting (sent.Failed kind) = ⊤

-- before the first write of these turns there were reads alone, at least one, and each said that nothing was there
pub record BeginsQuietly (turns : List Turn) : Type 0 where
  pub idle : List Turn
  pub first : List ℕ
  pub after : List Turn
  pub quiet : All (λ turn. turn ≡ Quiet) idle
  pub are : turns ≡ idle ++ Quiet ∷ Went first ∷ after
