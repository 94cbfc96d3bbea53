-- Streams: what was done at one, and how a closed one stood.
use Rattle.std.specs.Prelude.{◌≡◌, ℕ, Bool, List, [], ◌++◌, flat_map, Option, Some}
use Rattle.std.specs.declared.net.socket_addr.SocketAddr.{SocketAddr}
use Rattle.connect_codec.specs.declared.answer.Outcome.{Outcome}
use Rattle.gateway_model.specs.Job.{JobValue}
use Rattle.wires.specs.Turns.{Turn, given_of, got_of}

-- a stream that was closed: the address that it was connected to, if it was, and all that was read from it and written to it
pub record ClosedValue : Type 0 where
  pub peer : Option SocketAddr
  pub given : List ℕ
  pub got : List ℕ

abbrev pub closed_value : Option SocketAddr → List ℕ → List ℕ → ClosedValue
closed_value peer given got = record { peer = peer; given = given; got = got }

-- .. as one at which these turns were done
abbrev pub closed_turns : Option SocketAddr → List Turn → ClosedValue
closed_turns peer turns = closed_value peer (given_of turns) (got_of turns)

-- nothing was read from it, or written to it
abbrev pub IsUnused : ClosedValue → Type 0
IsUnused s = (s.given ≡ []) × (s.got ≡ [])

-- ---- streams to backends

-- the share that a job had of a stream, once it has ended: the turns that were its own, and the outcome that was recorded
pub record ShareValue : Type 0 where
  pub job : JobValue
  pub turns : List Turn
  pub outcome : Option Outcome

abbrev pub share_value : JobValue → List Turn → Option Outcome → ShareValue
share_value job turns outcome = record { job = job; turns = turns; outcome = outcome }

-- a stream: the address that it leads to, the shares that jobs had of it, in order, and the turns since the last of these ended
pub record StreamValue : Type 0 where
  pub peer : SocketAddr
  pub before : List ShareValue
  pub turns : List Turn

abbrev pub stream_value : SocketAddr → List ShareValue → List Turn → StreamValue
stream_value peer before turns = record { peer = peer; before = before; turns = turns }

-- the turns of all shares, in order
abbrev pub turns_of : List ShareValue → List Turn
turns_of shares = flat_map (λ (x : ShareValue). x.turns) shares

-- how the stream stands once it is closed
abbrev pub closed_stream : StreamValue → ClosedValue
closed_stream s = closed_turns (Some s.peer) (turns_of s.before ++ s.turns)

-- no job went over it before
abbrev pub IsNew : StreamValue → Type 0
IsNew s = s.before ≡ []

-- a stream that is kept, to be used again: the address text of the jobs that went over it, whether a read may bring something, by what token
-- it is watched, if it is, and until when it is kept
pub record KeptValue : Type 0 where
  pub stream : StreamValue
  pub address : List ℕ
  pub reads : Bool
  pub watched : Option (ℕ × Bool)
  pub until : ℕ

abbrev pub kept_value : StreamValue → List ℕ → Bool → Option (ℕ × Bool) → ℕ → KeptValue
kept_value stream address reads watched until = record { stream = stream; address = address; reads = reads; watched = watched; until = until }
