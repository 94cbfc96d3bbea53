-- A reader of requests, and what it has read.
use Rattle.std.specs.Prelude.{◌≡◌, ℕ, ◌<◌, ◌⊎◌, Bool, true, false, if◌then◌else◌, List, [], ◌∷◌, ◌++◌, length, take, Option, None, Some}
use Rattle.http_pieces.specs.declared.refusal.Refusal.{Refusal}
use Rattle.http_pieces.specs.declared.state.State.{State}
use Rattle.http_pieces.specs.declared.state.State.TheVariants as state
use Rattle.http_pieces.specs.Cut.{Complete, IsCut}
use Rattle.http_pieces.specs.Head.{request_kind}
use Rattle.http_pieces.specs.Looked.{HasLooked}
use Rattle.http_pieces.specs.Request.{HttpRequest, closes}
use Rattle.http_pieces.specs.Requests.{StreamEnd, Open, RefusedBy, Closed, Requests}

-- how far a reader is: bytes of a request that is not whole, a request that waits to be taken, a refusal, or the end
pub data Reading : Type 0 where
  Partial : List ℕ → Reading
  Waiting : HttpRequest → Reading
  Stopped : Refusal → Reading
  Done : Reading

-- how many requests were taken, how far the next is, and how many bytes were looked at
pub record ReaderValue : Type 0 where
  pub taken : ℕ
  pub reading : Reading
  pub looked : ℕ

-- a reader that has looked at nothing
abbrev pub reader_value : ℕ → Reading → ReaderValue
reader_value taken reading = record { taken = taken; reading = reading; looked = 0 }

abbrev pub state_of : Reading → State
state_of (Partial left) = state.More
state_of (Waiting q) = state.Complete
state_of (Stopped r) = state.Refused r
state_of Done = state.Ended

-- nothing more is read of the stream
abbrev pub is_over : Reading → Bool
is_over (Partial left) = false
is_over (Waiting q) = false
is_over (Stopped r) = true
is_over Done = true

-- the bytes of a request that is not whole
abbrev pub left_of : Reading → Option (List ℕ)
left_of (Partial left) = Some left
left_of (Waiting q) = None
left_of (Stopped r) = None
left_of Done = None

-- once this request is taken
abbrev pub after_request : HttpRequest → Reading
after_request q = if closes q then Done else Partial []

abbrev pub ending_after : HttpRequest → StreamEnd
ending_after q = if closes q then Closed else Open []

-- how far the reader is, where these bytes were taken and these requests given: the requests of the bytes are those
-- given and the one that waits, and they end as the reader says
abbrev pub HasReadTo : Reading → List ℕ → List HttpRequest → Type 0
HasReadTo (Partial left) bytes given = Requests 0 bytes given (Open left)
HasReadTo (Waiting q) bytes given = Requests 0 bytes (given ++ q ∷ []) (ending_after q)
HasReadTo (Stopped r) bytes given = Requests 0 bytes given (RefusedBy r)
HasReadTo Done bytes given = Requests 0 bytes given Closed

-- the reader stands where it does after pushes that took these bytes and takes that gave these requests
pub record HasRead (reader : ReaderValue) (bytes : List ℕ) (given : List HttpRequest) : Type 0 where
  pub count : reader.taken ≡ length given
  pub reads : HasReadTo reader.reading bytes given
  pub looked : HasLooked reader.looked (left_of reader.reading) bytes

-- no prefix of the piece that is shorter than n makes a whole request of the bytes before it
abbrev pub IsShortest : ReaderValue → List ℕ → List ℕ → ℕ → Type 0
IsShortest reader left piece n =
    (m : ℕ) (q : HttpRequest) (rest : List ℕ) → m < n → ¬ (IsCut (request_kind reader.taken) (left ++ take m piece) (Complete q rest))

-- in `More` a push takes the shortest prefix of its piece that makes a whole request, and else all of it
pub record TakesShortest (was new : ReaderValue) (piece : List ℕ) (n : ℕ) : Type 0 where
  pub shortest : (left : List ℕ) → was.reading ≡ Partial left → IsShortest was left piece n
  pub all : (n ≡ length piece) ⊎ ((q : HttpRequest) × (new.reading ≡ Waiting q))
