-- A reader of one reply, and what it has read.
use Rattle.std.specs.Prelude.{◌≡◌, ℕ, ◌<◌, ◌⊎◌, Bool, true, false, List, [], ◌++◌, length, take, Option, Some, None}
use Rattle.http_pieces.specs.Looked.{HasLooked}
use Rattle.http_pieces.specs.declared.reply.HttpReply.{HttpReply}
use Rattle.http_pieces.specs.declared.reply_fault.ReplyFault.{ReplyFault}
use Rattle.http_pieces.specs.declared.reply_state.ReplyState.{ReplyState}
use Rattle.http_pieces.specs.declared.reply_state.ReplyState.TheVariants as state
use Rattle.http_pieces.specs.Chunks.{cut_on, cut_with}
use Rattle.http_pieces.specs.declared.chunk_parts.Place.{Place}
use Rattle.http_pieces.specs.declared.framing.Framing.{Framing}
use Rattle.http_pieces.specs.declared.framing.Framing.TheVariants as framing
use Rattle.http_pieces.specs.Cut.{Cut, Incomplete, Refused, Complete, IsCut, skip_pairs}
use Rattle.http_pieces.specs.ReplyHead.{chunk_fault, reply_kind}

-- a reply in chunks that is not whole: the reply without its body; the data of the chunks that are whole, of so many bytes,
-- and behind it the bytes of the part that is not; and the place of that part
pub record Chunked : Type 0 where
  pub reply : HttpReply
  pub body : List ℕ
  pub whole : ℕ
  pub place : Place

-- what the bytes to come make of it
abbrev pub chunked_on : Chunked → List ℕ → Cut ReplyFault HttpReply
chunked_on c more = cut_with (chunk_fault c.reply.status) (λ body. record c.reply { body = body }) (cut_on c.body c.whole c.place more)

-- how far a reader is: bytes of a reply that is not whole, the same once chunks of it came, a reply that waits to be taken,
-- a fault, or the end
pub data ReplyReading : Type 0 where
  Partial : List ℕ → ReplyReading
  Decoding : Chunked → ReplyReading
  Waiting : HttpReply → ReplyReading
  Stopped : ReplyFault → ReplyReading
  Done : ReplyReading

-- how bodies may be framed, how far the reply is, and how many bytes were looked at
pub record ReplyReaderValue : Type 0 where
  pub framing : Framing
  pub reading : ReplyReading
  pub looked : ℕ

-- a reader that has looked at nothing
abbrev pub reader_framing : Framing → ReplyReading → ReplyReaderValue
reader_framing framing reading = record { framing = framing; reading = reading; looked = 0 }

-- one of bodies of a fixed length alone
abbrev pub reply_reader_value : ReplyReading → ReplyReaderValue
reply_reader_value reading = reader_framing framing.Fixed reading

abbrev pub state_of_reply : ReplyReading → ReplyState
state_of_reply (Partial left) = state.More
state_of_reply (Decoding after) = state.More
state_of_reply (Waiting q) = state.Complete
state_of_reply (Stopped f) = state.Refused f
state_of_reply Done = state.Ended

-- nothing more is read of the stream
abbrev pub is_over_reply : ReplyReading → Bool
is_over_reply (Partial left) = false
is_over_reply (Decoding after) = false
is_over_reply (Waiting q) = false
is_over_reply (Stopped f) = true
is_over_reply Done = true

-- the bytes of a reply that is not whole, and has not come to chunks
abbrev pub left_of_reply : ReplyReading → Option (List ℕ)
left_of_reply (Partial left) = Some left
left_of_reply (Decoding after) = None
left_of_reply (Waiting q) = None
left_of_reply (Stopped f) = None
left_of_reply Done = None

-- how far the reader is, where these bytes were taken, and no reply was given, or this one: the bytes are cut into what it
-- says, and only once the reply was given may others follow it
abbrev pub HasReadReplyTo : Framing → ReplyReading → List ℕ → Option HttpReply → Type 0
HasReadReplyTo framing (Partial left) bytes given = (given ≡ None) × (left ≡ skip_pairs bytes) × IsCut (reply_kind framing) bytes Incomplete
HasReadReplyTo framing (Decoding after) bytes given =
    (given ≡ None) × (chunked_on after [] ≡ Incomplete) × ((more : List ℕ) → IsCut (reply_kind framing) (bytes ++ more) (chunked_on after more))
HasReadReplyTo framing (Waiting q) bytes given = (given ≡ None) × IsCut (reply_kind framing) bytes (Complete q [])
HasReadReplyTo framing (Stopped f) bytes given = (given ≡ None) × IsCut (reply_kind framing) bytes (Refused f)
HasReadReplyTo framing Done bytes given = (q : HttpReply) × (rest : List ℕ) × (given ≡ Some q) × IsCut (reply_kind framing) bytes (Complete q rest)

-- the reader stands where it does after pushes that took these bytes, and takes that gave no reply, or this one
pub record HasReadReply (reader : ReplyReaderValue) (bytes : List ℕ) (given : Option HttpReply) : Type 0 where
  pub reads : HasReadReplyTo reader.framing reader.reading bytes given
  pub looked : HasLooked reader.looked (left_of_reply reader.reading) bytes

-- no prefix of the piece that is shorter than n makes a whole reply of the bytes before it
abbrev pub IsShortestReply : Framing → List ℕ → List ℕ → ℕ → Type 0
IsShortestReply framing left piece n =
    (m : ℕ) (q : HttpReply) (rest : List ℕ) → m < n → ¬ (IsCut (reply_kind framing) (left ++ take m piece) (Complete q rest))

-- nor of the chunks that came before it
abbrev pub IsShortestChunks : Chunked → List ℕ → ℕ → Type 0
IsShortestChunks was piece n = (m : ℕ) (q : HttpReply) (rest : List ℕ) → m < n → ¬ (chunked_on was (take m piece) ≡ Complete q rest)

-- in `More` a push takes the shortest prefix of its piece that makes the whole reply, and else all of it
pub record TakesShortestReply (was new : ReplyReaderValue) (piece : List ℕ) (n : ℕ) : Type 0 where
  pub framing : new.framing ≡ was.framing
  pub shortest : (left : List ℕ) → was.reading ≡ Partial left → IsShortestReply was.framing left piece n
  pub decoded : (chunks : Chunked) → was.reading ≡ Decoding chunks → IsShortestChunks chunks piece n
  pub all : (n ≡ length piece) ⊎ ((q : HttpReply) × (new.reading ≡ Waiting q))
