-- How a reply lies in its bytes.
use Rattle.std.specs.Prelude.{◌≡◌, ℕ, ◌<◌, ◌≤◌, Bool, true, false, if◌then◌else◌, List, [], ◌++◌, map, length, take, drop, All, Result, Ok, Err, Option, None, Some}
use Rattle.std.proofs.Common.{ap, sym, ◌∙◌}
use Rattle.httparse.specs.declared.spans.HeaderSpan.{HeaderSpan}
use Rattle.httparse.proofs.GrammarLemmas.{response_unique}
use Rattle.httparse.specs.Grammar.{ResponseHead, status_code}
use Rattle.httparse.specs.Spans.{IsHeaderWithin, header_bytes, name_and_value}
use Rattle.http_pieces.specs.declared.chunks.Chunks.{Chunks}
use Rattle.http_pieces.specs.declared.decoding.Decoding.{Decoding}
use Rattle.http_pieces.specs.declared.decoding.Decoding.TheVariants as decoding
use Rattle.http_pieces.specs.declared.framing.Framing.{Framing}
use Rattle.http_pieces.specs.declared.phase.Phase.{Phase}
use Rattle.http_pieces.specs.declared.phase.Phase.TheVariants as phase
use Rattle.http_pieces.specs.declared.reply.HttpReply.{HttpReply}
use Rattle.http_pieces.specs.declared.reply_fault.ReplyFault.{ReplyFault}
use Rattle.http_pieces.specs.declared.reply_fault.ReplyFault.TheVariants as fault
use Rattle.http_pieces.specs.declared.reply_head.ReplyHead.{ReplyHead}
use Rattle.http_pieces.specs.Chunks.{IsOpen}
use Rattle.http_pieces.specs.Cut.{Asks, Refusal, Body, Incomplete, Refused, Complete, Kind, IsCut, IsSingle, skip_pairs}
use Rattle.http_pieces.specs.Form.{Form, IsPhaseSound}
use Rattle.http_pieces.specs.Looked.{most_looked}
use Rattle.http_pieces.specs.ReplyHead.{IsReplyBlock, reply_asks, reply_kind, reply_length, reply_with, takes_chunks}
use Rattle.http_pieces.specs.ReplyReader.{Chunked, ReplyReading, ReplyReaderValue, chunked_on, Partial, Decoding as Decoded, Waiting, Stopped, Done}

-- the block is the head h, of that status and minor version, and the spans cover its fields
pub record IsReplyHeadAt (block : List ℕ) (headers : List HeaderSpan) (status minor : ℕ) (h : ResponseHead) : Type 0 where
  pub within : All (IsHeaderWithin (length block)) headers
  pub block_is : IsReplyBlock block h
  pub status_is : status ≡ status_code h
  pub minor_is : minor ≡ h.minor
  pub fields : map (header_bytes block) headers ≡ map name_and_value h.fields

-- the block's head was read, its status, its minor version and the number of the fields whose places were written; or it is none
abbrev pub ReadsReplyHead : List ℕ → List HeaderSpan → Option (ℕ × ℕ × ℕ) → Type 0
ReadsReplyHead block headers None = (h : ResponseHead) → ¬ (IsReplyBlock block h)
ReadsReplyHead block headers (Some r) = (r.2 ≤ length headers) × ((h : ResponseHead) × IsReplyHeadAt block (take r.2 headers) r.0 r.1 h)

-- the reply of that head, with this body
abbrev pub reply_from : ReplyHead → List ℕ → HttpReply
reply_from head body = record { status = head.status; content_type = head.content_type; closes = head.closes; body = body }

-- the reply of that head, whose body begins at that place
abbrev pub reply_of : List ℕ → ReplyHead → ℕ → HttpReply
reply_of bytes head body_at = reply_from head (drop body_at bytes)

-- ---- a reply up to its chunks

-- a reply, whose body is none where it is in chunks: these follow it
pub record Headed : Type 0 where
  pub reply : HttpReply
  pub in_chunks : Bool

abbrev pub asks_headed : Bool → Result ℕ ReplyFault → (List ℕ → HttpReply) → Asks ReplyFault Headed
asks_headed in_chunks (Err f) message = Refusal f
asks_headed in_chunks (Ok n) message = Body n (λ body. record { reply = message body; in_chunks = in_chunks })

abbrev pub headed_length : Bool → ResponseHead → Result ℕ ReplyFault
headed_length in_chunks h = if in_chunks then Ok 0 else reply_length (status_code h) (map name_and_value h.fields)

-- what a reply's head asks for, if chunks are no part of the message
abbrev pub headed_asks : Framing → ResponseHead → Asks ReplyFault Headed
headed_asks framing h =
    let in_chunks = takes_chunks framing (status_code h) h.minor (map name_and_value h.fields) in
    asks_headed in_chunks (headed_length in_chunks h) (reply_with h)

pub record IsHeadedAsking (framing : Framing) (block : List ℕ) (a : Asks ReplyFault Headed) : Type 0 where
  pub head : ResponseHead
  pub block_is : IsReplyBlock block head
  pub asks_is : a ≡ headed_asks framing head

abbrev pub headed_kind : Framing → Kind ReplyFault Headed
headed_kind framing = record { IsHead = IsHeadedAsking framing; too_large = fault.HeadTooLarge; no_head = fault.NotAHead }

-- the message in these bytes
abbrev pub headed_of : List ℕ → ReplyHead → ℕ → Headed
headed_of bytes head body_at = record { reply = reply_of bytes head body_at; in_chunks = head.in_chunks }

-- replies, whose readers keep of a head what `ReplyHead` has; there is one reply in a stream
abbrev pub reply_form : Framing → Form ReplyFault ReplyHead Headed
reply_form framing = record { kind = λ k. headed_kind framing; message = λ bytes head body_at k. headed_of bytes head body_at; IsIn = λ bytes head. Unit {0} }

-- a block is one head at most, as `httparse` proves
pub headed_single : (framing : Framing) → IsSingle (headed_kind framing)
headed_single framing block a b x y =
    let same : x.head ≡ y.head = (response_unique block x.head y.head [] [] x.block_is.reads y.block_is.reads).0 in
    x.asks_is ∙ ap (headed_asks framing) same ∙ sym y.asks_is

pub reply_single : (framing : Framing) → IsSingle (reply_kind framing)
reply_single framing block a b x y =
    let same : x.head ≡ y.head = (response_unique block x.head y.head [] [] x.block_is.reads y.block_is.reads).0 in
    x.asks_is ∙ ap (reply_asks framing) same ∙ sym y.asks_is

-- ---- how far a reader is

-- the reply of that head, of whose body these chunks came
abbrev pub chunked_of : ReplyHead → Chunks → Chunked
chunked_of head chunks = record { reply = reply_from head []; body = chunks.body.items; whole = chunks.whole; place = chunks.place }

-- before any chunks, by its bytes and its phase
abbrev pub phase_reading : List ℕ → Phase ReplyHead ReplyFault → ReplyReading
phase_reading bytes (phase.Head matched) = Partial bytes
phase_reading bytes (phase.Body head body_at missing) = Partial bytes
phase_reading bytes (phase.Complete head body_at) = Waiting (reply_of bytes head body_at)
phase_reading bytes (phase.Refused f) = Stopped f
phase_reading bytes phase.Ended = Done

abbrev pub reply_reading_of : List ℕ → Phase ReplyHead ReplyFault → Decoding → ReplyReading
reply_reading_of bytes phase decoding.No = phase_reading bytes phase
reply_reading_of bytes phase (decoding.Begun head chunks) = Decoded (chunked_of head chunks)
reply_reading_of bytes phase (decoding.Whole q) = Waiting q
reply_reading_of bytes phase (decoding.Faulty f) = Stopped f

-- the reader of that
abbrev pub reply_value_of : Framing → List ℕ → Phase ReplyHead ReplyFault → Decoding → ℕ → ReplyReaderValue
reply_value_of framing bytes phase decoding looked = record { framing = framing; reading = reply_reading_of bytes phase decoding; looked = looked }

-- more bytes are to come
abbrev pub is_growing : ReplyReading → Bool
is_growing (Partial left) = true
is_growing (Decoded after) = true
is_growing (Waiting q) = false
is_growing (Stopped f) = false
is_growing Done = false

-- no whole message waits whose chunks are to come
abbrev pub IsUnchunked : Phase ReplyHead ReplyFault → Type 0
IsUnchunked (phase.Head matched) = Unit {0}
IsUnchunked (phase.Body head body_at missing) = Unit {0}
IsUnchunked (phase.Complete head body_at) = head.in_chunks ≡ false
IsUnchunked (phase.Refused f) = Unit {0}
IsUnchunked phase.Ended = Unit {0}

-- the part at the place has not ended
pub record IsBegun (chunks : Chunks) : Type 0 where
  pub within : chunks.whole ≤ length chunks.body.items
  pub part : IsOpen chunks.place (drop chunks.whole chunks.body.items)

abbrev pub IsDecodingSound : Phase ReplyHead ReplyFault → Decoding → Type 0
IsDecodingSound phase decoding.No = IsUnchunked phase
IsDecodingSound phase (decoding.Begun head chunks) = IsBegun chunks
IsDecodingSound phase (decoding.Whole q) = Unit {0}
IsDecodingSound phase (decoding.Faulty f) = Unit {0}

pub record IsReplyReaderSound (framing : Framing) (bytes : List ℕ) (phase : Phase ReplyHead ReplyFault) (decoding : Decoding) (looked : ℕ) : Type 0 where
  pub phase_sound : IsPhaseSound (reply_form framing) bytes phase
  pub decoding_sound : IsDecodingSound phase decoding
  pub still : looked ≤ most_looked

-- ---- what a push comes to

-- from bytes that are no whole reply, of which n more came
abbrev pub ReplyGrows : Framing → List ℕ → List ℕ → ℕ → ReplyReading → Type 0
ReplyGrows framing left piece n (Partial after) =
    (n ≡ length piece) × (after ≡ skip_pairs (left ++ take n piece)) × IsCut (reply_kind framing) (left ++ take n piece) Incomplete
ReplyGrows framing left piece n (Decoded after) =
    (n ≡ length piece) × (chunked_on after [] ≡ Incomplete) × ((more : List ℕ) → IsCut (reply_kind framing) ((left ++ take n piece) ++ more) (chunked_on after more))
ReplyGrows framing left piece n (Waiting q) = IsCut (reply_kind framing) (left ++ take n piece) (Complete q [])
ReplyGrows framing left piece n (Stopped f) = (n ≡ length piece) × IsCut (reply_kind framing) (left ++ take n piece) (Refused f)
ReplyGrows framing left piece n Done = ⊥

-- from a reply whose chunks came so far, of which n bytes more came
abbrev pub ChunksGrow : Chunked → List ℕ → ℕ → ReplyReading → Type 0
ChunksGrow was piece n (Partial after) = ⊥
ChunksGrow was piece n (Decoded after) = (n ≡ length piece) × (chunked_on after [] ≡ Incomplete) × ((more : List ℕ) → chunked_on was (take n piece ++ more) ≡ chunked_on after more)
ChunksGrow was piece n (Waiting q) = (more : List ℕ) → chunked_on was (take n piece ++ more) ≡ Complete q more
ChunksGrow was piece n (Stopped f) = (n ≡ length piece) × ((more : List ℕ) → chunked_on was (take n piece ++ more) ≡ Refused f)
ChunksGrow was piece n Done = ⊥

-- a reader of that reading, to which a piece is pushed, has this one afterwards, and took n bytes
abbrev pub ReplyPushes : Framing → ReplyReading → List ℕ → ReplyReading → ℕ → Type 0
ReplyPushes framing (Partial left) piece new n = (n ≤ length piece) × (0 < length piece → 0 < n) × ReplyGrows framing left piece n new
ReplyPushes framing (Decoded was) piece new n = (n ≤ length piece) × (0 < length piece → 0 < n) × ChunksGrow was piece n new
ReplyPushes framing (Waiting q) piece new n = (n ≡ 0) × (new ≡ Waiting q)
ReplyPushes framing (Stopped f) piece new n = (n ≡ length piece) × (new ≡ Stopped f)
ReplyPushes framing Done piece new n = (n ≡ length piece) × (new ≡ Done)
