-- How a request lies in its bytes.
use Rattle.std.specs.Prelude.{◌≡◌, ℕ, ◌<◌, ◌≤◌, Bool, true, false, List, [], map, length, All, Option, None, Some}
use Rattle.std.proofs.Common.{ap, sym, ◌∙◌}
use Rattle.httparse.proofs.GrammarLemmas.{request_unique}
use Rattle.httparse.specs.Grammar.{RequestHead}
use Rattle.httparse.specs.Spans.{IsWithin, IsHeaderWithin, span_bytes, header_bytes, name_and_value}
use Rattle.http_pieces.specs.declared.head.Head.{Head}
use Rattle.http_pieces.specs.declared.phase.Phase.{Phase}
use Rattle.http_pieces.specs.declared.phase.Phase.TheVariants as phase
use Rattle.http_pieces.specs.declared.refusal.Refusal.{Refusal}
use Rattle.http_pieces.specs.Form.{Form, IsPhaseSound}
use Rattle.http_pieces.specs.Cut.{IsSingle}
use Rattle.http_pieces.specs.Head.{IsRequestBlock, request_asks, request_kind, version_of}
use Rattle.http_pieces.specs.Looked.{most_looked}
use Rattle.http_pieces.specs.Reader.{Reading, ReaderValue, Partial, Waiting, Stopped, Done}
use Rattle.http_pieces.specs.Request.{HttpRequest, request_at, most_requests}

-- the parts of the head lie in the first n bytes
pub record IsHeadWithin (n : ℕ) (head : Head) : Type 0 where
  pub method : IsWithin n head.method
  pub target : IsWithin n head.target
  pub headers : All (IsHeaderWithin n) head.headers.items

-- the spans cover the parts of the head h, which is the block
pub record IsHeadAt (block : List ℕ) (head : Head) (h : RequestHead) : Type 0 where
  pub within : IsHeadWithin (length block) head
  pub block_is : IsRequestBlock block h
  pub method : span_bytes block head.method ≡ h.method
  pub target : span_bytes block head.target ≡ h.target
  pub version : head.version ≡ version_of h.minor
  pub fields : map (header_bytes block) head.headers.items ≡ map name_and_value h.fields

-- the block's head was read, or it is none
abbrev pub ReadsHead : List ℕ → Option Head → Type 0
ReadsHead block None = (h : RequestHead) → ¬ (IsRequestBlock block h)
ReadsHead block (Some head) = (h : RequestHead) × IsHeadAt block head h

-- the request number k whose parts a head covers in these bytes
abbrev pub request_of : List ℕ → Head → ℕ → ℕ → HttpRequest
request_of bytes head body_at k = request_at bytes head.method head.target head.version head.headers.items body_at k

-- requests, whose readers keep the places of the head's parts
abbrev pub request_form : Form Refusal Head HttpRequest
request_form = record { kind = request_kind; message = request_of; IsIn = λ bytes head. IsHeadWithin (length bytes) head }

-- a block is one head at most, as `httparse` proves
pub request_single : (k : ℕ) → IsSingle (request_kind k)
request_single k block a b x y =
    let same : x.head ≡ y.head = (request_unique block x.head y.head [] [] x.block_is.0 y.block_is.0).0 in
    x.asks_is ∙ ap (request_asks k) same ∙ sym y.asks_is

-- how far a reader is, by its bytes and its phase
abbrev pub reading_of : List ℕ → Phase Head Refusal → ℕ → Reading
reading_of bytes (phase.Head matched) taken = Partial bytes
reading_of bytes (phase.Body head body_at missing) taken = Partial bytes
reading_of bytes (phase.Complete head body_at) taken = Waiting (request_of bytes head body_at taken)
reading_of bytes (phase.Refused r) taken = Stopped r
reading_of bytes phase.Ended taken = Done

-- the reader of that
abbrev pub value_of : List ℕ → Phase Head Refusal → ℕ → ℕ → ReaderValue
value_of bytes phase taken looked = record { taken = taken; reading = reading_of bytes phase taken; looked = looked }

-- more requests can come
abbrev pub is_live : Phase Head Refusal → Bool
is_live (phase.Head matched) = true
is_live (phase.Body head body_at missing) = true
is_live (phase.Complete head body_at) = true
is_live (phase.Refused r) = false
is_live phase.Ended = false

pub record IsReaderSound (bytes : List ℕ) (phase : Phase Head Refusal) (taken looked : ℕ) : Type 0 where
  pub phase_sound : IsPhaseSound request_form bytes phase
  pub still : looked ≤ most_looked
  pub room : is_live phase ≡ true → taken < most_requests
  pub few : taken ≤ most_requests
