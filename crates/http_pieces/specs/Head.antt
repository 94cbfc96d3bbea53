-- Which heads of requests are taken, and how long their bodies are (RFC 9112, sections 3 and 6; RFC 9110, section 7.2).
use Rattle.std.specs.Prelude.{◌≡◌, ℕ, ◌≤◌, Bool, true, false, if◌then◌else◌, ◌==◌, nat_lt, List, [], ◌∷◌, length, map, codes, Result, Ok, Err, Option, None, Some}
use Rattle.httparse.specs.Grammar.{RequestHead, ReadsRequest}
use Rattle.httparse.specs.Spans.{name_and_value}
use Rattle.http_pieces.specs.declared.refusal.Refusal.{Refusal}
use Rattle.http_pieces.specs.declared.refusal.Refusal.TheVariants as refusal
use Rattle.http_pieces.specs.declared.version.Version.{Version}
use Rattle.http_pieces.specs.declared.version.Version.TheVariants.{V10, V11}
use Rattle.http_pieces.specs.Cut.{Asks, Refusal as RefusalAsked, Body, Kind}
use Rattle.http_pieces.specs.Fields.{NamedValue, values_of, decimal}
use Rattle.http_pieces.specs.Request.{HttpRequest}

-- a head has at most so many fields (this project's choice)
abbrev pub most_fields : ℕ
most_fields = 64

-- a body has at most so many bytes (this project's choice)
abbrev pub most_body : ℕ
most_body = 65536

-- no field of the name
abbrev pub is_absent : List (List ℕ) → Bool
is_absent [] = true
is_absent (v ∷ values) = false

-- the length that `Content-Length` fields say: none is 0, and one of 1 to 10 digits is its number (RFC 9112, section 6.3)
abbrev pub stated_length : List (List ℕ) → Option ℕ
stated_length [] = Some 0
stated_length (v ∷ []) = decimal v
stated_length (v ∷ w ∷ values) = None

-- HTTP/1.1 has one `Host` field, HTTP/1.0 at most one (RFC 9112, section 3.2)
abbrev pub is_host : Version → List (List ℕ) → Bool
is_host V10 [] = true
is_host V11 [] = false
is_host version (v ∷ []) = true
is_host version (v ∷ w ∷ values) = false

-- the body's length, or the refusal, when `Host` is in order
abbrev pub within_limit : ℕ → Result ℕ Refusal
within_limit n = if nat_lt most_body n then Err refusal.BodyTooLarge else Ok n

abbrev pub length_or_refusal : Bool → Option ℕ → Result ℕ Refusal
length_or_refusal host None = Err refusal.BadLength
length_or_refusal host (Some n) = if host then within_limit n else Err refusal.BadHost

-- the length of the body that follows a head, or its refusal: the first that applies of a transfer encoding, a length
-- that is none, a wrong number of `Host` fields, and a body above the limit
abbrev pub body_length : Version → List NamedValue → Result ℕ Refusal
body_length version fields =
    if is_absent (values_of (codes "transfer-encoding") fields)
    then length_or_refusal (is_host version (values_of (codes "host") fields)) (stated_length (values_of (codes "content-length") fields))
    else Err refusal.LengthRequired

abbrev pub version_of : ℕ → Version
version_of minor = if minor == 0 then V10 else V11

-- the request number k with that head and this body
abbrev pub request_with : ℕ → RequestHead → List ℕ → HttpRequest
request_with k h body = record {
  method = h.method;
  target = h.target;
  version = version_of h.minor;
  fields = map name_and_value h.fields;
  body = body;
  number = k;
}

abbrev pub asks_with : Result ℕ Refusal → (List ℕ → HttpRequest) → Asks Refusal HttpRequest
asks_with (Err r) message = RefusalAsked r
asks_with (Ok n) message = Body n message

-- what the head of request number k asks for
abbrev pub request_asks : ℕ → RequestHead → Asks Refusal HttpRequest
request_asks k h = asks_with (body_length (version_of h.minor) (map name_and_value h.fields)) (request_with k h)

-- the whole block is one request head with at most 64 fields
abbrev pub IsRequestBlock : List ℕ → RequestHead → Type 0
IsRequestBlock block h = ReadsRequest block h [] × (length h.fields ≤ most_fields)

-- the block is a request's head, which asks for this
pub record IsRequestHeadAsking (k : ℕ) (block : List ℕ) (a : Asks Refusal HttpRequest) : Type 0 where
  pub head : RequestHead
  pub block_is : IsRequestBlock block head
  pub asks_is : a ≡ request_asks k head

-- requests, where this one is number k of its connection
abbrev pub request_kind : ℕ → Kind Refusal HttpRequest
request_kind k = record { IsHead = IsRequestHeadAsking k; too_large = refusal.HeadTooLarge; no_head = refusal.NotAHead }
