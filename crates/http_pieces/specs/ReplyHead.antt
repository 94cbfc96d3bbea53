-- Which heads of replies are taken, and how long their bodies are (RFC 9112, sections 4 and 6; RFC 9110, section 6.4.1).
use Rattle.std.specs.Prelude.{◌≡◌, ℕ, ◌≤◌, Bool, false, not, ◌&&◌, ◌||◌, if◌then◌else◌, ◌==◌, nat_lt, List, [], ◌∷◌, length, map, codes, Result, Ok, Err, Option, None, Some}
use Rattle.httparse.specs.Grammar.{ResponseHead, ReadsResponse, status_code}
use Rattle.httparse.specs.Spans.{name_and_value}
use Rattle.http_pieces.specs.declared.chunk_parts.ChunkFault.{ChunkFault}
use Rattle.http_pieces.specs.declared.chunk_parts.ChunkFault.TheVariants as chunk
use Rattle.http_pieces.specs.declared.framing.Framing.{Framing}
use Rattle.http_pieces.specs.declared.framing.Framing.TheVariants as framing
use Rattle.http_pieces.specs.declared.reply.HttpReply.{HttpReply}
use Rattle.http_pieces.specs.declared.reply_fault.ReplyFault.{ReplyFault}
use Rattle.http_pieces.specs.declared.reply_fault.ReplyFault.TheVariants as fault
use Rattle.http_pieces.specs.Chunks.{cut_chunks, cut_with}
use Rattle.http_pieces.specs.Cut.{Cut, Asks, Refusal, Body, Coded, Kind}
use Rattle.http_pieces.specs.Fields.{NamedValue, same_without_case, values_of, asks_to_close}
use Rattle.http_pieces.specs.Head.{most_fields, most_body, is_absent, stated_length}

-- the status of a final reply, of three digits: those from 100 to 199 are interim (RFC 9110, sections 15 and 15.2)
abbrev pub IsFinalStatus : ℕ → Type 0
IsFinalStatus status = (200 ≤ status) × (status ≤ 999)

-- 204 No Content and 304 Not Modified end with their heads, whatever length these name (RFC 9112, section 6.3; RFC 9110, sections 15.3.5 and 15.4.5)
abbrev pub has_no_content : ℕ → Bool
has_no_content status = (status == 204) || (status == 304)

-- the body's length where `Content-Length` is that number, if it is one (RFC 9112, section 6.2)
abbrev pub length_by_number : ℕ → Option ℕ → Result ℕ ReplyFault
length_by_number status None = Err (fault.BadLength status)
length_by_number status (Some n) =
    if has_no_content status then Ok 0 else if nat_lt most_body n then Err (fault.BodyTooLarge status) else Ok n

-- the body's length where the `Content-Length` fields have these values; without one a body would last to the end of the
-- connection, and such replies are refused (RFC 9112, section 6.3)
abbrev pub length_by_fields : ℕ → List (List ℕ) → Result ℕ ReplyFault
length_by_fields status [] = if has_no_content status then Ok 0 else Err (fault.NotFixedLength status)
length_by_fields status (v ∷ values) = length_by_number status (stated_length (v ∷ values))

-- the length of the body that follows a head, or its fault: the first that applies of a transfer encoding (RFC 9112, section
-- 6.1), no length, a length that is none, and a body above the limit
abbrev pub reply_length : ℕ → List NamedValue → Result ℕ ReplyFault
reply_length status fields =
    if is_absent (values_of (codes "transfer-encoding") fields)
    then length_by_fields status (values_of (codes "content-length") fields)
    else Err (fault.NotFixedLength status)

-- the value of a field that stands once
abbrev pub one_value : List (List ℕ) → Option (List ℕ)
one_value [] = None
one_value (v ∷ []) = Some v
one_value (v ∷ w ∷ values) = None

-- the connection ends with a reply of HTTP/1.0, and with one that asks for the close (RFC 9112, section 9.3, which leaves
-- it to the recipient to honour HTTP/1.0's `keep-alive`: this project does not)
abbrev pub closes_after : ℕ → List NamedValue → Bool
closes_after minor fields = (minor == 0) || asks_to_close fields

-- the reply with that head and this body; blanks at both ends of a field's value are no part of it (RFC 9110, section 5.5)
abbrev pub reply_with : ResponseHead → List ℕ → HttpReply
reply_with h body = record {
  status = status_code h;
  content_type = one_value (values_of (codes "content-type") (map name_and_value h.fields));
  closes = closes_after h.minor (map name_and_value h.fields);
  body = body;
}

abbrev pub asks_by_length : Result ℕ ReplyFault → (List ℕ → HttpReply) → Asks ReplyFault HttpReply
asks_by_length (Err f) message = Refusal f
asks_by_length (Ok n) message = Body n message

-- the one transfer coding is `chunked`; its name compares without case (RFC 9112, section 7)
abbrev pub is_chunked : List (List ℕ) → Bool
is_chunked [] = false
is_chunked (v ∷ []) = same_without_case v (codes "chunked")
is_chunked (v ∷ w ∷ values) = false

-- the body is in chunks that are taken: only where any framing is, in HTTP/1.1, where a body follows, and without a length
-- beside them, which a recipient may refuse (RFC 9112, sections 6.1 and 6.3)
abbrev pub takes_chunks : Framing → ℕ → ℕ → List NamedValue → Bool
takes_chunks framing.Fixed status minor fields = false
takes_chunks framing.Any status minor fields =
    (minor == 1) && not (has_no_content status) && is_chunked (values_of (codes "transfer-encoding") fields)
    && is_absent (values_of (codes "content-length") fields)

-- why a reply is refused where its chunks are
abbrev pub chunk_fault : ℕ → ChunkFault → ReplyFault
chunk_fault status chunk.Malformed = fault.BadChunk status
chunk_fault status chunk.TooLarge = fault.BodyTooLarge status

-- what the bytes behind a reply's head are cut into, where its body is in chunks
abbrev pub cut_reply_chunks : ResponseHead → List ℕ → Cut ReplyFault HttpReply
cut_reply_chunks h after = cut_with (chunk_fault (status_code h)) (reply_with h) (cut_chunks after)

-- what a reply's head asks for, where bodies may be framed so
abbrev pub reply_asks : Framing → ResponseHead → Asks ReplyFault HttpReply
reply_asks framing h =
    if takes_chunks framing (status_code h) h.minor (map name_and_value h.fields)
    then Coded (cut_reply_chunks h)
    else asks_by_length (reply_length (status_code h) (map name_and_value h.fields)) (reply_with h)

-- the whole block is one head of a final reply with at most 64 fields (RFC 9112, section 4)
pub record IsReplyBlock (block : List ℕ) (h : ResponseHead) : Type 0 where
  pub reads : ReadsResponse block h []
  pub few : length h.fields ≤ most_fields
  pub final : IsFinalStatus (status_code h)

-- the block is a reply's head, which asks for this
pub record IsReplyHeadAsking (framing : Framing) (block : List ℕ) (a : Asks ReplyFault HttpReply) : Type 0 where
  pub head : ResponseHead
  pub block_is : IsReplyBlock block head
  pub asks_is : a ≡ reply_asks framing head

-- replies; `IsCut (reply_kind framing) text` says what a text is cut into. With `Fixed` the kind is the specification's
abbrev pub reply_kind : Framing → Kind ReplyFault HttpReply
reply_kind framing = record { IsHead = IsReplyHeadAsking framing; too_large = fault.HeadTooLarge; no_head = fault.NotAHead }
