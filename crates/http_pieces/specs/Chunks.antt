-- A body in chunks, part by part, as bytes come: size lines, data and trailers (RFC 9112, section 7.1). `Chunked.antt` has
-- the grammar, and `chunks_law` says that both cut alike.
use Rattle.std.specs.Prelude.{◌≡◌, ℕ, zero, suc, ◌+◌, ◌-◌, ◌<◌, ◌≤◌, Bool, false, not, ◌&&◌, ◌||◌, if◌then◌else◌, ◌==◌, nat_lt, nat_le, nat_eq, List, [], ◌∷◌, ◌++◌, length, take, drop, position, option_map, unwrap_or, Option, None, Some}
use Rattle.std.specs.List.{list_all}
use Rattle.std.specs.Char.{is_ascii_hexdigit}
use Rattle.std.specs.Str.Parse.{digits_value}
use Rattle.std.specs.Cmp.Lexicographic.{pointwise}
use Rattle.httparse.specs.Grammar.{is_token, is_value_byte, trim_ows}
use Rattle.http_pieces.specs.declared.chunk_parts.ChunkFault.{ChunkFault}
use Rattle.http_pieces.specs.declared.chunk_parts.ChunkFault.TheVariants as fault
use Rattle.http_pieces.specs.declared.chunk_parts.Part.{Part}
use Rattle.http_pieces.specs.declared.chunk_parts.Part.TheVariants as part
use Rattle.http_pieces.specs.declared.chunk_parts.Place.{Place}
use Rattle.http_pieces.specs.declared.chunk_parts.Next.{Next}
use Rattle.http_pieces.specs.declared.chunk_parts.Next.TheVariants as next
use Rattle.http_pieces.specs.declared.chunk_parts.Decoded.{Decoded}
use Rattle.http_pieces.specs.declared.chunk_parts.Decoded.TheVariants as decoded
use Rattle.http_pieces.specs.Cut.{Cut, Incomplete, Refused, Complete}
use Rattle.http_pieces.specs.Head.{most_body}

-- a size has at most so many digits, and the extensions and trailers of a body at most so many bytes (this project's
-- choices)
abbrev pub most_digits : ℕ
most_digits = 16

abbrev pub most_dropped : ℕ
most_dropped = 8192

-- the text of a line that ends in CR LF, without them
abbrev pub line_text : List ℕ → Option (List ℕ)
line_text line =
    let n = length line - 2 in
    if pointwise nat_eq (drop n line) (13 ∷ 10 ∷ []) then Some (take n line) else None

abbrev pub begins_with_semicolon : List ℕ → Bool
begins_with_semicolon [] = false
begins_with_semicolon (b ∷ text) = b == 59

-- none, or a `;` behind blanks, and behind it what a field's value may hold (RFC 9112, section 7.1.1)
abbrev pub is_extension : List ℕ → Bool
is_extension text = (length text == 0) || (begins_with_semicolon (trim_ows text) && list_all is_value_byte text)

-- how many hexadecimal digits lead a text
abbrev pub digits_in : List ℕ → ℕ
digits_in text = unwrap_or (position (λ b. not (is_ascii_hexdigit b)) text) (length text)

-- 1 to 16 hexadecimal digits, in either case
abbrev pub is_hexadecimal : List ℕ → Bool
is_hexadecimal text = nat_lt 0 (length text) && nat_le (length text) most_digits && list_all is_ascii_hexdigit text

-- the number that 1 to 16 hexadecimal digits write
unfoldable pub hexadecimal : List ℕ → Option ℕ
hexadecimal text = if is_hexadecimal text then Some (digits_value 16 text) else None

abbrev pub with_extension : List ℕ → Option ℕ → Option (ℕ × ℕ)
with_extension text None = None
with_extension text (Some size) = if is_extension text then Some (size, length text) else None

-- a chunk's size, and how many bytes its extension has: `chunk-size [ chunk-ext ]`
abbrev pub size_in : List ℕ → Option (ℕ × ℕ)
size_in text = with_extension (drop (digits_in text) text) (hexadecimal (take (digits_in text) text))

-- the text before a colon is a name, and the one after it what a field's value may hold (RFC 9112, section 5)
abbrev pub is_field_at : List ℕ → Option ℕ → Bool
is_field_at text None = false
is_field_at text (Some n) = is_token (take n text) && list_all is_value_byte (drop (n + 1) text)

unfoldable pub is_field : List ℕ → Bool
is_field text = is_field_at text (position (λ b. b == 58) text)

-- ---- one part

-- so many bytes are dropped, if the place has them to spare
abbrev pub dropping : Place → ℕ → (ℕ → Next) → Next
dropping place n after = if nat_lt place.spare n then next.Fault fault.Malformed else after (place.spare - n)

abbrev pub place_at : Part → ℕ → ℕ → Place
place_at p room spare = record { part = p; room = room; spare = spare }

-- behind a size line: the data, or the trailers
abbrev pub after_size : Place → ℕ → ℕ → Next
after_size place size spare =
    if size == 0 then next.Goes (place_at part.Trailer place.room spare) 0
    else if nat_lt place.room size then next.Fault fault.TooLarge
    else next.Goes (place_at (part.Data size) (place.room - size) spare) 0

abbrev pub next_size : Place → Option (ℕ × ℕ) → Next
next_size place None = next.Fault fault.Malformed
next_size place (Some s) = dropping place s.1 (after_size place s.0)

-- behind a line of the trailers: an empty one is the last
abbrev pub next_trailer : Place → List ℕ → Next
next_trailer place text =
    if length text == 0 then next.End
    else if is_field text then dropping place (length text) (λ spare. next.Goes (place_at part.Trailer place.room spare) 0)
    else next.Fault fault.Malformed

abbrev pub next_by : Part → Place → List ℕ → Next
next_by part.Size place text = next_size place (size_in text)
next_by (part.Data n) place text = next.Goes (place_at part.Size place.room place.spare) n
next_by part.Trailer place text = next_trailer place text

abbrev pub next_line : Place → Option (List ℕ) → Next
next_line place None = next.Fault fault.Malformed
next_line place (Some text) = next_by place.part place text

-- what a whole part leads to: a fault, the body's end, or the next part, and how many of its first bytes are data
abbrev pub next_of : Place → List ℕ → Next
next_of place bytes = next_line place (line_text bytes)

-- ---- the parts of a text

-- where the first line of a text ends
abbrev pub line_end : List ℕ → Option ℕ
line_end [] = None
line_end (b ∷ text) = if b == 10 then Some 1 else option_map suc (line_end text)

-- a part has at most so many bytes: a chunk's data and CR LF, or a line with its digits, CR LF and what may be dropped
abbrev pub most_of : Part → ℕ → ℕ
most_of (part.Data n) spare = n + 2
most_of part.Size spare = spare + 18
most_of part.Trailer spare = spare + 18

-- where the part ends that leads a text, if it has come
abbrev pub part_end : Part → ℕ → List ℕ → Option ℕ
part_end (part.Data n) spare text = if nat_lt (length text) (n + 2) then None else Some (n + 2)
part_end part.Size spare text = line_end (take (spare + 18) text)
part_end part.Trailer spare text = line_end (take (spare + 18) text)

-- the data goes in front of what is cut
abbrev pub onto : List ℕ → Cut ChunkFault (List ℕ) → Cut ChunkFault (List ℕ)
onto front Incomplete = Incomplete
onto front (Refused f) = Refused f
onto front (Complete body rest) = Complete (front ++ body) rest

-- what a text is cut into, by what its first part leads to, and what the text behind it is cut into
abbrev pub cut_next : (Place → List ℕ → Cut ChunkFault (List ℕ)) → Next → List ℕ → List ℕ → Cut ChunkFault (List ℕ)
cut_next cut (next.Fault f) bytes after = Refused f
cut_next cut next.End bytes after = Complete [] after
cut_next cut (next.Goes place n) bytes after = onto (take n bytes) (cut place after)

abbrev pub cut_part : (Place → List ℕ → Cut ChunkFault (List ℕ)) → Place → List ℕ → Option ℕ → Cut ChunkFault (List ℕ)
cut_part cut place text None =
    if nat_lt (length text) (most_of place.part place.spare) then Incomplete else Refused fault.Malformed
cut_part cut place text (Some n) = cut_next cut (next_of place (take n text)) (take n text) (drop n text)

-- of at most so many parts; each has a byte at least
abbrev pub cut_parts : ℕ → Place → List ℕ → Cut ChunkFault (List ℕ)
cut_parts zero place text = Incomplete
cut_parts (suc parts) place text = cut_part (cut_parts parts) place text (part_end place.part place.spare text)

-- what the bytes from a place of a body on are cut into
abbrev pub cut_at : Place → List ℕ → Cut ChunkFault (List ℕ)
cut_at place text = cut_parts (suc (length text)) place text

-- a body begins with a size line
abbrev pub first_place : Place
first_place = place_at part.Size most_body most_dropped

-- what the bytes behind a head are cut into, where the body is in chunks
abbrev pub cut_chunks : List ℕ → Cut ChunkFault (List ℕ)
cut_chunks text = cut_at first_place text

-- the message with a body that was cut out of its chunks, and what it is refused for where they are
abbrev pub cut_with : {R V : Type 0} → (ChunkFault → R) → (List ℕ → V) → Cut ChunkFault (List ℕ) → Cut R V
cut_with refusal message Incomplete = Incomplete
cut_with refusal message (Refused f) = Refused (refusal f)
cut_with refusal message (Complete body rest) = Complete (message body) rest

-- ---- how far a body is

-- bytes of a part that has not ended, and may end yet
pub record IsOpen (place : Place) (left : List ℕ) : Type 0 where
  pub endless : part_end place.part place.spare left ≡ None
  pub short : length left < most_of place.part place.spare

-- what the bytes to come are cut into, where so many bytes of `body` are data, and those behind them are of the part at
-- the place
abbrev pub cut_on : List ℕ → ℕ → Place → List ℕ → Cut ChunkFault (List ℕ)
cut_on body whole place more = onto (take whole body) (cut_at place (drop whole body ++ more))

-- bytes were taken of what comes to `was`, and this is what is left to come
abbrev pub DecodesTo : (List ℕ → Cut ChunkFault (List ℕ)) → List ℕ → List ℕ → ℕ → Place → Decoded → Type 0
DecodesTo was taken body whole place decoded.More =
    (whole ≤ length body) × IsOpen place (drop whole body) × ((more : List ℕ) → was (taken ++ more) ≡ cut_on body whole place more)
DecodesTo was taken body whole place decoded.Whole = (more : List ℕ) → was (taken ++ more) ≡ Complete body more
DecodesTo was taken body whole place (decoded.Fault f) = (more : List ℕ) → was (taken ++ more) ≡ Refused f
