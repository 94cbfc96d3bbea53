-- A body in chunks by its grammar (RFC 9112, section 7.1). Each form is a tree, the bytes that it is written as, and a
-- fact that says which trees are valid. `chunks_law` says that bodies are cut out of their chunks by it.
use Rattle.std.specs.Prelude.{◌≡◌, ℕ, ◌<◌, ◌≤◌, true, List, [], ◌∷◌, ◌++◌, length, All}
use Rattle.std.specs.List.{flat_map, list_all}
use Rattle.std.specs.Char.{is_ascii_hexdigit}
use Rattle.std.specs.Str.Parse.{digits_value}
use Rattle.httparse.specs.Grammar.{is_ows, is_token, is_value_byte}
use Rattle.http_pieces.specs.Chunks.{most_digits, most_dropped}
use Rattle.http_pieces.specs.Head.{most_body}

-- CRLF
abbrev pub crlf : List ℕ
crlf = 13 ∷ 10 ∷ []

-- [ chunk-ext ]: nothing, or all from a ";" on, with blanks before it. What an extension says is not read, so it may
-- have any byte of a field's value (section 7.1.1)
pub data IsExtension (text : List ℕ) : Type 0 where
  without : text ≡ [] → IsExtension text
  extended : (blanks words : List ℕ) → list_all is_ows blanks ≡ true → list_all is_value_byte words ≡ true
      → text ≡ blanks ++ 59 ∷ words → IsExtension text

-- chunk-size [ chunk-ext ] CRLF
pub record SizeLine : Type 0 where
  pub digits : List ℕ
  pub extension : List ℕ

abbrev pub print_size : SizeLine → List ℕ
print_size line = line.digits ++ line.extension ++ crlf

-- chunk-size = 1*HEXDIG
pub record IsSizeLine (line : SizeLine) : Type 0 where
  pub some : 0 < length line.digits
  pub digits : list_all is_ascii_hexdigit line.digits ≡ true
  pub extension : IsExtension line.extension

abbrev pub size_of : SizeLine → ℕ
size_of line = digits_value 16 line.digits

-- chunk = chunk-size [ chunk-ext ] CRLF chunk-data CRLF
pub record Chunk : Type 0 where
  pub line : SizeLine
  pub octets : List ℕ

abbrev pub print_chunk : Chunk → List ℕ
print_chunk chunk = print_size chunk.line ++ chunk.octets ++ crlf

-- chunk-data = 1*OCTET, as many as the size says
pub record IsChunk (chunk : Chunk) : Type 0 where
  pub line : IsSizeLine chunk.line
  pub some : 0 < length chunk.octets
  pub size : size_of chunk.line ≡ length chunk.octets

-- field-line = field-name ":" OWS field-value OWS; the value here has these blanks too (section 5)
pub record Trailer : Type 0 where
  pub name : List ℕ
  pub value : List ℕ

abbrev pub print_field : Trailer → List ℕ
print_field field = field.name ++ 58 ∷ field.value

abbrev pub print_trailer : Trailer → List ℕ
print_trailer field = print_field field ++ crlf

pub record IsTrailer (field : Trailer) : Type 0 where
  pub name : is_token field.name ≡ true
  pub value : list_all is_value_byte field.value ≡ true

-- chunked-body = *chunk last-chunk trailer-section CRLF, where trailer-section = *( field-line CRLF )
pub record Chunked : Type 0 where
  pub chunks : List Chunk
  pub last : SizeLine
  pub trailers : List Trailer

abbrev pub print_chunked : Chunked → List ℕ
print_chunked c = flat_map print_chunk c.chunks ++ print_size c.last ++ flat_map print_trailer c.trailers ++ crlf

-- last-chunk = 1*("0") [ chunk-ext ] CRLF
pub record IsChunked (c : Chunked) : Type 0 where
  pub chunks : All IsChunk c.chunks
  pub last : IsSizeLine c.last
  pub zero : size_of c.last ≡ 0
  pub trailers : All IsTrailer c.trailers

-- the body that it encodes
abbrev pub body_of : Chunked → List ℕ
body_of c = flat_map (λ chunk. chunk.octets) c.chunks

-- the bytes that are dropped of it: its extensions, and its trailers without their line ends
abbrev pub dropped_of : Chunked → List ℕ
dropped_of c = flat_map (λ chunk. chunk.line.extension) c.chunks ++ c.last.extension ++ flat_map print_field c.trailers

-- this project's limits
pub record IsWithinLimits (c : Chunked) : Type 0 where
  pub body : length (body_of c) ≤ most_body
  pub dropped : length (dropped_of c) ≤ most_dropped
  pub digits : All (λ chunk. length chunk.line.digits ≤ most_digits) c.chunks
  pub last_digits : length c.last.digits ≤ most_digits

-- the text is a body in chunks, within the limits, and then rest
pub record IsInChunks (text body rest : List ℕ) : Type 0 where
  pub tree : Chunked
  pub grammar : IsChunked tree
  pub limits : IsWithinLimits tree
  pub body_is : body ≡ body_of tree
  pub text_is : text ≡ print_chunked tree ++ rest
