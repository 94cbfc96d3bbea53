-- A body is cut out of its chunks exactly where the grammar writes it.
use Rattle.std.proofs.Common.{◌≡◌, ℕ, zero, suc, ◌+◌, ◌-◌, ◌<◌, ◌≤◌, ◌==◌, Bool, true, false, nat_lt, List, [], ◌∷◌, ◌++◌, length, take, drop, refl, sym, ap, subst, ◌∙◌, arith, append_assoc, length-append, length-take, Option, Some, None, All}
use Rattle.std.specs.Prelude.{if◌then◌else◌}
use Rattle.std.specs.List.{flat_map}
use Rattle.std.proofs.lemmas.Bool.{eqb-true, le-ltb}
use Rattle.std.proofs.lemmas.Bool.Decides.{nat_tests}
use Rattle.std.proofs.lemmas.List.{take-append-drop, take_all, take_at, nil_from_length}
use Rattle.std.proofs.lemmas.List.Elements.{All-nil, All-cons, All-head, All-tail}
use Rattle.http_pieces.specs.declared.chunk_parts.ChunkFault.{ChunkFault}
use Rattle.http_pieces.specs.declared.chunk_parts.ChunkFault.TheVariants as fault
use Rattle.http_pieces.specs.declared.chunk_parts.Part.{Part}
use Rattle.http_pieces.specs.declared.chunk_parts.Part.TheVariants as part
use Rattle.http_pieces.specs.declared.chunk_parts.Place.{Place}
use Rattle.http_pieces.specs.declared.chunk_parts.Next.{Next}
use Rattle.http_pieces.specs.declared.chunk_parts.Next.TheVariants as next
use Rattle.http_pieces.specs.Chunked.{crlf, Chunk, Chunked, IsChunk, IsChunked, IsInChunks, IsSizeLine, IsTrailer, SizeLine, Trailer, body_of, dropped_of, print_chunk, print_chunked, print_field, print_size, print_trailer, size_of}
use Rattle.http_pieces.specs.Chunks.{after_size, cut_at, cut_chunks, cut_next, cut_part, cut_parts, dropping, first_place, is_field, line_end, line_text, most_of, next_by, next_line, next_of, next_size, next_trailer, onto, part_end, place_at, size_in}
use Rattle.http_pieces.specs.Cut.{Cut, Incomplete, Refused, Complete}
use Rattle.http_pieces.proofs.ChunkLemmas.{Stays, at_stays, at_step, data_some}
use Rattle.http_pieces.proofs.LineLemmas.{field_is, field_passes, field_unbroken, length_line, line_ends, line_of_text, ReadsSize, size_line_is, size_line_read, size_unbroken, text_of_line}

-- ---- what the grammar writes is cut so

onto_none : (c : Cut ChunkFault (List ℕ)) → onto [] c ≡ c
onto_none Incomplete = refl
onto_none (Refused f) = refl
onto_none (Complete body rest) = refl

spared : (place : Place) (count : ℕ) (after : ℕ → Next) → count ≤ place.spare
    → dropping place count after ≡ after (place.spare - count)
spared place count after le =
    rw (le-ltb place.spare count le) refl

-- a line within its limit is a whole part
line_within : (spare : ℕ) (text : List ℕ) → line_end text ≡ None → length text ≤ spare + 16
    → line_end (take (spare + 18) (text ++ crlf)) ≡ Some (length (text ++ crlf))
line_within spare text none le = ap line_end (take_all (spare + 18) (text ++ crlf) (omega (arith, le, length_line text))) ∙ line_ends text none

data_step : (room spare : ℕ) (octets more : List ℕ)
    → cut_at (place_at (part.Data (length octets)) room spare) ((octets ++ crlf) ++ more) ≡ onto octets (cut_at (place_at part.Size room spare) more)
data_step room spare octets more =
    let place = place_at (part.Data (length octets)) room spare in
    let long = le-ltb (length (octets ++ crlf)) (length octets + 2) (omega (arith, length_line octets)) in
    let ends : part_end place.part spare (octets ++ crlf) ≡ Some (length (octets ++ crlf)) = rw long (ap Some (sym (length_line octets))) in
    let read : next_of place (octets ++ crlf) ≡ next.Goes (place_at part.Size room spare) (length octets) = ap (next_line place) (text_of_line octets) in
    at_step place (octets ++ crlf) more ends ∙ ap (λ x. cut_next cut_at x (octets ++ crlf) more) read
    ∙ ap (λ t. onto t (cut_at (place_at part.Size room spare) more)) (take_at octets crlf (length octets) refl)

chunk_text : (chunk : Chunk) (more : List ℕ)
    → print_chunk chunk ++ more ≡ print_size chunk.line ++ ((chunk.octets ++ crlf) ++ more)
chunk_text chunk more =
    ap (λ t. t ++ more) (append_assoc (print_size chunk.line) chunk.octets crlf) ∙ append_assoc (print_size chunk.line) (chunk.octets ++ crlf) more

module _ (room spare : ℕ) where
  -- a size line leads to what its size says
  size_step : (line : SizeLine) → IsSizeLine line → length line.digits ≤ 16 → length line.extension ≤ spare
      → (q : Place)
      → after_size (place_at part.Size room spare) (size_of line) (spare - length line.extension) ≡ next.Goes q 0
      → (more : List ℕ) → cut_at (place_at part.Size room spare) (print_size line ++ more) ≡ cut_at q more
  size_step line is few le q goes more =
      let place = place_at part.Size room spare in
      let text = line.digits ++ line.extension in
      let ends = line_within spare text (size_unbroken line is) (omega (arith, few, le, length-append line.digits line.extension)) in
      let read : next_of place (text ++ crlf) ≡ next.Goes q 0 =
      ap (next_line place) (text_of_line text) ∙ ap (next_size place) (size_line_read line is few)
      ∙ spared place (length line.extension) (after_size place (size_of line)) le ∙ goes in
      at_step place (text ++ crlf) more ends ∙ ap (λ x. cut_next cut_at x (text ++ crlf) more) read ∙ onto_none (cut_at q more)

  last_step : (line : SizeLine) → IsSizeLine line → length line.digits ≤ 16 → length line.extension ≤ spare
      → size_of line ≡ 0
      → (more : List ℕ)
      → cut_at (place_at part.Size room spare) (print_size line ++ more) ≡ cut_at (place_at part.Trailer room (spare - length line.extension)) more
  last_step line is few le zero_is more =
      let left = spare - length line.extension in
      size_step line is few le (place_at part.Trailer room left) (ap (λ n. after_size (place_at part.Size room spare) n left) zero_is) more

  chunk_step : (chunk : Chunk) → IsChunk chunk → length chunk.line.digits ≤ 16 → length chunk.line.extension ≤ spare
      → length chunk.octets ≤ room → (more : List ℕ)
      → cut_at (place_at part.Size room spare) (print_chunk chunk ++ more)
      ≡ onto chunk.octets (cut_at (place_at part.Size (room - length chunk.octets) (spare - length chunk.line.extension)) more)
  chunk_step chunk is few le fits more =
      let n = length chunk.octets in
      let left = spare - length chunk.line.extension in
      let some : (n == 0) ≡ false = let positive = is.some in grind (arith, nat_tests) in
      let enough : nat_lt room n ≡ false = grind (arith, nat_tests) in
      let goes : after_size (place_at part.Size room spare) (size_of chunk.line) left ≡ next.Goes (place_at (part.Data n) (room - n) left) 0 =
      ap (λ m. after_size (place_at part.Size room spare) m left) is.size ∙ rw (some, enough) refl in
      ap (cut_at (place_at part.Size room spare)) (chunk_text chunk more)
      ∙ size_step chunk.line is.line few le (place_at (part.Data n) (room - n) left) goes ((chunk.octets ++ crlf) ++ more)
      ∙ data_step (room - n) left chunk.octets more

  trailer_step : (field : Trailer) → IsTrailer field → length (print_field field) ≤ spare → (more : List ℕ)
      → cut_at (place_at part.Trailer room spare) (print_trailer field ++ more) ≡ cut_at (place_at part.Trailer room (spare - length (print_field field))) more
  trailer_step field is le more =
      let place = place_at part.Trailer room spare in
      let text = print_field field in
      let after = λ (left : ℕ). next.Goes (place_at part.Trailer room left) 0 in
      let ends = line_within spare text (field_unbroken field is) (omega (arith, le)) in
      let positive : 0 < length text = omega (arith, length-append field.name (58 ∷ field.value)) in
      let some : (length text == 0) ≡ false = grind (arith, nat_tests) in
      let trailer : next_trailer place text ≡ dropping place (length text) after = rw (some, field_passes field is) refl in
      let read : next_of place (text ++ crlf) ≡ after (spare - length text) =
      ap (next_line place) (text_of_line text) ∙ trailer ∙ spared place (length text) after le in
      at_step place (text ++ crlf) more ends ∙ ap (λ x. cut_next cut_at x (text ++ crlf) more) read
      ∙ onto_none (cut_at (place_at part.Trailer room (spare - length text)) more)

  end_step : (rest : List ℕ) → cut_at (place_at part.Trailer room spare) (crlf ++ rest) ≡ Complete [] rest
  end_step rest =
      let place = place_at part.Trailer room spare in
      at_step place crlf rest (line_within spare [] refl (omega arith)) ∙ ap (λ x. cut_next cut_at x crlf rest) (ap (next_line place) (text_of_line []))

trailers_cut : (room spare : ℕ) (trailers : List Trailer) (rest : List ℕ) → All IsTrailer trailers
    → length (flat_map print_field trailers) ≤ spare
    → cut_at (place_at part.Trailer room spare) (flat_map print_trailer trailers ++ (crlf ++ rest)) ≡ Complete [] rest
trailers_cut room spare [] rest all le = end_step room spare rest
trailers_cut room spare (field ∷ trailers) rest all le =
    let n = length (print_field field) in
    let sum = length-append (print_field field) (flat_map print_field trailers) in
    ap (cut_at (place_at part.Trailer room spare)) (append_assoc (print_trailer field) (flat_map print_trailer trailers) (crlf ++ rest))
    ∙ trailer_step room spare field (All-head IsTrailer field trailers all) (omega (arith, le, sum)) (flat_map print_trailer trailers ++ (crlf ++ rest))
    ∙ trailers_cut room (spare - n) trailers rest (All-tail IsTrailer field trailers all) (omega (arith, le, sum))

abbrev extension_of : Chunk → List ℕ
extension_of chunk = chunk.line.extension

abbrev octets_of : Chunk → List ℕ
octets_of chunk = chunk.octets

abbrev HasFewDigits : Chunk → Type 0
HasFewDigits chunk = length chunk.line.digits ≤ 16

-- behind the chunks
module _ (last : SizeLine) (trailers : List Trailer) (rest : List ℕ) (is : IsSizeLine last) (few : length last.digits ≤ 16)
    (zero_is : size_of last ≡ 0) (fields : All IsTrailer trailers) where
  abbrev tail : List ℕ
  tail = print_size last ++ (flat_map print_trailer trailers ++ (crlf ++ rest))

  abbrev lost : List ℕ
  lost = last.extension ++ flat_map print_field trailers

  chunks_cut : (chunks : List Chunk) (room spare : ℕ) → All IsChunk chunks → All HasFewDigits chunks
      → length (flat_map octets_of chunks) ≤ room
      → length (flat_map extension_of chunks ++ lost) ≤ spare
      → cut_at (place_at part.Size room spare) (flat_map print_chunk chunks ++ tail) ≡ Complete (flat_map octets_of chunks) rest
  chunks_cut [] room spare all digits fits le =
      let sum = length-append last.extension (flat_map print_field trailers) in
      last_step room spare last is few (omega (arith, le, sum)) zero_is (flat_map print_trailer trailers ++ (crlf ++ rest))
      ∙ trailers_cut room (spare - length last.extension) trailers rest fields (omega (arith, le, sum))
  chunks_cut (chunk ∷ chunks) room spare all digits fits le =
      let e = length chunk.line.extension in
      let n = length chunk.octets in
      let bytes = length-append chunk.octets (flat_map octets_of chunks) in
      let parts = ap length (append_assoc chunk.line.extension (flat_map extension_of chunks) lost) in
      let sum = length-append chunk.line.extension (flat_map extension_of chunks ++ lost) in
      ap (cut_at (place_at part.Size room spare)) (append_assoc (print_chunk chunk) (flat_map print_chunk chunks) tail)
      ∙ chunk_step room spare chunk (All-head IsChunk chunk chunks all) (All-head HasFewDigits chunk chunks digits)
      (omega (arith, le, parts, sum)) (omega (arith, fits, bytes)) (flat_map print_chunk chunks ++ tail)
      ∙ ap (onto chunk.octets) (chunks_cut chunks (room - n) (spare - e) (All-tail IsChunk chunk chunks all)
      (All-tail HasFewDigits chunk chunks digits) (omega (arith, fits, bytes)) (omega (arith, le, parts, sum)))

-- a body's bytes, part by part
written_is : (c : Chunked) (rest : List ℕ)
    → print_chunked c ++ rest ≡ flat_map print_chunk c.chunks ++ (print_size c.last ++ (flat_map print_trailer c.trailers ++ (crlf ++ rest)))
written_is c rest =
    let chunks = flat_map print_chunk c.chunks in
    let fields = flat_map print_trailer c.trailers in
    append_assoc (chunks ++ print_size c.last ++ fields) crlf rest
    ∙ append_assoc (chunks ++ print_size c.last) fields (crlf ++ rest)
    ∙ append_assoc chunks (print_size c.last) (fields ++ (crlf ++ rest))

-- so much is dropped of it
dropped_is : (c : Chunked)
    → length (dropped_of c) ≡ length (flat_map extension_of c.chunks) + (length c.last.extension + length (flat_map print_field c.trailers))
dropped_is c =
    let extensions = flat_map extension_of c.chunks in
    let fields = flat_map print_field c.trailers in
    let all : length (dropped_of c) ≡ length (extensions ++ c.last.extension) + length fields = length-append (extensions ++ c.last.extension) fields in
    omega (arith, all, length-append extensions c.last.extension)

pub written_cut : (text body rest : List ℕ) → IsInChunks text body rest → cut_chunks text ≡ Complete body rest
written_cut text body rest is =
    let c = is.tree in
    let lost = c.last.extension ++ flat_map print_field c.trailers in
    let dropped : length (flat_map extension_of c.chunks ++ lost) ≤ 8192 =
    omega (
      arith,
      is.limits.dropped,
      dropped_is c,
      length-append (flat_map extension_of c.chunks) lost,
      length-append c.last.extension (flat_map print_field c.trailers),
    ) in
    ap cut_chunks (is.text_is ∙ written_is c rest)
    ∙ chunks_cut c.last c.trailers rest is.grammar.last is.limits.last_digits is.grammar.zero is.grammar.trailers c.chunks 65536 8192
    is.grammar.chunks is.limits.digits is.limits.body dropped
    ∙ ap (λ b. Complete b rest) (sym is.body_is)

-- ---- what is cut so is written by the grammar

-- a body and what is left, by what follows a place; so many bytes of data may come, and so many that are dropped
pub record ReadsChunks (room spare : ℕ) (text body rest : List ℕ) : Type 0 where
  pub tree : Chunked
  pub grammar : IsChunked tree
  pub digits : All HasFewDigits tree.chunks
  pub last_digits : length tree.last.digits ≤ 16
  pub fits : length (body_of tree) ≤ room
  pub spared : length (dropped_of tree) ≤ spare
  pub body_is : body ≡ body_of tree
  pub text_is : text ≡ print_chunked tree ++ rest

pub record ReadsData (room spare n : ℕ) (text body rest : List ℕ) : Type 0 where
  pub octets : List ℕ
  pub behind : List ℕ
  pub later : List ℕ
  pub size : length octets ≡ n
  pub text_is : text ≡ (octets ++ crlf) ++ behind
  pub body_is : body ≡ octets ++ later
  pub reads : ReadsChunks room spare behind later rest

pub record ReadsTrailers (spare : ℕ) (text body rest : List ℕ) : Type 0 where
  pub trailers : List Trailer
  pub fields : All IsTrailer trailers
  pub spared : length (flat_map print_field trailers) ≤ spare
  pub body_is : body ≡ []
  pub text_is : text ≡ flat_map print_trailer trailers ++ (crlf ++ rest)

abbrev Reads : Part → ℕ → ℕ → List ℕ → List ℕ → List ℕ → Type 0
Reads part.Size room spare text body rest = ReadsChunks room spare text body rest
Reads (part.Data n) room spare text body rest = ReadsData room spare n text body rest
Reads part.Trailer room spare text body rest = ReadsTrailers spare text body rest

onto_complete : (front : List ℕ) (c : Cut ChunkFault (List ℕ)) (body rest : List ℕ) → onto front c ≡ Complete body rest
    → (later : List ℕ) × (c ≡ Complete later rest) × (body ≡ front ++ later)
onto_complete front Incomplete body rest e = absurd (cc)
onto_complete front (Refused f) body rest e = absurd (cc)
onto_complete front (Complete later r) body rest e =
    let rest_is : r ≡ rest = cc in
    let body_is : front ++ later ≡ body = cc in
    (later, ap (Complete later) rest_is, sym body_is)

-- the last size line and the trailers
ended : (room spare size count : ℕ) (text behind body rest : List ℕ) → ReadsSize text size count → size ≡ 0
    → count ≤ spare → ReadsTrailers (spare - count) behind body rest
    → ReadsChunks room spare ((text ++ crlf) ++ behind) body rest
ended room spare size count text behind body rest line zero_is le h =
    let tree : Chunked = record { chunks = []; last = line.line; trailers = h.trailers } in
    record {
      tree = tree;
      grammar = record { chunks = All-nil IsChunk; last = line.is; zero = sym line.size_is ∙ zero_is; trailers = h.fields };
      digits = All-nil HasFewDigits;
      last_digits = line.few;
      fits = omega arith;
      spared = omega (arith, le, line.dropped_is, h.spared, dropped_is tree);
      body_is = h.body_is;
      text_is =
          ap (λ t. (t ++ crlf) ++ behind) line.text_is
          ∙ ap (λ t. print_size line.line ++ t) h.text_is
          ∙ sym (written_is tree rest);
    }

-- a size line, its data, and what follows
chunked_on : (room spare size count : ℕ) (text behind body rest : List ℕ) → ReadsSize text size count → 0 < size
    → size ≤ room → count ≤ spare
    → ReadsData (room - size) (spare - count) size behind body rest
    → ReadsChunks room spare ((text ++ crlf) ++ behind) body rest
chunked_on room spare size count text behind body rest line some fits le h =
    let first : Chunk = record { line = line.line; octets = h.octets } in
    let later = h.reads.tree in
    let tree : Chunked = record { chunks = first ∷ later.chunks; last = later.last; trailers = later.trailers } in
    let is : IsChunk first = record { line = line.is; some = omega (arith, h.size, some); size = sym line.size_is ∙ sym h.size } in
    let grammar = h.reads.grammar in
    let bytes : length (body_of tree) ≡ length h.octets + length (body_of later) = length-append h.octets (body_of later) in
    let extensions : length (flat_map extension_of tree.chunks) ≡ length line.line.extension + length (flat_map extension_of later.chunks) =
    length-append line.line.extension (flat_map extension_of later.chunks) in
    let tail = print_size later.last ++ (flat_map print_trailer later.trailers ++ (crlf ++ rest)) in
    record {
      tree = tree;
      grammar = record {
        chunks = All-cons IsChunk first later.chunks is grammar.chunks;
        last = grammar.last;
        zero = grammar.zero;
        trailers = grammar.trailers;
      };
      digits = All-cons HasFewDigits first later.chunks line.few h.reads.digits;
      last_digits = h.reads.last_digits;
      fits = omega (arith, fits, h.size, h.reads.fits, bytes);
      spared = omega (arith, le, line.dropped_is, h.reads.spared, extensions, dropped_is tree, dropped_is later);
      body_is = h.body_is ∙ ap (λ t. h.octets ++ t) h.reads.body_is;
      text_is =
          ap (λ t. (t ++ crlf) ++ behind) line.text_is
          ∙ ap (λ t. print_size line.line ++ t) (h.text_is ∙ ap (λ t. (h.octets ++ crlf) ++ t) (h.reads.text_is ∙ written_is later rest))
          ∙ sym (chunk_text first (flat_map print_chunk later.chunks ++ tail))
          ∙ sym (append_assoc (print_chunk first) (flat_map print_chunk later.chunks) tail)
          ∙ sym (written_is tree rest);
    }

trailed_on : (spare : ℕ) (text behind body rest : List ℕ) → is_field text ≡ true → length text ≤ spare
    → ReadsTrailers (spare - length text) behind body rest
    → ReadsTrailers spare ((text ++ crlf) ++ behind) body rest
trailed_on spare text behind body rest passes le h =
    let field = field_is text passes in
    let fields = flat_map print_field h.trailers in
    record {
      trailers = field.0 ∷ h.trailers;
      fields = All-cons IsTrailer field.0 h.trailers field.1 h.fields;
      spared = omega (arith, le, h.spared, ap length field.2, length-append (print_field field.0) fields);
      body_is = h.body_is;
      text_is =
          ap (λ t. (t ++ crlf) ++ behind) field.2
          ∙ ap (λ t. print_trailer field.0 ++ t) h.text_is
          ∙ sym (append_assoc (print_trailer field.0) (flat_map print_trailer h.trailers) (crlf ++ rest));
    }

module _ (f : ℕ) (reads : (q : Place) (after body rest : List ℕ) → cut_parts f q after ≡ Complete body rest → Reads q.part q.room q.spare after body rest)
    (place : Place) (n : ℕ) (text body rest : List ℕ) where
  abbrev line : List ℕ
  line = take n text

  abbrev behind : List ℕ
  behind = drop n text

  abbrev whole : List ℕ → List ℕ
  whole t = (t ++ crlf) ++ behind

  abbrev Cuts : Next → Type 0
  Cuts x = cut_next (cut_parts f) x line behind ≡ Complete body rest

  goes_on : (q : Place) → Cuts (next.Goes q 0) → Reads q.part q.room q.spare behind body rest
  goes_on q e =
      let on = onto_complete [] (cut_parts f q behind) body rest e in
      subst (λ b. Reads q.part q.room q.spare behind b rest) (sym on.2) (reads q behind on.0 rest on.1)

  -- what a place has to spare is not exceeded
  within_spare : (count : ℕ) (after : ℕ → Next) → Cuts (dropping place count after)
      → (count ≤ place.spare) × Cuts (after (place.spare - count))
  within_spare count after e = by_test (nat_lt place.spare count) refl
    where
      by_test : (t : Bool) → nat_lt place.spare count ≡ t → (count ≤ place.spare) × Cuts (after (place.spare - count))
      by_test true less = absurd (let wrong : Refused fault.Malformed ≡ Complete body rest = rw less at e in cc)
      by_test false enough = (grind (arith, nat_tests), rw enough at e)

  read_size : (t : List ℕ) (size count : ℕ) → ReadsSize t size count → count ≤ place.spare
      → Cuts (after_size place size (place.spare - count)) → ReadsChunks place.room place.spare (whole t) body rest
  read_size t size count is le e = by_last (size == 0) refl
    where
      by_room : (size == 0) ≡ false → (b : Bool) → nat_lt place.room size ≡ b → ReadsChunks place.room place.spare (whole t) body rest
      by_room some true less = absurd (let wrong : Refused fault.TooLarge ≡ Complete body rest = rw (some, less) at e in cc)
      by_room some false enough =
          let positive : 0 < size = grind (arith, nat_tests) in
          let fits : size ≤ place.room = grind (arith, nat_tests) in
          let goes : Cuts (next.Goes (place_at (part.Data size) (place.room - size) (place.spare - count)) 0) = rw (some, enough) at e in
          chunked_on place.room place.spare size count t behind body rest is positive fits le
          (goes_on (place_at (part.Data size) (place.room - size) (place.spare - count)) goes)

      by_last : (b : Bool) → (size == 0) ≡ b → ReadsChunks place.room place.spare (whole t) body rest
      by_last true last =
          let goes : Cuts (next.Goes (place_at part.Trailer place.room (place.spare - count)) 0) = rw last at e in
          ended place.room place.spare size count t behind body rest is (eqb-true size 0 last) le
          (goes_on (place_at part.Trailer place.room (place.spare - count)) goes)
      by_last false some = by_room some (nat_lt place.room size) refl

  read_size_line : (t : List ℕ) (o : Option (ℕ × ℕ)) → size_in t ≡ o → Cuts (next_size place o)
      → ReadsChunks place.room place.spare (whole t) body rest
  read_size_line t None is e = absurd (cc)
  read_size_line t (Some (size, count)) is e =
      let spare = within_spare count (after_size place size) e in
      read_size t size count (size_line_is t size count is) spare.0 spare.1

  read_trailer : (t : List ℕ) → Cuts (next_trailer place t) → ReadsTrailers place.spare (whole t) body rest
  read_trailer t e = by_empty (length t == 0) refl
    where
      by_field : (length t == 0) ≡ false → (b : Bool) → is_field t ≡ b → ReadsTrailers place.spare (whole t) body rest
      by_field some true field =
          let goes : Cuts (dropping place (length t) (λ spare. next.Goes (place_at part.Trailer place.room spare) 0)) = rw (some, field) at e in
          let spare = within_spare (length t) (λ spare. next.Goes (place_at part.Trailer place.room spare) 0) goes in
          trailed_on place.spare t behind body rest field spare.0 (goes_on (place_at part.Trailer place.room (place.spare - length t)) spare.1)
      by_field some false other = absurd (let wrong : Refused fault.Malformed ≡ Complete body rest = rw (some, other) at e in cc)

      by_empty : (b : Bool) → (length t == 0) ≡ b → ReadsTrailers place.spare (whole t) body rest
      by_empty true none =
          let same : Complete [] behind ≡ Complete body rest = rw none at e in
          let body_is : [] ≡ body = cc in
          let rest_is : behind ≡ rest = cc in
          let t_is : t ≡ [] = nil_from_length t (eqb-true (length t) 0 none) in
          record {
            trailers = [];
            fields = All-nil IsTrailer;
            spared = omega arith;
            body_is = sym body_is;
            text_is = ap (λ x. (x ++ crlf) ++ behind) t_is ∙ ap (λ r. crlf ++ r) rest_is;
          }
      by_empty false some = by_field some (is_field t) refl

  read_data : (t : List ℕ) (m : ℕ) → line ≡ t ++ crlf → length line ≡ m + 2
      → Cuts (next.Goes (place_at part.Size place.room place.spare) m)
      → ReadsData place.room place.spare m (whole t) body rest
  read_data t m line_is size e =
      let long : length t ≡ m = omega (arith, size, ap length line_is, length_line t) in
      let front : take m line ≡ t = ap (take m) line_is ∙ take_at t crlf m long in
      let on = onto_complete (take m line) (cut_parts f (place_at part.Size place.room place.spare) behind) body rest e in
      record {
        octets = t;
        behind = behind;
        later = on.0;
        size = long;
        text_is = refl;
        body_is = on.2 ∙ ap (λ x. x ++ on.0) front;
        reads = reads (place_at part.Size place.room place.spare) behind on.0 rest on.1;
      }

  by_part : (p : Part) (t : List ℕ) → line ≡ t ++ crlf → part_end p place.spare text ≡ Some n
      → Cuts (next_by p place t) → Reads p place.room place.spare (whole t) body rest
  by_part part.Size t line_is ends e = read_size_line t (size_in t) refl e
  by_part part.Trailer t line_is ends e = read_trailer t e
  by_part (part.Data m) t line_is ends e =
      let h = data_some m n text ends in
      read_data t m line_is (omega (arith, h.0, h.1, length-take n text)) e

  read_line : (o : Option (List ℕ)) → line_text line ≡ o → part_end place.part place.spare text ≡ Some n
      → Cuts (next_line place o) → Reads place.part place.room place.spare text body rest
  read_line None is ends e = absurd (cc)
  read_line (Some t) is ends e =
      let line_is = line_of_text line t is in
      let parts : whole t ≡ text = ap (λ x. x ++ behind) (sym line_is) ∙ take-append-drop n text in
      subst (λ x. Reads place.part place.room place.spare x body rest) parts (by_part place.part t line_is ends e)

parts_read : (f : ℕ) (place : Place) (text body rest : List ℕ) → cut_parts f place text ≡ Complete body rest
    → Reads place.part place.room place.spare text body rest
parts_read zero place text body rest e = absurd (cc)
parts_read (suc f) place text body rest e = by_end (parts_read f) (part_end place.part place.spare text) refl e
  where
    by_length : (t : Bool) → (if t then Incomplete else Refused fault.Malformed) ≡ Complete body rest → ⊥
    by_length true e = cc
    by_length false e = cc

    by_end : ((q : Place) (after body rest : List ℕ) → cut_parts f q after ≡ Complete body rest → Reads q.part q.room q.spare after body rest) → (o : Option ℕ)
        → part_end place.part place.spare text ≡ o → cut_part (cut_parts f) place text o ≡ Complete body rest
        → Reads place.part place.room place.spare text body rest
    by_end reads None is e = absurd (by_length (nat_lt (length text) (most_of place.part place.spare)) e)
    by_end reads (Some n) is e = read_line f reads place n text body rest (line_text (take n text)) refl is e

pub cut_written : (text body rest : List ℕ) → cut_chunks text ≡ Complete body rest → IsInChunks text body rest
cut_written text body rest e =
    let h = parts_read (suc (length text)) first_place text body rest e in
    record {
      tree = h.tree;
      grammar = h.grammar;
      limits = record { body = h.fits; dropped = h.spared; digits = h.digits; last_digits = h.last_digits };
      body_is = h.body_is;
      text_is = h.text_is;
    }

-- ---- what is refused, and what is not whole

pub refused_unwritten : (text more : List ℕ) (f : ChunkFault) → cut_chunks text ≡ Refused f → (body rest : List ℕ)
    → ¬ (IsInChunks (text ++ more) body rest)
refused_unwritten text more f e body rest is =
    let stay : Stays (Refused f) (cut_chunks (text ++ more)) more =
    subst (λ c. Stays c (cut_chunks (text ++ more)) more) e (at_stays first_place text more) in
    let wrong : Refused f ≡ Complete body rest = sym stay ∙ written_cut (text ++ more) body rest is in
    cc

pub front_incomplete : (text more body : List ℕ) → 0 < length more → IsInChunks (text ++ more) body []
    → cut_chunks text ≡ Incomplete
front_incomplete text more body some is = by_cut (cut_chunks text) (at_stays first_place text more)
  where
    whole : cut_chunks (text ++ more) ≡ Complete body []
    whole = written_cut (text ++ more) body [] is

    by_cut : (c : Cut ChunkFault (List ℕ)) → Stays c (cut_chunks (text ++ more)) more → c ≡ Incomplete
    by_cut Incomplete s = refl
    by_cut (Refused f) s = absurd (let wrong : Refused f ≡ Complete body [] = sym s ∙ whole in cc)
    by_cut (Complete b rest) s =
        absurd (let same : Complete b (rest ++ more) ≡ Complete body [] = sym s ∙ whole in
        let none : rest ++ more ≡ [] = cc in omega (arith, some, ap length none, length-append rest more))
