-- What a decoder of chunks comes to, part by part.
use Rattle.std.proofs.Common.{◌≡◌, ℕ, ◌+◌, ◌-◌, ◌<◌, ◌≤◌, ◌==◌, Bool, true, false, nat_lt, min, List, [], ◌++◌, length, take, drop, refl, sym, ap, subst, ◌∙◌, arith, append-nil, append_assoc, length-append, length-take, Option, Some, None}
use Rattle.std.specs.Prelude.{if◌then◌else◌, option_map, IfSome, IfNone}
use Rattle.std.proofs.lemmas.Bool.Decides.{nat_tests}
use Rattle.std.proofs.lemmas.List.{length-drop, take_all, drop_all, take-append-le, drop-append-le}
use Rattle.std.proofs.Math.Seq.{take-add}
use Rattle.http_pieces.specs.declared.chunk_parts.ChunkFault.{ChunkFault}
use Rattle.http_pieces.specs.declared.chunk_parts.ChunkFault.TheVariants as fault
use Rattle.http_pieces.specs.declared.chunk_parts.Part.{Part}
use Rattle.http_pieces.specs.declared.chunk_parts.Part.TheVariants as part
use Rattle.http_pieces.specs.declared.chunk_parts.Place.{Place}
use Rattle.http_pieces.specs.declared.chunk_parts.Next.{Next}
use Rattle.http_pieces.specs.declared.chunk_parts.Next.TheVariants as next
use Rattle.http_pieces.specs.declared.chunk_parts.Decoded.{Decoded}
use Rattle.http_pieces.specs.declared.chunk_parts.Decoded.TheVariants as decoded
use Rattle.http_pieces.specs.Cut.{Cut, Refused, Complete}
use Rattle.http_pieces.specs.Chunks.{size_in, is_field, line_end, line_text, most_of, part_end, place_at, after_size, dropping, next_of, next_line, next_by, next_size, next_trailer, onto, cut_at, cut_on, IsOpen, DecodesTo}
use Rattle.http_pieces.proofs.CutLemmas.{take_prefix}
use Rattle.http_pieces.proofs.ChunkLemmas.{line_bound, line_on, line_trim, take_short, data_some, at_step, at_long, onto_onto, open_empty}

-- ---- how much of a part is data

by_spare : (place : Place) (count n : ℕ) (q : Place) (after : ℕ → Next) → dropping place count after ≡ next.Goes q n
    → ((s : ℕ) → after s ≡ next.Goes q n → n ≡ 0) → n ≡ 0
by_spare place count n q after e none = by_test (nat_lt place.spare count) refl
  where
    by_test : (t : Bool) → nat_lt place.spare count ≡ t → n ≡ 0
    by_test true less = absurd (let wrong : next.Fault fault.Malformed ≡ next.Goes q n = rw less at e in cc)
    by_test false enough = none (place.spare - count) (rw enough at e)

size_none : (place q : Place) (size spare n : ℕ) → after_size place size spare ≡ next.Goes q n → n ≡ 0
size_none place q size spare n e = by_last (size == 0) refl
  where
    by_room : size == 0 ≡ false → (t : Bool) → nat_lt place.room size ≡ t → n ≡ 0
    by_room some true less = absurd (let wrong : next.Fault fault.TooLarge ≡ next.Goes q n = rw (some, less) at e in cc)
    by_room some false enough =
        let same : next.Goes (place_at (part.Data size) (place.room - size) spare) 0 ≡ next.Goes q n = rw (some, enough) at e in cc

    by_last : (t : Bool) → size == 0 ≡ t → n ≡ 0
    by_last true last = let same : next.Goes (place_at part.Trailer place.room spare) 0 ≡ next.Goes q n = rw last at e in cc
    by_last false some = by_room some (nat_lt place.room size) refl

size_line_none : (place q : Place) (o : Option (ℕ × ℕ)) (n : ℕ) → next_size place o ≡ next.Goes q n → n ≡ 0
size_line_none place q None n e = absurd (cc)
size_line_none place q (Some s) n e = by_spare place s.1 n q (after_size place s.0) e (λ spare. size_none place q s.0 spare n)

trailer_none : (place q : Place) (text : List ℕ) (n : ℕ) → next_trailer place text ≡ next.Goes q n → n ≡ 0
trailer_none place q text n e = by_empty (length text == 0) refl
  where
    by_field : length text == 0 ≡ false → (t : Bool) → is_field text ≡ t → n ≡ 0
    by_field some true field =
        by_spare place (length text) n q (λ spare. next.Goes (place_at part.Trailer place.room spare) 0) (rw (some, field) at e) (λ spare f. cc)
    by_field some false other = absurd (let wrong : next.Fault fault.Malformed ≡ next.Goes q n = rw (some, other) at e in cc)

    by_empty : (t : Bool) → length text == 0 ≡ t → n ≡ 0
    by_empty true last = absurd (let wrong : next.End ≡ next.Goes q n = rw last at e in cc)
    by_empty false some = by_field some (is_field text) refl

-- the data lies in its part
pub goes_within : (place q : Place) (bytes : List ℕ) (n : ℕ) → part_end place.part place.spare bytes ≡ Some (length bytes)
    → next_of place bytes ≡ next.Goes q n → n ≤ length bytes
goes_within place q bytes n whole e = by_text (line_text bytes) e
  where
    by_part : (text : List ℕ) (p : Part) → part_end p place.spare bytes ≡ Some (length bytes) → next_by p place text ≡ next.Goes q n → n ≤ length bytes
    by_part text part.Size is f = omega (arith, size_line_none place q (size_in text) n f)
    by_part text part.Trailer is f = omega (arith, trailer_none place q text n f)
    by_part text (part.Data m) is f =
        let same : m ≡ n = cc in
        omega (arith, (data_some m (length bytes) bytes is).1)

    by_text : (o : Option (List ℕ)) → next_line place o ≡ next.Goes q n → n ≤ length bytes
    by_text None f = absurd (cc)
    by_text (Some text) f = by_part text place.part whole f

-- ---- one part

module _ (body : List ℕ) (whole : ℕ) (place : Place) where
  pub part_faults : (f : ChunkFault) → part_end place.part place.spare (drop whole body) ≡ Some (length (drop whole body)) → next_of place (drop whole body) ≡ next.Fault f
      → (more : List ℕ) → cut_on body whole place more ≡ Refused f
  part_faults f ends e more = rw (at_step place (drop whole body) more ends, e) refl

  pub part_last : part_end place.part place.spare (drop whole body) ≡ Some (length (drop whole body)) → next_of place (drop whole body) ≡ next.End
      → (more : List ℕ) → cut_on body whole place more ≡ Complete (take whole body) more
  part_last ends e more = rw (at_step place (drop whole body) more ends, e) (ap (λ b. Complete b more) (append-nil (take whole body)))

  pub part_goes : (q : Place) (n : ℕ) → whole ≤ length body → part_end place.part place.spare (drop whole body) ≡ Some (length (drop whole body))
      → next_of place (drop whole body) ≡ next.Goes q n → DecodesTo (cut_on body whole place) [] (take (whole + n) body) (whole + n) q decoded.More
  part_goes q n within ends e = (omega (arith, fits, length-drop whole body, length-take (whole + n) body), subst (IsOpen q) (sym none) (open_empty q), on)
    where
      fits : n ≤ length (drop whole body)
      fits = goes_within place q (drop whole body) n ends e

      none : drop (whole + n) (take (whole + n) body) ≡ []
      none = drop_all (whole + n) (take (whole + n) body) (omega (arith, length-take (whole + n) body))

      parts : take whole body ++ take n (drop whole body) ≡ take (whole + n) (take (whole + n) body)
      parts = sym (take-add whole n body) ∙ sym (take_all (whole + n) (take (whole + n) body) (omega (arith, length-take (whole + n) body)))

      on : (more : List ℕ) → cut_on body whole place ([] ++ more) ≡ cut_on (take (whole + n) body) (whole + n) q more
      on more =
          rw (at_step place (drop whole body) more ends, e)
          (onto_onto (take whole body) (take n (drop whole body)) (cut_at q more)
          ∙ ap (λ x. onto x (cut_at q more)) parts
          ∙ ap (λ x. onto (take (whole + n) (take (whole + n) body)) (cut_at q (x ++ more))) (sym none))

  -- bytes that were added
  pub on_added : (bytes more : List ℕ) → whole ≤ length body → cut_on body whole place (bytes ++ more) ≡ cut_on (body ++ bytes) whole place more
  on_added bytes more within =
      rw (take-append-le whole body bytes within, drop-append-le whole body bytes within)
      (ap (λ x. onto (take whole body) (cut_at place x)) (sym (append_assoc (drop whole body) bytes more)))

-- what bytes come to, by what those behind the first of them do
pub decodes_on : (was later : List ℕ → Cut ChunkFault (List ℕ)) (first second body : List ℕ) (whole : ℕ) (place : Place) (d : Decoded)
    → ((more : List ℕ) → was (first ++ more) ≡ later more) → DecodesTo later second body whole place d → DecodesTo was (first ++ second) body whole place d
decodes_on was later first second body whole place decoded.More h d =
    (d.0, d.1, λ more. ap was (append_assoc first second more) ∙ h (second ++ more) ∙ d.2 more)
decodes_on was later first second body whole place decoded.Whole h d = λ more. ap was (append_assoc first second more) ∙ h (second ++ more) ∙ d more
decodes_on was later first second body whole place (decoded.Fault f) h d = λ more. ap was (append_assoc first second more) ∙ h (second ++ more) ∙ d more

abbrev pub looked_on : Bool → Decoded
looked_on short = if short then decoded.More else decoded.Fault fault.Malformed

-- a part that has not ended in the bytes
pub part_waits : (before bytes body : List ℕ) (whole : ℕ) (place : Place) (d : Decoded) → whole ≤ length before → body ≡ before ++ bytes
    → part_end place.part place.spare (drop whole before ++ bytes) ≡ None
    → d ≡ looked_on (nat_lt (length (drop whole body)) (most_of place.part place.spare))
    → DecodesTo (cut_on before whole place) bytes body whole place d
part_waits before bytes body whole place d within body_is none d_is =
    subst (λ b. DecodesTo (cut_on before whole place) bytes b whole place d) (sym body_is)
    (by_test (nat_lt (length (drop whole (before ++ bytes))) (most_of place.part place.spare)) refl)
  where
    grown : List ℕ
    grown = before ++ bytes

    left_is : drop whole (before ++ bytes) ≡ drop whole before ++ bytes
    left_is = drop-append-le whole before bytes within

    answer : (t : Bool) → nat_lt (length (drop whole (before ++ bytes))) (most_of place.part place.spare) ≡ t → d ≡ looked_on t
    answer t e = d_is ∙ ap (λ b. looked_on (nat_lt (length (drop whole b)) (most_of place.part place.spare))) body_is ∙ ap looked_on e

    by_test : (t : Bool) → nat_lt (length (drop whole (before ++ bytes))) (most_of place.part place.spare) ≡ t
        → DecodesTo (cut_on before whole place) bytes (before ++ bytes) whole place d
    by_test true less =
        let short : length (drop whole (before ++ bytes)) < most_of place.part place.spare = grind (arith, nat_tests) in
        subst (DecodesTo (cut_on before whole place) bytes (before ++ bytes) whole place) (sym (answer true less)) (
          omega (arith, length-append before bytes),
          record { endless = ap (part_end place.part place.spare) left_is ∙ none; short = short },
          λ more. on_added before whole place bytes more within,
        )
    by_test false long =
        let full : most_of place.part place.spare ≤ length (drop whole before ++ bytes) =
        let le : most_of place.part place.spare ≤ length (drop whole (before ++ bytes)) = grind (arith, nat_tests) in rw left_is at le in
        subst (DecodesTo (cut_on before whole place) bytes (before ++ bytes) whole place) (sym (answer false long))
        (λ more. ap (λ x. onto (take whole before) (cut_at place x)) (sym (append_assoc (drop whole before) bytes more))
        ∙ ap (onto (take whole before)) (at_long place (drop whole before ++ bytes) more none full))

-- ---- a line

take_min : (n : ℕ) (xs : List ℕ) → take (min n (length xs)) xs ≡ take n xs
take_min n xs = by_test (nat_lt n (length xs)) refl
  where
    by_test : (t : Bool) → nat_lt n (length xs) ≡ t → take (min n (length xs)) xs ≡ take n xs
    by_test true less =
        let lt : n < length xs = grind (arith, nat_tests) in
        let same : min n (length xs) ≡ n = omega arith in
        ap (λ k. take k xs) same
    by_test false long =
        let le : length xs ≤ n = grind (arith, nat_tests) in
        take_all (min n (length xs)) xs (omega arith) ∙ sym (take_all n xs le)

-- where a line ends in the bytes, of which some came before
pub record EndsIn (most : ℕ) (before bytes : List ℕ) (r : Option ℕ) : Type 0 where
  pub none : IfNone r (line_end (take most (before ++ bytes)) ≡ None)
  pub ends : IfSome r (λ k. line_end (take most (before ++ take k bytes)) ≡ Some (length before + k))

pub line_in : (most m : ℕ) (before bytes : List ℕ) (r : Option ℕ) → line_end (take most before) ≡ None → length before < most
    → m ≡ min (most - length before) (length bytes) → r ≡ line_end (take m bytes) → EndsIn most before bytes r
line_in most m before bytes r none short m_is r_is = by_end r r_is
  where
    room : ℕ
    room = most - length before

    seen : take m bytes ≡ take room bytes
    seen = ap (λ k. take k bytes) m_is ∙ take_min room bytes

    none_before : line_end before ≡ None
    none_before = ap line_end (sym (take_all most before (omega arith))) ∙ none

    by_end : (o : Option ℕ) → o ≡ line_end (take m bytes) → EndsIn most before bytes o
    by_end None e =
        let nowhere : line_end (take room bytes) ≡ None = ap line_end (sym seen) ∙ sym e in
        record {
          none = ap line_end (take_short most before bytes (omega arith)) ∙ line_on before (take room bytes) none_before ∙ ap (option_map (λ k. length before + k)) nowhere;
          ends = tt;
        }
    by_end (Some k) e =
        let at : line_end (take room bytes) ≡ Some k = ap line_end (sym seen) ∙ sym e in
        let bound = line_bound (take room bytes) k at in
        let prefix : take k (take room bytes) ≡ take k bytes = take_prefix bytes k room bound.1 in
        let trimmed : line_end (take k bytes) ≡ Some k = ap line_end (sym prefix) ∙ line_trim (take room bytes) k at in
        let all : take most (before ++ take k bytes) ≡ before ++ take k bytes =
        take_all most (before ++ take k bytes) (omega (arith, bound.1, length-take room bytes, length-take k bytes, length-append before (take k bytes))) in
        record {
          none = tt;
          ends = ap line_end all ∙ line_on before (take k bytes) none_before ∙ ap (option_map (λ k. length before + k)) trimmed;
        }

pub part_ended : (body bytes grown : List ℕ) (whole k : ℕ) (place : Place) → whole ≤ length body → k ≤ length bytes → grown ≡ body ++ take k bytes
    → part_end place.part place.spare (drop whole body ++ take k bytes) ≡ Some (length (drop whole body) + k)
    → part_end place.part place.spare (drop whole grown) ≡ Some (length (drop whole grown))
part_ended body bytes grown whole k place within fits grown_is ends =
    let left_is : drop whole grown ≡ drop whole body ++ take k bytes = ap (drop whole) grown_is ∙ drop-append-le whole body (take k bytes) within in
    let size : length (drop whole body) + k ≡ length (drop whole body ++ take k bytes) = omega (arith, length-append (drop whole body) (take k bytes), length-take k bytes) in
    rw left_is (ends ∙ ap Some size)
