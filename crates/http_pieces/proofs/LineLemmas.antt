-- The lines of a body in chunks, by their grammar and by the tests of their texts.
use Rattle.std.proofs.Common.{◌≡◌, ℕ, suc, nat_eq, ◌+◌, ◌-◌, ◌≤◌, ⊎_elim, ◌==◌, ◌&&◌, not, Bool, true, false, nat_lt, nat_le, List, [], ◌∷◌, ◌++◌, length, take, drop, reverse, get_or, refl, sym, ap, subst, ◌∙◌, arith, append-nil, append_assoc, length-append, Option, Some, None, unwrap_or}
use Rattle.std.specs.Prelude.{option_map, position}
use Rattle.std.specs.List.{list_all, position_or_len}
use Rattle.std.specs.Char.{is_ascii_hexdigit}
use Rattle.std.specs.Cmp.Lexicographic.{pointwise}
use Rattle.std.specs.Str.Parse.{digits_value}
use Rattle.std.proofs.lemmas.Bool.{and_parts, and_from, or_cases, or_right, eqb-true, ltb-true, leb-true, lt-ltb, le-ltb}
use Rattle.std.proofs.lemmas.List.{take-append-drop, take_at, drop_at, drop_more, nil_from_length, reverse-append}
use Rattle.std.proofs.lemmas.List.Folds.{list_all-append}
use Rattle.std.proofs.lemmas.List.Quantifiers.{position-Some}
use Rattle.httparse.specs.Grammar.{is_ows, is_token, is_token_byte, is_value_byte, skip_ows, trim_ows}
use Rattle.http_pieces.specs.Chunked.{crlf, IsExtension, without, extended, IsSizeLine, SizeLine, size_of, Trailer, IsTrailer, print_field}
use Rattle.http_pieces.specs.Chunks.{begins_with_semicolon, digits_in, hexadecimal, is_extension, is_field, is_field_at, is_hexadecimal, line_end, line_text, size_in, with_extension}
use Rattle.http_pieces.proofs.ChunkLemmas.{is_feed, line_on}
use Rattle.http_pieces.proofs.HexLemmas.{hexadecimal_by_digits, hexadecimal_some}

-- ---- bytes that all pass a test

none_before : (p q : ℕ → Bool) (xs : List ℕ) → ((b : ℕ) → q b ≡ true → p b ≡ false) → list_all q xs ≡ true
    → (y : ℕ) (ys : List ℕ) → p y ≡ true
    → position_or_len p (xs ++ y ∷ ys) ≡ length xs
none_before p q [] other all y ys at = rw at refl
none_before p q (x ∷ xs) other all y ys at =
    let parts = and_parts (q x) (list_all q xs) all in
    let one : 1 + length xs ≡ suc (length xs) = omega arith in
    rw (other x parts.0) (ap (λ k. 1 + k) (none_before p q xs other parts.1 y ys at) ∙ one)

none_of : (p q : ℕ → Bool) (xs : List ℕ) → ((b : ℕ) → q b ≡ true → p b ≡ false) → list_all q xs ≡ true
    → position_or_len p xs ≡ length xs
none_of p q [] other all = refl
none_of p q (x ∷ xs) other all =
    let parts = and_parts (q x) (list_all q xs) all in
    let one : 1 + length xs ≡ suc (length xs) = omega arith in
    rw (other x parts.0) (ap (λ k. 1 + k) (none_of p q xs other parts.1) ∙ one)

-- the first that passes stands behind bytes of which none does
position_behind : (p q : ℕ → Bool) (xs : List ℕ) → ((b : ℕ) → q b ≡ true → p b ≡ false) → list_all q xs ≡ true
    → (y : ℕ) (ys : List ℕ) → p y ≡ true
    → position p (xs ++ y ∷ ys) ≡ Some (length xs)
position_behind p q xs other all y ys at =
    let less = lt-ltb (length xs) (length (xs ++ y ∷ ys)) (omega (arith, length-append xs (y ∷ ys))) in
    rw (none_before p q xs other all y ys at, less) refl

position_none : (p q : ℕ → Bool) (xs : List ℕ) → ((b : ℕ) → q b ≡ true → p b ≡ false) → list_all q xs ≡ true
    → position p xs ≡ None
position_none p q xs other all =
    let all_of = le-ltb (length xs) (length xs) (omega arith) in
    rw (none_of p q xs other all, all_of) refl

-- ---- lines

-- a text without line feeds
pub unbroken : (q : ℕ → Bool) (xs : List ℕ) → ((b : ℕ) → q b ≡ true → is_feed b ≡ false) → list_all q xs ≡ true
    → line_end xs ≡ None
unbroken q [] other all = refl
unbroken q (x ∷ xs) other all =
    let parts = and_parts (q x) (list_all q xs) all in
    rw (other x parts.0) (ap (option_map suc) (unbroken q xs other parts.1))

pub unbroken_both : (xs ys : List ℕ) → line_end xs ≡ None → line_end ys ≡ None → line_end (xs ++ ys) ≡ None
unbroken_both xs ys first second = line_on xs ys first ∙ ap (option_map (λ k. length xs + k)) second

pub length_line : (text : List ℕ) → length (text ++ crlf) ≡ length text + 2
length_line text = omega (arith, length-append text crlf)

pub line_ends : (text : List ℕ) → line_end text ≡ None → line_end (text ++ crlf) ≡ Some (length (text ++ crlf))
line_ends text none = line_on text crlf none ∙ ap Some (omega (arith, length_line text))

pub text_of_line : (text : List ℕ) → line_text (text ++ crlf) ≡ Some text
text_of_line text =
    let size : length (text ++ crlf) - 2 ≡ length text = omega (arith, length_line text) in
    rw (size, drop_at text crlf (length text) refl, take_at text crlf (length text) refl) refl

both_bytes : (line : List ℕ) → pointwise nat_eq line (13 ∷ 10 ∷ []) ≡ true → line ≡ crlf
both_bytes [] e = absurd (cc)
both_bytes (a ∷ []) e = absurd (let parts = and_parts (a == 13) false e in let wrong : false ≡ true = parts.1 in cc)
both_bytes (a ∷ b ∷ []) e =
    let first = and_parts (a == 13) ((b == 10) && true) e in
    let second = and_parts (b == 10) true first.1 in
    let a_is : a ≡ 13 = eqb-true a 13 first.0 in
    let b_is : b ≡ 10 = eqb-true b 10 second.0 in
    cc
both_bytes (a ∷ b ∷ c ∷ line) e =
    absurd (let wrong : false ≡ true = (and_parts (b == 10) false (and_parts (a == 13) ((b == 10) && false) e).1).1 in cc)

pub line_of_text : (line text : List ℕ) → line_text line ≡ Some text → line ≡ text ++ crlf
line_of_text line text e = by_test (pointwise nat_eq (drop (length line - 2) line) (13 ∷ 10 ∷ [])) refl
  where
    by_test : (t : Bool) → pointwise nat_eq (drop (length line - 2) line) (13 ∷ 10 ∷ []) ≡ t → line ≡ text ++ crlf
    by_test true ends =
        let same : Some (take (length line - 2) line) ≡ Some text = rw ends at e in
        let text_is : take (length line - 2) line ≡ text = cc in
        sym (take-append-drop (length line - 2) line) ∙ ap (λ t. t ++ drop (length line - 2) line) text_is
        ∙ ap (λ t. text ++ t) (both_bytes (drop (length line - 2) line) ends)
    by_test false other = absurd (let wrong : None ≡ Some text = rw other at e in cc)

-- ---- extensions

skip_split : (text : List ℕ) → (blanks : List ℕ) × (list_all is_ows blanks ≡ true) × (text ≡ blanks ++ skip_ows text)
skip_split [] = ([], refl, refl)
skip_split (b ∷ text) = by_test (is_ows b) refl (skip_split text)
  where
    by_test : (t : Bool) → is_ows b ≡ t
        → ((blanks : List ℕ) × (list_all is_ows blanks ≡ true) × (text ≡ blanks ++ skip_ows text))
        → (blanks : List ℕ) × (list_all is_ows blanks ≡ true) × (b ∷ text ≡ blanks ++ skip_ows (b ∷ text))
    by_test true blank h = (b ∷ h.0, and_from (is_ows b) (list_all is_ows h.0) blank h.1, rw blank (ap (λ t. b ∷ t) h.2))
    by_test false other h = ([], refl, rw other refl)

skip_blanks : (blanks text : List ℕ) → list_all is_ows blanks ≡ true → skip_ows (blanks ++ text) ≡ skip_ows text
skip_blanks [] text all = refl
skip_blanks (b ∷ blanks) text all =
    let parts = and_parts (is_ows b) (list_all is_ows blanks) all in
    rw parts.0 (skip_blanks blanks text parts.1)

-- what is no blank stays in front
skip_front : (text : List ℕ) (b : ℕ) → is_ows b ≡ false → skip_ows (text ++ b ∷ []) ≡ skip_ows text ++ b ∷ []
skip_front [] b other = rw other refl
skip_front (a ∷ text) b other = by_test (skip_front text b other) (is_ows a) refl
  where
    by_test : skip_ows (text ++ b ∷ []) ≡ skip_ows text ++ b ∷ [] → (t : Bool) → is_ows a ≡ t
        → skip_ows (a ∷ text ++ b ∷ []) ≡ skip_ows (a ∷ text) ++ b ∷ []
    by_test later true blank = rw blank later
    by_test later false visible = rw visible refl

skipped_front : (text : List ℕ) (b : ℕ) (rest : List ℕ) → skip_ows text ≡ b ∷ rest → is_ows b ≡ false
skipped_front [] b rest e = absurd (cc)
skipped_front (a ∷ text) b rest e = by_test (skipped_front text b rest) (is_ows a) refl
  where
    by_test : (skip_ows text ≡ b ∷ rest → is_ows b ≡ false) → (t : Bool) → is_ows a ≡ t → is_ows b ≡ false
    by_test later true blank = later (rw blank at e)
    by_test later false visible = let same : a ∷ text ≡ b ∷ rest = rw visible at e in let first : a ≡ b = cc in ap is_ows (sym first) ∙ visible

trimmed_front : (text : List ℕ) → begins_with_semicolon (trim_ows text) ≡ begins_with_semicolon (skip_ows text)
unfolding trim_ows
trimmed_front text = by_skipped (skip_ows text) refl
  where
    by_skipped : (s : List ℕ) → skip_ows text ≡ s
        → begins_with_semicolon (reverse (skip_ows (reverse s))) ≡ begins_with_semicolon s
    by_skipped [] e = refl
    by_skipped (b ∷ rest) e =
        let other = skipped_front text b rest e in
        let turned : reverse (b ∷ rest) ≡ reverse rest ++ b ∷ [] = reverse-append (b ∷ []) rest in
        let back : reverse (skip_ows (reverse rest) ++ b ∷ []) ≡ b ∷ reverse (skip_ows (reverse rest)) =
        reverse-append (skip_ows (reverse rest)) (b ∷ []) in
        ap (λ t. begins_with_semicolon (reverse (skip_ows t))) turned
        ∙ ap (λ t. begins_with_semicolon (reverse t)) (skip_front (reverse rest) b other)
        ∙ ap begins_with_semicolon back

blank_value : (b : ℕ) → is_ows b ≡ true → is_value_byte b ≡ true
blank_value b blank = ⊎_elim
    (λ (e : (b == 32) ≡ true). subst (λ x. is_value_byte x ≡ true) (sym (eqb-true b 32 e)) refl)
    (λ (e : (b == 9) ≡ true). subst (λ x. is_value_byte x ≡ true) (sym (eqb-true b 9 e)) refl)
    (or_cases (b == 32) (b == 9) blank)

blanks_values : (blanks : List ℕ) → list_all is_ows blanks ≡ true → list_all is_value_byte blanks ≡ true
blanks_values [] all = refl
blanks_values (b ∷ blanks) all =
    let parts = and_parts (is_ows b) (list_all is_ows blanks) all in
    and_from (is_value_byte b) (list_all is_value_byte blanks) (blank_value b parts.0) (blanks_values blanks parts.1)

values_all : (text : List ℕ) → IsExtension text → list_all is_value_byte text ≡ true
values_all text (without e) = rw e refl
values_all text (extended blanks words blank value e) =
    rw (e, list_all-append is_value_byte blanks (59 ∷ words))
    (and_from (list_all is_value_byte blanks) (list_all is_value_byte words) (blanks_values blanks blank) value)

pub extension_passes : (text : List ℕ) → IsExtension text → is_extension text ≡ true
extension_passes text (without e) = rw e refl
extension_passes text (extended blanks words blank value e) =
    let begins = begins_with_semicolon (trim_ows text) in
    let values = list_all is_value_byte text in
    let semicolon : begins ≡ true =
    trimmed_front text ∙ ap (λ t. begins_with_semicolon (skip_ows t)) e
    ∙ ap begins_with_semicolon (skip_blanks blanks (59 ∷ words) blank) in
    or_right (length text == 0) (begins && values)
    (and_from begins values semicolon (values_all text (extended blanks words blank value e)))

pub extension_is : (text : List ℕ) → is_extension text ≡ true → IsExtension text
extension_is text passes = ⊎_elim
    (λ (e : (length text == 0) ≡ true). without (nil_from_length text (eqb-true (length text) 0 e)))
    (λ (e : (begins_with_semicolon (trim_ows text) && list_all is_value_byte text) ≡ true).
    let parts = and_parts (begins_with_semicolon (trim_ows text)) (list_all is_value_byte text) e in
    let split = skip_split text in
    by_skipped split.0 split.1 (skip_ows text) split.2 (sym (trimmed_front text) ∙ parts.0) parts.1)
    (or_cases (length text == 0) (begins_with_semicolon (trim_ows text) && list_all is_value_byte text) passes)
  where
    by_skipped : (blanks : List ℕ) → list_all is_ows blanks ≡ true → (s : List ℕ) → text ≡ blanks ++ s
        → begins_with_semicolon s ≡ true → list_all is_value_byte text ≡ true → IsExtension text
    by_skipped blanks blank [] e begins values = absurd (cc)
    by_skipped blanks blank (b ∷ words) e begins values =
        let b_is : b ≡ 59 = eqb-true b 59 begins in
        let all : (list_all is_value_byte blanks && list_all is_value_byte (b ∷ words)) ≡ true =
        sym (list_all-append is_value_byte blanks (b ∷ words)) ∙ ap (list_all is_value_byte) (sym e) ∙ values in
        let last = and_parts (list_all is_value_byte blanks) (list_all is_value_byte (b ∷ words)) all in
        let value = and_parts (is_value_byte b) (list_all is_value_byte words) last.1 in
        extended blanks words blank value.1 (e ∙ ap (λ x. blanks ++ x ∷ words) b_is)

-- ---- fields

colon_none : is_token_byte 58 ≡ false
unfolding is_token_byte
colon_none = refl

token_byte : (b : ℕ) → is_token_byte b ≡ true → (b == 58) ≡ false
token_byte b token = by_test (b == 58) refl
  where
    by_test : (t : Bool) → (b == 58) ≡ t → (b == 58) ≡ false
    by_test true e = absurd (let wrong : true ≡ false = sym token ∙ ap is_token_byte (eqb-true b 58 e) ∙ colon_none in cc)
    by_test false e = e

pub field_passes : (field : Trailer) → IsTrailer field → is_field (print_field field) ≡ true
unfolding is_field
field_passes field is =
    let n = length field.name in
    let text = print_field field in
    let bytes = (and_parts (nat_lt 0 n) (list_all is_token_byte field.name) is.name).1 in
    let found : position (λ b. b == 58) text ≡ Some n =
    position_behind (λ b. b == 58) is_token_byte field.name token_byte bytes 58 field.value refl in
    let front : take n text ≡ field.name = take_at field.name (58 ∷ field.value) n refl in
    let size : length (field.name ++ 58 ∷ []) ≡ n + 1 = omega (arith, length-append field.name (58 ∷ [])) in
    let back : drop (n + 1) text ≡ field.value =
    ap (drop (n + 1)) (sym (append_assoc field.name (58 ∷ []) field.value)) ∙ drop_at (field.name ++ 58 ∷ []) field.value (n + 1) size in
    ap (is_field_at text) found
    ∙ and_from (is_token (take n text)) (list_all is_value_byte (drop (n + 1) text)) (ap is_token front ∙ is.name)
    (ap (list_all is_value_byte) back ∙ is.value)

pub field_is : (text : List ℕ) → is_field text ≡ true → (field : Trailer) × IsTrailer field × (text ≡ print_field field)
unfolding is_field
field_is text passes = by_place (position (λ b. b == 58) text) refl passes
  where
    by_place : (o : Option ℕ) → position (λ b. b == 58) text ≡ o → is_field_at text o ≡ true
        → (field : Trailer) × IsTrailer field × (text ≡ print_field field)
    by_place None e f = absurd (cc)
    by_place (Some n) e f =
        let at = position-Some (λ b. b == 58) text n 0 e in
        let parts = and_parts (is_token (take n text)) (list_all is_value_byte (drop (n + 1) text)) f in
        let split : text ≡ take n text ++ get_or text n 0 ∷ drop (n + 1) text =
        sym (take-append-drop n text) ∙ ap (λ t. take n text ++ t) (drop_more text n 0 at.0) in (
          record { name = take n text; value = drop (n + 1) text },
          record { name = parts.0; value = parts.1 },
          split ∙ ap (λ b. take n text ++ b ∷ drop (n + 1) text) (eqb-true (get_or text n 0) 58 at.1),
        )

-- ---- size lines

-- the byte behind the digits is none
not_digit : (p : ℕ) → is_ows p ≡ true → is_ascii_hexdigit p ≡ false
not_digit p blank = ⊎_elim
    (λ (e : (p == 32) ≡ true). ap is_ascii_hexdigit (eqb-true p 32 e))
    (λ (e : (p == 9) ≡ true). ap is_ascii_hexdigit (eqb-true p 9 e))
    (or_cases (p == 32) (p == 9) blank)

abbrev is_other : ℕ → Bool
is_other b = not (is_ascii_hexdigit b)

digit_is_none : (b : ℕ) → is_ascii_hexdigit b ≡ true → is_other b ≡ false
digit_is_none b digit = rw digit refl

digits_lead : (digits extension : List ℕ) → list_all is_ascii_hexdigit digits ≡ true → IsExtension extension
    → digits_in (digits ++ extension) ≡ length digits
digits_lead digits extension all (without e) =
    rw (e, append-nil digits, position_none is_other is_ascii_hexdigit digits digit_is_none all) refl
digits_lead digits extension all (extended [] words blank value e) =
    rw (e, position_behind is_other is_ascii_hexdigit digits digit_is_none all 59 words refl) refl
digits_lead digits extension all (extended (b ∷ blanks) words blank value e) =
    let parts = and_parts (is_ows b) (list_all is_ows blanks) blank in
    let other : is_other b ≡ true = rw (not_digit b parts.0) refl in
    rw (e, position_behind is_other is_ascii_hexdigit digits digit_is_none all b (blanks ++ 59 ∷ words) other) refl

pub size_line_read : (line : SizeLine) → IsSizeLine line → length line.digits ≤ 16
    → size_in (line.digits ++ line.extension) ≡ Some (size_of line, length line.extension)
size_line_read line is few =
    let n = length line.digits in
    let lead = digits_lead line.digits line.extension is.digits is.extension in
    let number : hexadecimal line.digits ≡ Some (size_of line) =
    sym (hexadecimal_some line.digits (size_of line) (hexadecimal_by_digits line.digits is.some few is.digits) refl) in
    let passes = extension_passes line.extension is.extension in
    rw (lead, take_at line.digits line.extension n refl, drop_at line.digits line.extension n refl, number, passes) refl

-- what a size line says
pub record ReadsSize (text : List ℕ) (size dropped : ℕ) : Type 0 where
  pub line : SizeLine
  pub is : IsSizeLine line
  pub few : length line.digits ≤ 16
  pub size_is : size ≡ size_of line
  pub dropped_is : dropped ≡ length line.extension
  pub text_is : text ≡ line.digits ++ line.extension

hexadecimal_is : (text : List ℕ) (n : ℕ) → hexadecimal text ≡ Some n
    → (is_hexadecimal text ≡ true) × (n ≡ digits_value 16 text)
unfolding hexadecimal
hexadecimal_is text n e = by_test (is_hexadecimal text) refl
  where
    by_test : (t : Bool) → is_hexadecimal text ≡ t → (is_hexadecimal text ≡ true) × (n ≡ digits_value 16 text)
    by_test true good = let same : Some (digits_value 16 text) ≡ Some n = rw good at e in (good, cc)
    by_test false other = absurd (let wrong : None ≡ Some n = rw other at e in cc)

pub size_line_is : (text : List ℕ) (size dropped : ℕ) → size_in text ≡ Some (size, dropped)
    → ReadsSize text size dropped
size_line_is text size dropped e = by_number (hexadecimal digits) refl e
  where
    digits : List ℕ
    digits = take (digits_in text) text

    extension : List ℕ
    extension = drop (digits_in text) text

    by_extension : (n : ℕ) → hexadecimal digits ≡ Some n → (t : Bool) → is_extension extension ≡ t
        → with_extension extension (Some n) ≡ Some (size, dropped) → ReadsSize text size dropped
    by_extension n number true passes f =
        let same : Some (n, length extension) ≡ Some (size, dropped) = rw passes at f in
        let size_is : size ≡ n = ap (λ o. (unwrap_or {T = ℕ × ℕ} o (0, 0)).0) (sym same) in
        let dropped_is : dropped ≡ length extension = ap (λ o. (unwrap_or {T = ℕ × ℕ} o (0, 0)).1) (sym same) in
        let read = hexadecimal_is digits n number in
        let all = and_parts (nat_lt 0 (length digits) && nat_le (length digits) 16) (list_all is_ascii_hexdigit digits) read.0 in
        let sized = and_parts (nat_lt 0 (length digits)) (nat_le (length digits) 16) all.0 in
        record {
          line = record { digits = digits; extension = extension };
          is = record { some = ltb-true 0 (length digits) sized.0; digits = all.1; extension = extension_is extension passes };
          few = leb-true (length digits) 16 sized.1;
          size_is = size_is ∙ read.1;
          dropped_is = dropped_is;
          text_is = sym (take-append-drop (digits_in text) text);
        }
    by_extension n number false other f = absurd (let wrong : None ≡ Some (size, dropped) = rw other at f in cc)

    by_number : (o : Option ℕ) → hexadecimal digits ≡ o → with_extension extension o ≡ Some (size, dropped)
        → ReadsSize text size dropped
    by_number None number f = absurd (cc)
    by_number (Some n) number f = by_extension n number (is_extension extension) refl f

-- ---- none has a line feed

value_feed : (b : ℕ) → is_value_byte b ≡ true → is_feed b ≡ false
value_feed b value = by_test (b == 10) refl
  where
    by_test : (t : Bool) → (b == 10) ≡ t → (b == 10) ≡ false
    by_test true e = absurd (let wrong : true ≡ false = sym value ∙ ap is_value_byte (eqb-true b 10 e) in cc)
    by_test false e = e

digit_feed : (b : ℕ) → is_ascii_hexdigit b ≡ true → is_feed b ≡ false
digit_feed b digit = by_test (b == 10) refl
  where
    by_test : (t : Bool) → (b == 10) ≡ t → (b == 10) ≡ false
    by_test true e = absurd (let wrong : true ≡ false = sym digit ∙ ap is_ascii_hexdigit (eqb-true b 10 e) in cc)
    by_test false e = e

feed_none : is_token_byte 10 ≡ false
unfolding is_token_byte
feed_none = refl

token_feed : (b : ℕ) → is_token_byte b ≡ true → is_feed b ≡ false
token_feed b token = by_test (b == 10) refl
  where
    by_test : (t : Bool) → (b == 10) ≡ t → (b == 10) ≡ false
    by_test true e = absurd (let wrong : true ≡ false = sym token ∙ ap is_token_byte (eqb-true b 10 e) ∙ feed_none in cc)
    by_test false e = e

pub size_unbroken : (line : SizeLine) → IsSizeLine line → line_end (line.digits ++ line.extension) ≡ None
size_unbroken line is =
    unbroken_both line.digits line.extension (unbroken is_ascii_hexdigit line.digits digit_feed is.digits)
    (unbroken is_value_byte line.extension value_feed (values_all line.extension is.extension))

pub field_unbroken : (field : Trailer) → IsTrailer field → line_end (print_field field) ≡ None
field_unbroken field is =
    let bytes = (and_parts (nat_lt 0 (length field.name)) (list_all is_token_byte field.name) is.name).1 in
    unbroken_both field.name (58 ∷ field.value) (unbroken is_token_byte field.name token_feed bytes)
    (ap (option_map suc) (unbroken is_value_byte field.value value_feed is.value))
