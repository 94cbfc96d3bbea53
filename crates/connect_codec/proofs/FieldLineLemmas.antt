-- Field lines as the grammar of HTTP/1.1 has them.
use Rattle.std.proofs.Common.{◌≡◌, ℕ, Bool, true, false, ◌&&◌, List, [], ◌∷◌, ◌++◌, map, reverse, length, refl, ap, append_assoc, arith, nat_lt, ◌≤◌}
use Rattle.std.proofs.lemmas.Bool.Decides.{nat_tests}
use Rattle.std.proofs.lemmas.List.{map-append}
use Rattle.std.proofs.lemmas.List.Elements.{All-append, All-cons, All-head, All-map, All-tail}
use Rattle.std.proofs.lemmas.List.Sums.{AllPass-from_list_all, list_all-from_AllPass}
use Rattle.std.specs.Prelude.{All, IsTrue}
use Rattle.std.proofs.lemmas.Str.Parse.{digit_from_value}
use Rattle.std.specs.Str.Parse.{AllDigits}
use Rattle.std.specs.List.{list_all, flat_map}
use Rattle.httparse.proofs.TrimLemmas.{trim_ows_space, AllPass-reverse}
use Rattle.httparse.specs.Grammar.{Field, crlf, IsField, is_token, is_token_byte, is_value_byte, is_ows, skip_ows, print_field, IsToken}
use Rattle.httparse.specs.Spans.{name_and_value}
use Rattle.http_pieces.specs.Fields.{NamedValue}
use Rattle.connect_codec.specs.Headers.{is_visible}
use Rattle.connect_codec.specs.Message.{field_line}
use Rattle.connect_codec.specs.ReadBack.{IsFound}

-- ---- bytes that can be seen

visible_value : (b : ℕ) → is_visible b ≡ true → is_value_byte b ≡ true
visible_value b seen = grind (arith, nat_tests)

visible_no_blank : (b : ℕ) → is_visible b ≡ true → is_ows b ≡ false
visible_no_blank b seen = grind (arith, nat_tests)

-- the digits of a number pass each test that digits pass
pub digits_pass : (test : ℕ → Bool) → ((b : ℕ) → 48 ≤ b → b ≤ 57 → test b ≡ true) → (text : List ℕ) → AllDigits 10 text → list_all test text ≡ true
digits_pass test passes [] all = refl
digits_pass test passes (c ∷ text) all =
    let within = digit_from_value c all.0 in
    rw (passes c (omega (arith, within)) (omega (arith, within)), digits_pass test passes text all.1) refl

-- what holds of each byte that passes one test holds of each that passes another
pub list_all-weaker : (p q : ℕ → Bool) → ((b : ℕ) → p b ≡ true → q b ≡ true) → (xs : List ℕ) → list_all p xs ≡ true → list_all q xs ≡ true
list_all-weaker p q weaker [] all = refl
list_all-weaker p q weaker (x ∷ xs) all = by_first (list_all-weaker p q weaker xs) (p x) refl
  where
    by_first : (list_all p xs ≡ true → list_all q xs ≡ true) → (t : Bool) → p x ≡ t → list_all q (x ∷ xs) ≡ true
    by_first later true first =
        let tails : list_all p xs ≡ true = rw first at all in
        rw (weaker x first, later tails) refl
    by_first later false other = absurd (let wrong : false ≡ true = rw other at all in cc)

pub first_passes : (p : ℕ → Bool) (x : ℕ) (xs : List ℕ) → list_all p (x ∷ xs) ≡ true → p x ≡ true
first_passes p x xs all = by_first (p x) refl
  where
    by_first : (t : Bool) → p x ≡ t → p x ≡ true
    by_first true first = first
    by_first false other = absurd (let wrong : false ≡ true = rw other at all in cc)

skip_ows-visible : (v : List ℕ) → list_all is_visible v ≡ true → skip_ows v ≡ v
skip_ows-visible [] all = refl
skip_ows-visible (b ∷ v) all = rw (visible_no_blank b (first_passes is_visible b v all)) refl

visible_back : (v : List ℕ) → list_all is_visible v ≡ true → list_all is_visible (reverse v) ≡ true
visible_back v all = list_all-from_AllPass is_visible (reverse v) (AllPass-reverse is_visible v (AllPass-from_list_all is_visible v all))

-- ---- one field

-- a name that is a token, and a value of bytes that can be seen
abbrev pub is_sound : NamedValue → Bool
is_sound f = is_token f.0 && list_all is_visible f.1

-- the field as the grammar has it
abbrev pub as_field : NamedValue → Field
as_field f = record { name = f.0; raw = 32 ∷ f.1; end = crlf }

pub both_true : (a b : Bool) → (a && b) ≡ true → (a ≡ true) × (b ≡ true)
both_true true b e = (refl, e)
both_true false b e = absurd (cc)

pub sound_name : (name : List ℕ) → is_token name ≡ true → IsToken name
sound_name name e =
    let h = both_true (nat_lt 0 (length name)) (list_all is_token_byte name) e in
    let some = h.0 in
    (grind (arith, nat_tests), AllPass-from_list_all is_token_byte name h.1)

sound_field : (f : NamedValue) → is_sound f ≡ true → IsField (as_field f)
sound_field f sound =
    let h = both_true (is_token f.0) (list_all is_visible f.1) sound in
    record {
      name = sound_name f.0 h.0;
      raw = AllPass-from_list_all is_value_byte (32 ∷ f.1) (list_all-weaker is_visible is_value_byte visible_value f.1 h.1);
    }

sound_value : (f : NamedValue) → is_sound f ≡ true → name_and_value (as_field f) ≡ f
sound_value f sound =
    let h = both_true (is_token f.0) (list_all is_visible f.1) sound in
    ap (λ (v : List ℕ). (f.0, v)) (trim_ows_space f.1 (skip_ows-visible f.1 h.1) (skip_ows-visible (reverse f.1) (visible_back f.1 h.1)))

-- ---- all fields

pub all_fields : (fields : List NamedValue) → list_all is_sound fields ≡ true → All IsField (map as_field fields)
all_fields fields sound = All-map IsField as_field fields (λ k d lt. sound_field _ (AllPass-from_list_all is_sound fields sound k d lt))

pub all_values : (fields : List NamedValue) → list_all is_sound fields ≡ true → map name_and_value (map as_field fields) ≡ fields
all_values [] sound = refl
all_values (f ∷ fields) sound =
    let h = both_true (is_sound f) (list_all is_sound fields) sound in
    rw (sound_value f h.0, all_values fields h.1) refl

-- ---- fields that were found in a request

found_field : (f : NamedValue) → IsFound f → IsField (as_field f)
found_field f found = record { name = found.name; raw = All-cons (λ b. IsTrue (is_value_byte b)) 32 f.1 refl found.value }

pub found_fields : (fields : List NamedValue) → All IsFound fields → All IsField (map as_field fields)
found_fields fields found = All-map IsField as_field fields (λ k d lt. found_field _ (found k d lt))

pub found_values : (fields : List NamedValue) → All IsFound fields → map name_and_value (map as_field fields) ≡ fields
found_values [] found = refl
found_values (f ∷ fields) found =
    let first = All-head IsFound f fields found in
    rw (trim_ows_space f.1 first.front first.back, found_values fields (All-tail IsFound f fields found)) refl

-- ---- two lists of fields

pub both_fields : (fields more : List NamedValue) → All IsField (map as_field fields) → All IsField (map as_field more) → All IsField (map as_field (fields ++ more))
both_fields fields more a b = rw (map-append as_field fields more) (All-append IsField (map as_field fields) (map as_field more) a b)

pub both_values : (fields more : List NamedValue) → map name_and_value (map as_field fields) ≡ fields → map name_and_value (map as_field more) ≡ more
    → map name_and_value (map as_field (fields ++ more)) ≡ fields ++ more
both_values fields more a b = rw (map-append as_field fields more, map-append name_and_value (map as_field fields) (map as_field more), a, b) refl

pub print_fields : (fields : List NamedValue) → flat_map print_field (map as_field fields) ≡ flat_map field_line fields
print_fields [] = refl
print_fields (f ∷ fields) =
    rw (print_fields fields, append_assoc f.0 (58 ∷ 32 ∷ []) f.1) refl
