-- The fields of a head, by name (RFC 9110, section 5).
use Rattle.std.specs.Prelude.{◌≡◌, ℕ, ◌≤◌, Bool, ◌&&◌, if◌then◌else◌, ◌==◌, nat_lt, nat_le, nat_eq, List, [], ◌∷◌, map, length, Option, None, Some, codes}
use Rattle.std.specs.List.{list_any, list_all}
use Rattle.std.specs.Char.{to_ascii_lowercase, is_ascii_digit}
use Rattle.std.specs.Str.Parse.{digits_value}
use Rattle.std.specs.Cmp.Lexicographic.{pointwise}
use Rattle.httparse.specs.Grammar.{trim_ows}
use Rattle.http_pieces.specs.declared.field.Field.{Field}
use Rattle.http_pieces.specs.declared.field.Field.TheVariants as field

-- a field's name, and its value without the blanks (spaces and tabs) at both ends
abbrev pub NamedValue : Type 0
NamedValue = List ℕ × List ℕ

-- texts that differ at most in the case of ASCII letters
unfoldable pub same_without_case : List ℕ → List ℕ → Bool
same_without_case a b = pointwise nat_eq (map to_ascii_lowercase a) (map to_ascii_lowercase b)

-- the values of the fields of that name, in order; names compare without case (RFC 9110, section 5.1)
abbrev pub values_of : List ℕ → List NamedValue → List (List ℕ)
values_of name [] = []
values_of name (f ∷ fields) =
    if same_without_case f.0 name then f.1 ∷ values_of name fields else values_of name fields

-- what a head says under a name that has these values: none, one, or many
abbrev pub IsFieldOf : List (List ℕ) → Field → Type 0
IsFieldOf values field.None = values ≡ []
IsFieldOf values (field.One value) = values ≡ value.now ∷ []
IsFieldOf values field.Many = 2 ≤ length values

-- 1 to 10 decimal digits
abbrev pub is_decimal : List ℕ → Bool
is_decimal text = nat_lt 0 (length text) && nat_le (length text) 10 && list_all is_ascii_digit text

-- the number that 1 to 10 decimal digits write
unfoldable pub decimal : List ℕ → Option ℕ
decimal text = if is_decimal text then Some (digits_value 10 text) else None

-- the byte goes in front of the first part
abbrev pub onto_first : ℕ → List (List ℕ) → List (List ℕ)
onto_first b [] = (b ∷ []) ∷ []
onto_first b (part ∷ parts) = (b ∷ part) ∷ parts

-- the parts of a text between its commas (RFC 9110, section 5.6.1)
abbrev pub comma_parts : List ℕ → List (List ℕ)
comma_parts [] = [] ∷ []
comma_parts (b ∷ text) = if b == 44 then [] ∷ comma_parts text else onto_first b (comma_parts text)

-- the option of that name, whatever the blanks round it; options compare without case (RFC 9110, section 7.6.1)
abbrev pub is_option : List ℕ → List ℕ → Bool
is_option name option = same_without_case (trim_ows option) name

-- one of the comma-separated options of a `Connection` value has that name
unfoldable pub has_option : List ℕ → List ℕ → Bool
has_option name value = list_any (is_option name) (comma_parts value)

-- some `Connection` field has the option of that name (RFC 9110, section 7.6.1)
abbrev pub lists_option : List ℕ → List NamedValue → Bool
lists_option name fields = list_any (has_option name) (values_of (codes "connection") fields)

-- some `Connection` field asks for the close of the connection (RFC 9112, section 9.6)
abbrev pub asks_to_close : List NamedValue → Bool
asks_to_close fields = lists_option (codes "close") fields
