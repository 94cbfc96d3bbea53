-- What a plan's texts may be, byte by byte: names, addresses and paths.
use Rattle.std.specs.Prelude.{ℕ, ◌-◌, List, [], ◌∷◌, length, drop, slice_index, Bool, not, ◌&&◌, ◌||◌, ◌==◌, nat_lt, nat_le}
use Rattle.std.specs.Char.{is_ascii_digit, is_ascii_lowercase, is_ascii_graphic}
use Rattle.std.specs.List.{list_all, list_any}

-- the bytes `_`, `:`, `/`, `?` and `#`
abbrev pub underscore : ℕ
underscore = 95

abbrev pub colon : ℕ
colon = 58

abbrev pub slash : ℕ
slash = 47

abbrev pub question_mark : ℕ
question_mark = 63

abbrev pub number_sign : ℕ
number_sign = 35

-- `a` to `z`, `0` to `9` or `_`
abbrev pub is_name_byte : ℕ → Bool
is_name_byte c = is_ascii_lowercase c || is_ascii_digit c || c == underscore

-- A name is [a-z][a-z0-9_]*, of at most 64 bytes.
unfoldable pub is_name : List ℕ → Bool
is_name name = is_ascii_lowercase (slice_index name 0) && list_all is_name_byte name && nat_le (length name) 64

-- the text ends in `:` and n digits
abbrev pub ends_in_port : List ℕ → ℕ → Bool
ends_in_port text n = nat_lt n (length text) && slice_index text (length text - n - 1) == colon && list_all is_ascii_digit (drop (length text - n) text)

-- An address is at most 255 bytes from `!` to `~`, and ends in `:` and 1 to 5 digits.
unfoldable pub is_address : List ℕ → Bool
is_address address =
    nat_le (length address) 255 && list_all is_ascii_graphic address && list_any (ends_in_port address) (1 ∷ 2 ∷ 3 ∷ 4 ∷ 5 ∷ [])

-- a byte from `!` to `~`, but not `?` or `#`
abbrev pub is_path_byte : ℕ → Bool
is_path_byte c = is_ascii_graphic c && not (c == question_mark) && not (c == number_sign)

-- A path begins with `/`, has path bytes alone, and at most 1,024 of them.
unfoldable pub is_path : List ℕ → Bool
is_path path = slice_index path 0 == slash && list_all is_path_byte path && nat_le (length path) 1024
