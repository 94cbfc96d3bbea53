-- The names of fields that are passed on to another server.
use Rattle.std.specs.Prelude.{ℕ, Bool, if◌then◌else◌, ◌==◌, nat_eq, List, map}
use Rattle.std.specs.Char.{to_ascii_lowercase}
use Rattle.std.specs.Cmp.Lexicographic.{pointwise}

-- the byte as such names compare: letters without case (RFC 9110, section 5.1), and `_` as `-`, for a server that keeps fields in variables
-- tells neither from the other (CGI: RFC 3875, section 4.1.18)
abbrev pub folded : ℕ → ℕ
folded c = if c == 95 then 45 else to_ascii_lowercase c

-- the names may be one to such a server
unfoldable pub same_name : List ℕ → List ℕ → Bool
same_name a b = pointwise nat_eq (map folded a) (map folded b)
