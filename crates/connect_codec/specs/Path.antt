-- The path that a request names (RFC 9112, section 3.2; RFC 3986, section 3).
use Rattle.std.specs.Prelude.{ℕ, List, [], ◌∷◌, ◌==◌, if◌then◌else◌, take, drop, Option, None, Some, option_map, nat_eq, codes}
use Rattle.std.specs.List.{before_first, starts_with}
use Rattle.http_pieces.specs.Fields.{same_without_case}

-- the bytes from the first `/` on
abbrev pub from_slash : List ℕ → Option (List ℕ)
from_slash [] = None
from_slash (b ∷ text) = if b == 47 then Some (b ∷ text) else from_slash text

-- the path and the query of a target in origin form, `/..`, or in absolute form, `http://..`, whose scheme has any case
abbrev pub path_and_query : List ℕ → Option (List ℕ)
path_and_query target =
    if starts_with nat_eq target (codes "/") then Some target else (
    if same_without_case (take 7 target) (codes "http://") then from_slash (drop 7 target) else
    None)

-- the path: what stands before the first `?`
unfoldable pub path_of : List ℕ → Option (List ℕ)
path_of target = option_map (before_first (λ b. b == 63)) (path_and_query target)
