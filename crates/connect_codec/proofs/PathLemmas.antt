-- The parts of a request's target.
use Rattle.std.proofs.Common.{◌≡◌, ℕ, ◌+◌, ◌<◌, ◌≤◌, ◌==◌, suc, Bool, true, false, List, [], ◌∷◌, length, drop, refl, arith, Some, None}
use Rattle.std.specs.Prelude.{position}
use Rattle.std.specs.List.{position_or_len, before_first}
use Rattle.connect_codec.specs.Path.{from_slash, path_and_query, path_of}
use Rattle.connect_codec.proofs.TextLemmas.{position_found, position_missing}

-- what stands from the first slash on, by its place
record FromSlash (text : List ℕ) (n : ℕ) : Type 0 where
  found : n < length text → from_slash text ≡ Some (drop n text)
  missing : length text ≤ n → from_slash text ≡ None

from_place : (text : List ℕ) → FromSlash text (position_or_len (λ b. b == 47) text)
from_place [] = record { found = λ lt. absurd (omega arith); missing = λ le. refl }
from_place (b ∷ text) = by_first (from_place text) (b == 47) refl
  where
    by_first : FromSlash text (position_or_len (λ b. b == 47) text) → (t : Bool) → (b == 47) ≡ t → FromSlash (b ∷ text) (position_or_len (λ b. b == 47) (b ∷ text))
    by_first later true slash = rw slash (record { found = λ lt. rw slash refl; missing = λ le. absurd (omega arith) })
    by_first later false other =
        let suc_n : 1 + position_or_len (λ b. b == 47) text ≡ suc (position_or_len (λ b. b == 47) text) = omega arith in
        rw (other, suc_n) (record { found = λ lt. rw other (later.found (omega arith)); missing = λ le. rw other (later.missing (omega arith)) })

pub from_slash_found : (text : List ℕ) (i : ℕ) → position (λ b. b == 47) text ≡ Some i → from_slash text ≡ Some (drop i text)
from_slash_found text i e =
    let place = position_found (λ b. b == 47) text i e in
    rw (← place.0) ((from_place text).found (omega arith))

pub from_slash_missing : (text : List ℕ) → position (λ b. b == 47) text ≡ None → from_slash text ≡ None
from_slash_missing text e = (from_place text).missing (position_missing (λ b. b == 47) text e)

-- ---- a target

-- what stands before the query
pub path_of-none : (target : List ℕ) → path_and_query target ≡ None → path_of target ≡ None
unfolding path_of
path_of-none target e = rw e refl

pub path_of-some : (target text : List ℕ) → path_and_query target ≡ Some text → path_of target ≡ Some (before_first (λ b. b == 63) text)
unfolding path_of
path_of-some target text e = rw e refl
