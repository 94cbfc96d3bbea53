-- What begins quietly, and what does not.
use Rattle.std.proofs.Common.{◌≡◌, ℕ, List, [], ◌∷◌, ◌++◌, All, ◌∙◌}
use Rattle.std.proofs.lemmas.List.Elements.{All-head, All-tail}
use Rattle.wires.specs.Turns.{BeginsQuietly, Came, Quiet, Turn, Went}

abbrev pub IsQuiet : Turn → Type 0
IsQuiet turn = turn ≡ Quiet

went_quiet : (bytes : List ℕ) → Went bytes ≡ Quiet → ⊥
went_quiet bytes e = cc

pub came_quiet : (bytes : List ℕ) → Came bytes ≡ Quiet → ⊥
came_quiet bytes e = cc

pub parts : (x y : Turn) (xs ys : List Turn) → x ∷ xs ≡ y ∷ ys → (x ≡ y) × (xs ≡ ys)
parts x y xs ys e = (cc, cc)

-- what begins quietly begins with a quiet turn
pub first_quiet : (x : Turn) (xs : List Turn) (idle : List Turn) (first : List ℕ) (after : List Turn) → All IsQuiet idle → x ∷ xs ≡ idle ++ Quiet ∷ Went first ∷ after → x ≡ Quiet
first_quiet x xs [] first after quiet are = (parts x Quiet xs (Went first ∷ after) are).0
first_quiet x xs (t ∷ idle) first after quiet are = (parts x t xs (idle ++ Quiet ∷ Went first ∷ after) are).0 ∙ All-head IsQuiet t idle quiet

-- .. and then with another one, or with what went
pub second_quiet : (x y : Turn) (xs : List Turn) (idle : List Turn) (first : List ℕ) (after : List Turn) → All IsQuiet idle → x ∷ y ∷ xs ≡ idle ++ Quiet ∷ Went first ∷ after
    → (y ≡ Quiet → ⊥) → (bytes : List ℕ) × (y ≡ Went bytes)
second_quiet x y xs [] first after quiet are loud = (first, (parts y (Went first) xs after (parts x Quiet (y ∷ xs) (Went first ∷ after) are).1).0)
second_quiet x y xs (t ∷ idle) first after quiet are loud =
    absurd (loud (first_quiet y xs idle first after (All-tail IsQuiet t idle quiet) (parts x t (y ∷ xs) (idle ++ Quiet ∷ Went first ∷ after) are).1))

-- a write is no quiet begin
pub went_first : (bytes : List ℕ) (after : List Turn) → BeginsQuietly (Went bytes ∷ after) → ⊥
went_first bytes after b = went_quiet bytes (first_quiet (Went bytes) after b.idle b.first b.after b.quiet b.are)
