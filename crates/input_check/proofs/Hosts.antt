-- Where the last colon of an address stands.
use native.Mathlib.Omega.{arith}
use Rattle.std.proofs.Common.{◌≡◌, ◌==◌, ℕ, zero, suc, ◌<◌, List, [], ◌∷◌, length, slice_index, drop, take}
use Rattle.std.proofs.Common.{None, Some, refl, true, false}
use Rattle.input_check.specs.Host.{host_of}

-- none stands behind the end
pub ends : (text : List ℕ) → host_of (drop (length text) text) ≡ None
ends [] = refl
ends (c ∷ cs) = ends cs

-- one byte more has none, if it is no colon
pub passes : (k : ℕ) (text : List ℕ) → k < length text → (slice_index text k == 58) ≡ false
    → host_of (drop (suc k) text) ≡ None → host_of (drop k text) ≡ None
passes k [] inside other none = absurd (omega (arith, inside))
passes zero (c ∷ cs) inside other none = rw (none, other) refl
passes (suc k) (c ∷ cs) inside other none = passes k cs (omega (arith, inside)) other none

-- the last colon ends the host
pub found : (k : ℕ) (text : List ℕ) → k < length text → (slice_index text k == 58) ≡ true
    → host_of (drop (suc k) text) ≡ None → host_of text ≡ Some (take k text)
found k [] inside is none = absurd (omega (arith, inside))
found zero (c ∷ cs) inside is none = rw (none, is) refl
found (suc k) (c ∷ cs) inside is none = rw (found k cs (omega (arith, inside)) is none) refl
