-- The place of a byte in a text, and what stands before it.
use Rattle.std.proofs.Common.{◌≡◌, ℕ, ◌<◌, ◌≤◌, Bool, true, false, List, length, refl, arith, Some, None, nat_lt}
use Rattle.std.proofs.lemmas.Bool.Decides.{nat_tests}
use Rattle.std.specs.Prelude.{position}
use Rattle.std.specs.List.{position_or_len}

pub position_found : (p : ℕ → Bool) (text : List ℕ) (i : ℕ) → position p text ≡ Some i → (position_or_len p text ≡ i) × (i < length text)
position_found p text i e = by_test (nat_lt (position_or_len p text) (length text)) refl
  where
    by_test : (t : Bool) → nat_lt (position_or_len p text) (length text) ≡ t → (position_or_len p text ≡ i) × (i < length text)
    by_test true lt =
        let some : Some (position_or_len p text) ≡ Some i = rw lt at e in
        let same : position_or_len p text ≡ i = cc in
        let below : position_or_len p text < length text = grind (arith, nat_tests) in
        (same, omega arith)
    by_test false ge = absurd (let none : None ≡ Some i = rw ge at e in cc)

pub position_missing : (p : ℕ → Bool) (text : List ℕ) → position p text ≡ None → length text ≤ position_or_len p text
position_missing p text e = by_test (nat_lt (position_or_len p text) (length text)) refl
  where
    by_test : (t : Bool) → nat_lt (position_or_len p text) (length text) ≡ t → length text ≤ position_or_len p text
    by_test true lt = absurd (let some : Some (position_or_len p text) ≡ None = rw lt at e in cc)
    by_test false ge = grind (arith, nat_tests)
