-- A stop takes something from the hooks that wait exactly where one of them has that number.
use Rattle.std.proofs.Common.{◌≡◌, ◌≤◌, Bool, not, nat_lt, List, [], ◌∷◌, length, filter, refl, arith}
use Rattle.std.specs.List.{list_any}
use Rattle.std.proofs.lemmas.Bool.{cases_Bool}
use Rattle.std.proofs.lemmas.Bool.Decides.{nat_tests}
use Rattle.std.proofs.Common.{⊎_elim}

filter_at_most : {X : Type 0} (p : X → Bool) (xs : List X) → length (filter p xs) ≤ length xs
filter_at_most p [] = omega arith
filter_at_most p (x ∷ xs) =
    ⊎_elim (λ yes. rw yes (omega (arith, filter_at_most p xs))) (λ no. rw no (omega (arith, filter_at_most p xs))) (cases_Bool (p x))

pub shorter : {X : Type 0} (p : X → Bool) (xs : List X) → nat_lt (length (filter (λ x. not (p x)) xs)) (length xs) ≡ list_any p xs
shorter p [] = refl
shorter p (x ∷ xs) =
    ⊎_elim (λ yes. rw yes (grind (arith, nat_tests, filter_at_most (λ x. not (p x)) xs))) (λ no. rw no (grind (arith, nat_tests, shorter p xs))) (cases_Bool (p x))
