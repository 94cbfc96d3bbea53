-- Names that are awaited, and those that are not.
use Rattle.std.proofs.Common.{◌≡◌, ℕ, zero, suc, List, [], ◌∷◌, ◌++◌, ap, arith, length, subst, refl}
use Rattle.std.proofs.lemmas.List.{length-append}
use Rattle.std.specs.List.{Contains}
use Rattle.loop_model.specs.Found.{Asked, Found, FoundValue, IsAwaited, LookUp, found_in}

pub only : {A : Type 0} (x y : A) → Contains (x ∷ []) y → x ≡ y
only x y (zero, lt, is) = is
only x y (suc k, lt, is) = absurd (omega (arith, lt))

pub nothing : {A : Type 0} (y : A) → Contains [] y → ⊥
nothing y (k, lt, is) = omega (arith, lt)

-- nothing is no name and more
none_is : (name : List ℕ) (before since : List LookUp) → [] ≡ before ++ Asked name ∷ since → ⊥
none_is name before since e = omega (arith, ap (λ (l : List LookUp). length l) e, length-append before (Asked name ∷ since))

rest_is : {A : Type 0} (x y : A) (xs ys : List A) → x ∷ xs ≡ y ∷ ys → xs ≡ ys
rest_is x y xs ys e = cc

found_not_asked : (f : FoundValue) (name : List ℕ) (xs ys : List LookUp) → Found f ∷ xs ≡ Asked name ∷ ys → ⊥
found_not_asked f name xs ys e = cc

name_is : (other name : List ℕ) (xs ys : List LookUp) → Asked other ∷ xs ≡ Asked name ∷ ys → other ≡ name
name_is other name xs ys e = cc

pub never_asked : (name : List ℕ) → IsAwaited name [] → ⊥
never_asked name w = none_is name w.before w.since w.lookups_are

pub others_asked : (name other : List ℕ) → IsAwaited name (Asked other ∷ []) → other ≡ name
others_asked name other w = by_it w.before w.since w.lookups_are
  where
    by_it : (before since : List LookUp) → Asked other ∷ [] ≡ before ++ Asked name ∷ since → other ≡ name
    by_it [] since e = name_is other name [] since e
    by_it (x ∷ before) since e = absurd (none_is name before since (rest_is (Asked other) x [] (before ++ Asked name ∷ since) e))

pub found_since : (name : List ℕ) (f : FoundValue) → f.name ≡ name → IsAwaited name (Asked name ∷ Found f ∷ []) → ⊥
found_since name f its w = by_it w.before w.since w.lookups_are w.not_found
  where
    by_it : (before since : List LookUp) → Asked name ∷ Found f ∷ [] ≡ before ++ Asked name ∷ since → ((g : FoundValue) → Contains (found_in since) g → g.name ≡ name → ⊥) → ⊥
    by_it [] since e none = none f (subst (λ (l : List LookUp). Contains (found_in l) f) (rest_is (Asked name) (Asked name) (Found f ∷ []) since e) (0, omega arith, refl)) its
    by_it (x ∷ []) since e none = found_not_asked f name [] since (rest_is (Asked name) x (Found f ∷ []) (Asked name ∷ since) e)
    by_it (x ∷ y ∷ before) since e none =
        none_is name before since (rest_is (Found f) y [] (before ++ Asked name ∷ since) (rest_is (Asked name) x (Found f ∷ []) (y ∷ before ++ Asked name ∷ since) e))

pub asked_now : (name : List ℕ) (before : List LookUp) → IsAwaited name (before ++ Asked name ∷ [])
asked_now name before = record { before = before; since = []; lookups_are = refl; not_found = λ f there. absurd (nothing f there) }
