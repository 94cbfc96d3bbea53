-- What changes in one place.
use Rattle.gateway_loop.proofs.Words.{◌≡◌, ◌≢◌, ℕ, zero, suc, List, [], ◌∷◌, Option, None, Some, refl, sym, ap, ◌∙◌, slice_index_or, option_map, Slab, Updates, changed_at}
use Rattle.std.specs.Prelude.{slice_set}
use Rattle.std.proofs.Common.{arith}

-- what stands there is new
pub record Put {A : Type 0} (old new : List (Option A)) (i : ℕ) (o : Option A) : Type 0 where
  pub here : slice_index_or new i None ≡ o
  pub there : (j : ℕ) → j ≢ i → slice_index_or new j None ≡ slice_index_or old j None

pub put_one : {A : Type 0} (s t : Slab A) (i : ℕ) (o : Option A) → Updates s t i o → Put s.slots t.slots i o
put_one s t i o u = record { here = u.changed; there = u.others }

-- it was taken out, and put back
pub put_back : {A : Type 0} (s t u : Slab A) (i key : ℕ) (y : A) → Updates s t i None → t.vacant_key ≡ i → key ≡ t.vacant_key → Updates t u key (Some y)
    → Put s.slots u.slots i (Some y)
put_back s t u i key y out next is back = search arith

-- what stands there was put there again
pub set_same : {A : Type 0} (xs : List (Option A)) (i : ℕ) (x : A) → slice_index_or xs i None ≡ Some x → slice_set xs i (Some x) ≡ xs
set_same [] i x is = refl
set_same (o ∷ rest) zero x is = ap (λ (p : Option _). p ∷ rest) (sym is)
set_same (o ∷ rest) (suc i) x is = ap (λ (l : List (Option _)). o ∷ l) (set_same rest i x is)

nobody_is : {A : Type 0} (x : A) → None ≡ Some x → ⊥
nobody_is x e = cc

-- the rest of a list, where another was put there
put_behind : {A : Type 0} (o p : Option A) (rest later : List (Option A)) (i : ℕ) → Put rest later i p → Put (o ∷ rest) (o ∷ later) (suc i) p
put_behind o p rest later i puts = record { here = puts.here; there = other }
  where
    other : (j : ℕ) → j ≢ suc i → slice_index_or (o ∷ later) j None ≡ slice_index_or (o ∷ rest) j None
    other zero apart = refl
    other (suc j) apart = puts.there j (λ e. apart (ap suc e))

put_first : {A : Type 0} (o p : Option A) (rest : List (Option A)) → Put (o ∷ rest) (p ∷ rest) zero p
put_first o p rest = record { here = refl; there = other }
  where
    other : (j : ℕ) → j ≢ zero → slice_index_or (p ∷ rest) j None ≡ slice_index_or (o ∷ rest) j None
    other zero apart = absurd (apart refl)
    other (suc j) apart = refl

-- another was put there by its place
pub put_set : {A : Type 0} (xs : List (Option A)) (i : ℕ) (x y : A) → slice_index_or xs i None ≡ Some x → Put xs (slice_set xs i (Some y)) i (Some y)
put_set {A} [] i x y is = absurd (nobody_is x is)
put_set {A} (o ∷ rest) zero x y is = put_first o (Some y) rest
put_set {A} (o ∷ rest) (suc i) x y is = put_behind o (Some y) rest (slice_set rest i (Some y)) i (put_set rest i x y is)

-- who stands there was changed, or nobody does
pub changed_some : {A : Type 0} (f : A → A) (xs : List (Option A)) (i : ℕ) (x : A) → slice_index_or xs i None ≡ Some x → slice_set xs i (Some (f x)) ≡ changed_at f i xs
changed_some {A} f xs i x is = ap (λ (o : Option A). slice_set xs i (option_map f o)) (sym is)

set_none : {A : Type 0} (xs : List (Option A)) (i : ℕ) → slice_index_or xs i None ≡ None → slice_set xs i None ≡ xs
set_none [] i is = refl
set_none (o ∷ rest) zero is = ap (λ (p : Option _). p ∷ rest) (sym is)
set_none (o ∷ rest) (suc i) is = ap (λ (l : List (Option _)). o ∷ l) (set_none rest i is)

pub changed_none : {A : Type 0} (f : A → A) (xs : List (Option A)) (i : ℕ) → slice_index_or xs i None ≡ None → changed_at f i xs ≡ xs
changed_none {A} f xs i is = ap (λ (o : Option A). slice_set xs i (option_map f o)) is ∙ set_none xs i is
