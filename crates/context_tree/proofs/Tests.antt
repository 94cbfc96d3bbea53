-- What tests on two sides and on an option tell, where the kit has no lemma of that form.
use Rattle.std.proofs.Common.{◌≡◌, refl, Option, Some, None, Bool, true, false, option_map}
use Rattle.std.specs.Prelude.{◌&&◌, ◌||◌, not, is_some, is_none}

pub not_both : (b : Bool) → b ≡ true → b ≡ false → ⊥
not_both true t f = cc
not_both false t f = cc

pub or_cases : (a b : Bool) (P : Type 0) → (a || b) ≡ true → (a ≡ true → P) → (b ≡ true → P) → P
or_cases true b P is f g = f refl
or_cases false b P is f g = g is

pub and_not_parts : (a b : Bool) → (a && not b) ≡ true → (a ≡ true) × (b ≡ false)
and_not_parts true false is = (refl, refl)
and_not_parts true true is = cc
and_not_parts false b is = cc

pub and_not_or : (a b c : Bool) → (a && not (b || c)) ≡ ((a && not b) && not c)
and_not_or true true c = refl
and_not_or true false c = refl
and_not_or false b c = refl

pub none_from_is_none : {A : Type 0} (o : Option A) → is_none o ≡ true → o ≡ None
none_from_is_none None is = refl
none_from_is_none (Some a) is = cc

pub none_from_not_some : {A : Type 0} (o : Option A) → is_some o ≡ false → o ≡ None
none_from_not_some None is = refl
none_from_not_some (Some a) is = cc

pub is_some-map : {A B : Type 0} (f : A → B) (o : Option A) → is_some (option_map f o) ≡ is_some o
is_some-map f None = refl
is_some-map f (Some a) = refl
