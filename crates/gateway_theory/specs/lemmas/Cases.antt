-- Truth values, options and results, and facts that hang on one.
use Rattle.gateway_theory.specs.lemmas.Names.{ℕ, Bool, true, false, List, [], Option, None, Some, ap, arith, refl, rules, nat_tests, list_any, option_or, Err, Ok, OnErr, filter, not, or_parts}
use Rattle.std.specs.Prelude.{Result, ◌≡◌, ◌∷◌, ◌==◌, ◌&&◌, ◌||◌}

pub or_true : (b : Bool) → (b || true) ≡ true
or_true true = refl
or_true false = refl

pub or_false : (b : Bool) → (b || false) ≡ b
or_false true = refl
or_false false = refl

pub and_true : (b : Bool) → (b && true) ≡ b
and_true true = refl
and_true false = refl

pub and_false : (b : Bool) → (b && false) ≡ false
and_false true = refl
and_false false = refl

pub or_none : {A : Type 0} (x : Option A) → option_or x None ≡ x
or_none None = refl
or_none (Some a) = refl

pub sym_eqb : (a b : ℕ) → (a == b) ≡ (b == a)
sym_eqb a b = grind (arith, rules)

pub err_if : {T E P : Type 0} (r : Result T E) → P → OnErr r P
err_if (Ok x) p = tt
err_if (Err e) p = p

-- where a test finds none, a filter by it leaves all
pub all_stay : {A : Type 0} (p : A → Bool) (xs : List A) → list_any p xs ≡ false → filter (λ x. not (p x)) xs ≡ xs
all_stay p [] is = refl
all_stay p (x ∷ xs) is = let two = or_parts (p x) (list_any p xs) is in rw two.0 (ap (λ l. x ∷ l) (all_stay p xs two.1))

-- the one and not the other
pub and_off : (a b : Bool) → (a && not b) ≡ true → (a ≡ true) × (b ≡ false)
and_off a b is = grind (arith, nat_tests)

pub and_none : (a b : Bool) → (a && (b && false)) ≡ false
and_none a b = grind (arith, nat_tests)
