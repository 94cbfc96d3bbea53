-- Texts that stand twice, and a look-up by a text.
use Rattle.std.proofs.Common.{◌≡◌, ℕ, suc, ◌+◌, ◌-◌, ◌<◌, ◌≤◌, List, [], ◌∷◌, ◌++◌, map, length, get_or, take, drop, Bool, true, false, ◌||◌, bytes_eq, Option, Some, None, option_map, is_some, cond, refl, sym, ◌∙◌, ap, arith, add-one, drop-cons}
use Rattle.std.specs.List.{list_any, find}
use Rattle.std.proofs.lemmas.List.{drop_all, take_all, length-drop}
use Rattle.std.proofs.lemmas.List.Folds.{list_any-append}
use Rattle.std.proofs.lemmas.Bool.{or_parts}
use Rattle.call_plan.specs.declared.branch.Branch.{Branch}
use Rattle.call_plan.specs.Plan.{has_repeat, names}

pub list_any-map : {X Y : Type 0} (p : X → Bool) (h : Y → X) (ys : List Y) → list_any p (map h ys) ≡ list_any (λ y. p (h y)) ys
list_any-map p h [] = refl
list_any-map p h (y ∷ ys) = ap (λ b. p (h y) || b) (list_any-map p h ys)

either_found : {X Y : Type 0} (h : Y → X) (b : Bool) (x : Y) (here : Option X) (there : Option Y) → here ≡ option_map h there → cond b (Some (h x)) here ≡ option_map h (cond b (Some x) there)
either_found h true x here there e = refl
either_found h false x here there e = e

pub find-map : {X Y : Type 0} (p : X → Bool) (h : Y → X) (ys : List Y) → find p (map h ys) ≡ option_map h (find (λ y. p (h y)) ys)
find-map p h [] = refl
find-map p h (y ∷ ys) = either_found h (p (h y)) y _ _ (find-map p h ys)

some_or : {X : Type 0} (b : Bool) (x : X) (rest : Option X) (r : Bool) → is_some rest ≡ r → is_some (cond b (Some x) rest) ≡ (b || r)
some_or true x rest r e = refl
some_or false x rest r e = e

-- a look-up finds something exactly where some element passes
pub is_some-find : {X : Type 0} (p : X → Bool) (xs : List X) → is_some (find p xs) ≡ list_any p xs
is_some-find p [] = refl
is_some-find p (x ∷ xs) = some_or (p x) x _ _ (is_some-find p xs)

-- a text that none equals, behind texts of which none stands twice
pub has_repeat-push : (xs : List (List ℕ)) (y : List ℕ) → has_repeat xs ≡ false → list_any (λ x. bytes_eq x y) xs ≡ false → has_repeat (xs ++ y ∷ []) ≡ false
has_repeat-push [] y once new = refl
has_repeat-push (x ∷ xs) y once new =
    let apart = or_parts (list_any (bytes_eq x) xs) (has_repeat xs) once in
    let other = or_parts (bytes_eq x y) (list_any (λ z. bytes_eq z y) xs) new in
    rw (list_any-append (bytes_eq x) xs (y ∷ []), apart.0, other.0) (has_repeat-push xs y apart.1 other.1)

-- the names from place i on: the one there stands again behind it, or some other one stands twice
pub has_repeat-drop : (branches : List Branch) (i : ℕ) (d : Branch) → i < length branches
    → has_repeat (names (drop i branches)) ≡ (list_any (λ b. bytes_eq (get_or branches i d).name b.name) (drop (i + 1) branches) || has_repeat (names (drop (i + 1) branches)))
has_repeat-drop branches i d h =
    rw (add-one, drop-cons branches i d h, list_any-map (bytes_eq (get_or branches i d).name) (λ (b : Branch). b.name) (drop (suc i) branches))

pub has_repeat-at : (branches : List Branch) (i : ℕ) (x : Branch) → i < length branches → x ≡ get_or branches i x
    → has_repeat (names (drop i branches)) ≡ (list_any (λ b. bytes_eq x.name b.name) (drop (i + 1) branches) || has_repeat (names (drop (i + 1) branches)))
has_repeat-at branches i x h is =
    has_repeat-drop branches i x h ∙ ap (λ (y : Branch). list_any (λ b. bytes_eq y.name b.name) (drop (i + 1) branches) || has_repeat (names (drop (i + 1) branches))) (sym is)

pub has_repeat-past : (branches : List Branch) (i : ℕ) → length branches ≤ i → has_repeat (names (drop i branches)) ≡ false
has_repeat-past branches i h = rw (drop_all i branches h) refl

pub is_some-map : {X Y : Type 0} (h : Y → X) (o : Option Y) → is_some (option_map h o) ≡ is_some o
is_some-map h None = refl
is_some-map h (Some y) = refl

pub map-map : {X Y Z : Type 0} (g : Y → Z) (h : X → Y) (o : Option X) → option_map (λ x. g (h x)) o ≡ option_map g (option_map h o)
map-map g h None = refl
map-map g h (Some x) = refl

-- `&xs[i..]`
pub from_place : {X : Type 0} (xs : List X) (i : ℕ) → take (length xs - i) (drop i xs) ≡ drop i xs
from_place xs i = take_all (length xs - i) (drop i xs) (rw (length-drop i xs) (omega arith))
