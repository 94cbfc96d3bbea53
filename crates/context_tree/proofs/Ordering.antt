-- Lists of ids, and what stands of each with each that comes later.
use Rattle.std.proofs.Common.{◌≡◌, refl, sym, ◌∙◌, List, [], ◌∷◌, ◌++◌, Bool, true, false, ⊎_elim}
use Rattle.std.specs.Prelude.{◌&&◌, filter}
use Rattle.std.specs.List.{list_any}
use Rattle.std.proofs.lemmas.Bool.{cases_Bool, or_right}
use Rattle.std.proofs.lemmas.List.Folds.{list_any-append}
use Rattle.std.proofs.Math.Bool.{and-false}
use Rattle.context_tree.specs.Context.{Id, same}
use Rattle.context_tree.specs.Tree.{is_among, EachBefore}
use Rattle.context_tree.proofs.Lineage.{same_true, same_refl}
use Rattle.context_tree.proofs.Tests.{or_cases}

pub among_filter : (p : Id → Bool) (x : Id) (ids : List Id) → is_among x (filter p ids) ≡ (is_among x ids && p x)
among_filter p x [] = refl
among_filter p x (y ∷ ys) = ⊎_elim
    (λ (e : same x y ≡ true). let xy : x ≡ y = same_true x y e in ⊎_elim
    (λ (k : p y ≡ true). rw (k, e) (rw (xy, k) refl))
    (λ (k : p y ≡ false). rw (k, among_filter p x ys, e) (rw (xy, k) (and-false (is_among y ys))))
    (cases_Bool (p y)))
    (λ (e : same x y ≡ false). ⊎_elim
    (λ (k : p y ≡ true). rw (k, e) (among_filter p x ys))
    (λ (k : p y ≡ false). rw (k, e) (among_filter p x ys))
    (cases_Bool (p y)))
    (cases_Bool (same x y))

pub among_first : (x : Id) (xs : List Id) → is_among x (x ∷ xs) ≡ true
among_first x xs = rw (same_refl x) refl

pub among_later : (x y : Id) (xs : List Id) → is_among x xs ≡ true → is_among x (y ∷ xs) ≡ true
among_later x y xs is = or_right (same x y) (is_among x xs) is

pub none_of : (p : Id → Bool) (xs : List Id) → ((y : Id) → is_among y xs ≡ true → p y ≡ false) → list_any p xs ≡ false
none_of p [] no' = refl
none_of p (y ∷ ys) no' = rw (no' y (among_first y ys)) (none_of p ys (λ z is. no' z (among_later z y ys is)))

pub each-append : (R : Id → Id → Type 0) (xs ys : List Id) → EachBefore R xs → EachBefore R ys → ((x y : Id) → is_among x xs ≡ true → is_among y ys ≡ true → R x y) → EachBefore R (xs ++ ys)
each-append R [] ys ex ey cross = ey
each-append R (x ∷ xs) ys ex ey cross = (
  λ y is. or_cases (is_among y xs) (is_among y ys) (R x y) (sym (list_any-append (same y) xs ys) ∙ is) (λ here. ex.0 y here) (λ there. cross x y (among_first x xs) there),
  each-append R xs ys ex.1 ey (λ a b ain bin. cross a b (among_later a x xs ain) bin),
)

pub each-filter : (R : Id → Id → Type 0) (p : Id → Bool) (xs : List Id) → EachBefore R xs → EachBefore R (filter p xs)
each-filter R p [] ex = tt
each-filter R p (x ∷ xs) ex = ⊎_elim
    (λ (kept : p x ≡ true). rw kept (λ y is. ex.0 y (and_left (is_among y xs) (p y) (sym (among_filter p y xs) ∙ is)), each-filter R p xs ex.1))
    (λ (left : p x ≡ false). rw left (each-filter R p xs ex.1))
    (cases_Bool (p x))
  where
    and_left : (a b : Bool) → (a && b) ≡ true → a ≡ true
    and_left true b is = refl
    and_left false b is = cc

pub each-turns : (R S : Id → Id → Type 0) (xs : List Id) → EachBefore R xs → ((x y : Id) → is_among x xs ≡ true → is_among y xs ≡ true → R x y → S x y) → EachBefore S xs
each-turns R S [] ex turns = tt
each-turns R S (x ∷ xs) ex turns = (
  λ y is. turns x y (among_first x xs) (among_later y x xs is) (ex.0 y is),
  each-turns R S xs ex.1 (λ a b ain bin. turns a b (among_later a x xs ain) (among_later b x xs bin)),
)
