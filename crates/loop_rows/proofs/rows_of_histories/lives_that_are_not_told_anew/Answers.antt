use Rattle.std.proofs.Common.{◌≡◌, ℕ, ◌≤◌, List, [], ◌∷◌, ◌++◌, All, ap, arith, length, refl}
use Rattle.gateway_model.specs.Breaks.{InOrder}
use Rattle.gateway_model.specs.Occurrence.{Break, Drain, Moment}
use Rattle.gateway_model.specs.Starts.{Placed}
use Rattle.loop_rows.proofs.rows_of_histories.lives_that_are_not_told_anew.Goals as goal

-- none stands at a place so high
none_so_late : (n : ℕ) (later lived : List Placed) → All (λ (o : Placed). n ≤ o.0) later → InOrder n (later ++ lived)
    → later ≡ []
none_so_late n [] lived since order = refl
none_so_late n (o ∷ later) lived since order =
    absurd (let high = since 0 o (omega arith) in omega (arith, high, order.0))

-- a break among what came more stands at a later place than that
added : (later : List Placed) → All (λ (o : Placed). 3 ≤ o.0) later
    → later ++ (2, Moment 3) ∷ [] ≡ (3, Drain) ∷ (2, Break 0) ∷ (2, Moment 3) ∷ [] → ⊥
added [] since is = cc
added (x ∷ []) since is = cc
added (x ∷ y ∷ later) since is =
    let low : y.0 ≡ 2 = cc in
    let high : 3 ≤ y.0 = since 1 y (omega arith) in omega (arith, low, high)

abbrev first_place : List Placed → ℕ
first_place [] = 0
first_place (x ∷ lived) = x.0

taken_back : (later : List Placed) → later ++ (2, Break 0) ∷ (2, Moment 3) ∷ [] ≡ (3, Drain) ∷ (2, Moment 3) ∷ [] → ⊥
taken_back [] is = let place : 2 ≡ 3 = ap first_place is in omega (arith, place)
taken_back (x ∷ []) is = cc
taken_back (x ∷ y ∷ []) is = cc
taken_back (x ∷ y ∷ z ∷ later) is = cc

pub returns-clause-nothing : goal.returns-clause-nothing
returns-clause-nothing c w h lived m = none_so_late (length h.events) m.later lived m.since m.lives.in_order

pub returns-clause-broken : goal.returns-clause-broken
returns-clause-broken c w k m is = added m.later m.since is

pub returns-clause-whole : goal.returns-clause-whole
returns-clause-whole c w k m is = taken_back m.later is
