-- The openings that succeed, where one event more stands among the events.
use Rattle.gateway_run.proofs.Names.{◌≡◌, ℕ, suc, ◌<◌, List, [], ◌∷◌, refl, ap, ◌∙◌, arith, ◌==◌, ◌||◌, if◌then◌else◌, nat_lt, IsShifted, succeeds, shifted_by}

below : (n t p : ℕ) → t < n → ((if nat_lt n p then suc p else p) == t) ≡ (p == t)
below n t p lt = grind arith

above : (n t p : ℕ) → n < t → ((if nat_lt n p then suc p else p) == suc t) ≡ (p == t)
above n t p lt = grind arith

succeeds_below : (n t : ℕ) (opened : List ℕ) → t < n → succeeds (shifted_by n opened) t ≡ succeeds opened t
succeeds_below n t [] lt = refl
succeeds_below n t (p ∷ opened) lt =
    ap (λ b. b || succeeds (shifted_by n opened) t) (below n t p lt) ∙ ap (λ b. (p == t) || b) (succeeds_below n t opened lt)

succeeds_above : (n t : ℕ) (opened : List ℕ) → n < t → succeeds (shifted_by n opened) (suc t) ≡ succeeds opened t
succeeds_above n t [] lt = refl
succeeds_above n t (p ∷ opened) lt =
    ap (λ b. b || succeeds (shifted_by n opened) (suc t)) (above n t p lt) ∙ ap (λ b. (p == t) || b) (succeeds_above n t opened lt)

pub is_shifted : (n : ℕ) (opened : List ℕ) → IsShifted n opened (shifted_by n opened)
is_shifted n opened = record { before = λ t lt. succeeds_below n t opened lt; after = λ t lt. succeeds_above n t opened lt }
