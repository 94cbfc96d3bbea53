-- How many exchanges there can be.
use Rattle.std.proofs.Common.{◌≡◌, arith, ℕ, zero, suc, ◌+◌, ◌*◌, ◌/◌, ◌^◌, ◌≤◌, ◌<◌, ⊎_elim, lit≤, add-one}
use Rattle.std.proofs.lemmas.Bool.{cases_lt}
use Rattle.std.proofs.lemmas.Int.Digits.{length-digits_of_step}
use Rattle.std.proofs.lemmas.Nat.{pow_pos}
use Rattle.std.proofs.Math.Nat.{pow-suc, pow-succ', mul_assoc, mul-suc, mul-le-mul_left}
use Rattle.std.proofs.Math.Pow.{pow_mono}
use Rattle.timer_heap.specs.Timers.{binary_digits}
use Rattle.timer_heap.specs.Heap.{IsUnder}

digits_step : (n : ℕ) → 0 < n → binary_digits n ≡ binary_digits (n / 2) + 1
unfolding binary_digits
digits_step n some = length-digits_of_step 2 n (lit≤ tt) some

double : (m : ℕ) → 2 ^ suc m ≡ 2 * 2 ^ m
double m = let e = pow-suc 2 m in omega arith

pub within_digits : (m n : ℕ) → 2 ^ m ≤ n → m + 1 ≤ binary_digits n
within_digits zero n low = let s = digits_step n (omega arith) in omega arith
within_digits (suc m) n low =
    let d = double m in
    let some = pow_pos m in
    let half : 2 ^ m ≤ n / 2 = omega arith in
    let s = digits_step n (omega arith) in
    let rest = within_digits m (n / 2) half in
    omega arith

-- as many as fit a number of 32 bits
pub few_fit : (m n : ℕ) → 2 ^ m ≤ n → n ≤ 2 ^ 64 → m + 1 < 2 ^ 32
few_fit m n low high = ⊎_elim
    (λ (small : m < 65). omega arith)
    (λ (large : 65 ≤ m). let far : 2 ^ 65 ≤ 2 ^ m = pow_mono large in absurd (omega arith))
    (cases_lt m 65)

at_most : (a b c : ℕ) → a ≤ b → b ≤ c → a ≤ c
at_most a b c low high = omega arith

-- one exchange more on the way up from a place
pub rise_few : (moves place at above : ℕ) → IsUnder at above → 2 ^ moves * (at + 1) ≤ place + 1 → 2 ^ (moves + 1) * (above + 1) ≤ place + 1
rise_few moves place at above under few =
    let low : 2 * (above + 1) ≤ at + 1 = omega (arith, under) in
    rw (add-one moves, pow-suc 2 moves, mul_assoc (2 ^ moves) 2 (above + 1)) (at_most _ _ _ (mul-le-mul_left (2 ^ moves) low) few)

twice_less : (y at below : ℕ) → y ≤ at + 1 → at * 2 + 1 ≤ below → 2 * y ≤ below + 1
twice_less y at below low under = omega arith

-- one exchange more on the way down from a place
pub sink_few : (moves place at below : ℕ) → IsUnder below at → 2 ^ moves * (place + 1) ≤ at + 1 → 2 ^ (moves + 1) * (place + 1) ≤ below + 1
sink_few moves place at below under few = rw (add-one moves, pow-succ' 2 moves, mul_assoc 2 (2 ^ moves) (place + 1)) (twice_less _ at below few under.from)

second_less : (y x n : ℕ) → y + x ≤ n → x ≤ n
second_less y x n low = omega arith

pub all_few : (moves place n : ℕ) → 2 ^ moves * (place + 1) ≤ n → 2 ^ moves ≤ n
all_few moves place n few = second_less (2 ^ moves * place) (2 ^ moves) n (rw (add-one place, mul-suc (2 ^ moves) place) at few)

-- before the first exchange
pub none_few : (n : ℕ) → 2 ^ 0 * n ≤ n
none_few n = omega arith
