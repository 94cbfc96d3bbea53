-- The digits of a timeout, read back.
use Rattle.std.proofs.Common.{◌≡◌, ℕ, ◌<◌, ◌≤◌, ◌^◌, true, List, [], ◌∷◌, length, Some, refl, arith, lit<}
use Rattle.std.proofs.lemmas.Bool.Decides.{nat_tests}
use Rattle.std.proofs.lemmas.Fmt.{decimal_is_IsNumeral, length-decimal-le}
use Rattle.std.proofs.lemmas.Str.Parse.{digit_from_value}
use Rattle.std.specs.Prelude.{nat_lt, nat_le, decimal as digits_of}
use Rattle.std.specs.Char.{is_ascii_digit}
use Rattle.std.specs.List.{list_all}
use Rattle.std.specs.Str.Parse.{AllDigits}
use Rattle.http_pieces.specs.Fields.{decimal}

pub fits_u64 : (n : ℕ) → n ≤ 9999999999 → n < 2 ^ 64
fits_u64 n le = omega arith

-- a timeout has at most ten digits
pub at_most_ten : (n : ℕ) → n ≤ 9999999999 → length (digits_of n) ≤ 10
at_most_ten n le = length-decimal-le 10 n (lit< tt) (omega arith) (fits_u64 n le)

-- a numeral is made of digits
pub digits_pass : (text : List ℕ) → AllDigits 10 text → list_all is_ascii_digit text ≡ true
digits_pass [] all = refl
digits_pass (c ∷ text) all =
    let within = digit_from_value c all.0 in
    let digit : is_ascii_digit c ≡ true = grind (arith, nat_tests) in
    rw (digit, digits_pass text all.1) refl

-- what is read of the digits of a timeout
pub decimal-digits : (n : ℕ) → n ≤ 9999999999 → decimal (digits_of n) ≡ Some n
unfolding decimal
decimal-digits n le =
    let numeral = decimal_is_IsNumeral n (fits_u64 n le) in
    let some : nat_lt 0 (length (digits_of n)) ≡ true = grind (arith, nat_tests) in
    let few : nat_le (length (digits_of n)) 10 ≡ true = grind (arith, nat_tests, at_most_ten n le) in
    rw (some, few, digits_pass (digits_of n) numeral.0.1, numeral.1) refl
