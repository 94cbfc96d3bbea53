-- Decimal numbers of 1 to 10 digits.
use Rattle.std.proofs.Common.{◌≡◌, ℕ, ◌+◌, ◌*◌, ◌^◌, ◌<◌, ◌≤◌, ◌-◌, ◌⊎◌, inl, inr, Bool, true, false, ◌&&◌, nat_lt, nat_le, List, length, get_or, drop, refl, ap, ◌∙◌, arith, Some, None}
use Rattle.std.proofs.lemmas.Bool.{cond-true, cond-false}
use Rattle.std.proofs.lemmas.Bool.Decides.{nat_tests}
use Rattle.std.proofs.lemmas.List.{drop_more}
use Rattle.std.proofs.lemmas.Grind.{pow_more}
use Rattle.std.specs.List.{list_all}
use Rattle.std.specs.Char.{is_ascii_digit, digit_value}
use Rattle.std.specs.Str.Parse.{digits_value_after, digits_value}
use Rattle.http_pieces.specs.Fields.{is_decimal, decimal}

pub decimal_none : (text : List ℕ) → is_decimal text ≡ false → None ≡ decimal text
unfolding decimal
decimal_none text other = rw other refl

pub decimal_some : (text : List ℕ) (n : ℕ) → is_decimal text ≡ true → digits_value 10 text ≡ n → Some n ≡ decimal text
unfolding decimal
decimal_some text n good e = rw (good, e) refl

-- too short or too long
pub not_decimal_by_length : (text : List ℕ) → (length text ≡ 0) ⊎ (10 < length text) → is_decimal text ≡ false
not_decimal_by_length text (inl e) = grind (arith, nat_tests)
not_decimal_by_length text (inr lt) = grind (arith, nat_tests)

pub not_decimal_by_digit : (text : List ℕ) → list_all is_ascii_digit text ≡ false → is_decimal text ≡ false
not_decimal_by_digit text other = by_front (nat_lt 0 (length text) && nat_le (length text) 10) (list_all is_ascii_digit text) other
  where
    by_front : (t u : Bool) → u ≡ false → (t && u) ≡ false
    by_front true u e = e
    by_front false u e = refl

pub decimal_by_digits : (text : List ℕ) → 0 < length text → length text ≤ 10 → list_all is_ascii_digit text ≡ true → is_decimal text ≡ true
decimal_by_digits text some few digits =
    let a : nat_lt 0 (length text) ≡ true = grind (arith, nat_tests) in
    let b : nat_le (length text) 10 ≡ true = grind (arith, nat_tests) in
    rw (a, b, digits) refl

-- one digit more
pub digit_is : (c : ℕ) → is_ascii_digit c ≡ true → (48 ≤ c) × (c ≤ 57) × (digit_value c ≡ c - 48)
digit_is c digit =
    let low : 48 ≤ c = grind (arith, nat_tests) in
    let high : c ≤ 57 = grind (arith, nat_tests) in
    let above : nat_lt c 48 ≡ false = grind (arith, nat_tests) in
    let below : nat_lt c 58 ≡ true = grind (arith, nat_tests) in
    (low, high, cond-false (nat_lt c 48) _ _ above ∙ cond-true (nat_lt c 58) _ _ below)

pub digits_step : (text : List ℕ) (i d : ℕ) → i < length text → is_ascii_digit (get_or text i d) ≡ true
    → list_all is_ascii_digit (drop i text) ≡ list_all is_ascii_digit (drop (i + 1) text)
digits_step text i d lt digit = rw (drop_more text i d lt, digit) refl

pub digits_stop : (text : List ℕ) (i d : ℕ) → i < length text → is_ascii_digit (get_or text i d) ≡ false
    → list_all is_ascii_digit (drop i text) ≡ false
digits_stop text i d lt other = rw (drop_more text i d lt, other) refl

pub value_step : (text : List ℕ) (i d n : ℕ) → i < length text → is_ascii_digit (get_or text i d) ≡ true
    → digits_value_after 10 n (drop i text) ≡ digits_value_after 10 (n * 10 + (get_or text i d - 48)) (drop (i + 1) text)
value_step text i d n lt digit =
    let h = digit_is (get_or text i d) digit in
    ap (digits_value_after 10 n) (drop_more text i d lt) ∙ ap (λ v. digits_value_after 10 (n * 10 + v) (drop (i + 1) text)) h.2

pub small_step : (i n c : ℕ) → n < 10 ^ i → c ≤ 57 → n * 10 + (c - 48) < 10 ^ (i + 1)
small_step i n c small le = omega (arith, pow_more 10 i)
