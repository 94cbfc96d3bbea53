-- Hexadecimal numbers of 1 to 16 digits.
use Rattle.std.proofs.Common.{◌≡◌, ℕ, ◌+◌, ◌*◌, ◌^◌, ◌<◌, ◌≤◌, ◌⊎◌, inl, inr, Bool, true, false, ◌&&◌, nat_lt, nat_le, List, length, get_or, drop, refl, sym, ap, ◌∙◌, arith, Some, None}
use Rattle.std.proofs.lemmas.Bool.Decides.{nat_tests}
use Rattle.std.proofs.lemmas.List.{drop_more}
use Rattle.std.proofs.lemmas.Grind.{pow_more}
use Rattle.std.specs.List.{list_all}
use Rattle.std.proofs.Math.Nat.{pow-le-pow_right}
use Rattle.std.specs.Char.{is_ascii_hexdigit, digit_value}
use Rattle.std.specs.Str.Parse.{digits_value_after, digits_value}
use Rattle.http_pieces.specs.Chunks.{is_hexadecimal, hexadecimal}

pub hexadecimal_none : (text : List ℕ) → is_hexadecimal text ≡ false → None ≡ hexadecimal text
unfolding hexadecimal
hexadecimal_none text other = rw other refl

pub hexadecimal_some : (text : List ℕ) (n : ℕ) → is_hexadecimal text ≡ true → digits_value 16 text ≡ n → Some n ≡ hexadecimal text
unfolding hexadecimal
hexadecimal_some text n good e = rw (good, e) refl

-- too short or too long
pub not_hexadecimal_by_length : (text : List ℕ) → (length text ≡ 0) ⊎ (16 < length text) → is_hexadecimal text ≡ false
not_hexadecimal_by_length text (inl e) = grind (arith, nat_tests)
not_hexadecimal_by_length text (inr lt) = grind (arith, nat_tests)

pub not_hexadecimal_by_digit : (text : List ℕ) → list_all is_ascii_hexdigit text ≡ false → is_hexadecimal text ≡ false
not_hexadecimal_by_digit text other = by_front (nat_lt 0 (length text) && nat_le (length text) 16) (list_all is_ascii_hexdigit text) other
  where
    by_front : (t u : Bool) → u ≡ false → (t && u) ≡ false
    by_front true u e = e
    by_front false u e = refl

pub hexadecimal_by_digits : (text : List ℕ) → 0 < length text → length text ≤ 16 → list_all is_ascii_hexdigit text ≡ true → is_hexadecimal text ≡ true
hexadecimal_by_digits text some few digits =
    let a : nat_lt 0 (length text) ≡ true = grind (arith, nat_tests) in
    let b : nat_le (length text) 16 ≡ true = grind (arith, nat_tests) in
    rw (a, b, digits) refl

-- one digit more
pub hex_step : (text : List ℕ) (i d : ℕ) → i < length text → is_ascii_hexdigit (get_or text i d) ≡ true
    → list_all is_ascii_hexdigit (drop i text) ≡ list_all is_ascii_hexdigit (drop (i + 1) text)
hex_step text i d lt digit = rw (drop_more text i d lt, digit) refl

pub hex_stop : (text : List ℕ) (i d : ℕ) → i < length text → is_ascii_hexdigit (get_or text i d) ≡ false
    → list_all is_ascii_hexdigit (drop i text) ≡ false
hex_stop text i d lt other = rw (drop_more text i d lt, other) refl

pub hex_value_step : (text : List ℕ) (i d n v : ℕ) → i < length text → v ≡ digit_value (get_or text i d)
    → digits_value_after 16 n (drop i text) ≡ digits_value_after 16 (n * 16 + v) (drop (i + 1) text)
hex_value_step text i d n v lt is =
    ap (digits_value_after 16 n) (drop_more text i d lt) ∙ ap (λ x. digits_value_after 16 (n * 16 + x) (drop (i + 1) text)) (sym is)

pub hex_small_step : (i n v : ℕ) → n < 16 ^ i → v < 16 → n * 16 + v < 16 ^ (i + 1)
hex_small_step i n v small le = omega (arith, pow_more 16 i)

hex_top : (i : ℕ) → i < 16 → 16 ^ (i + 1) ≤ 2 ^ 64
hex_top i h = pow-le-pow_right {n = 16} (omega arith) {j = 16} (omega arith)

pub hex_fits : (i n v : ℕ) → n < 16 ^ i → v < 16 → i < 16 → n * 16 + v < 2 ^ 64
hex_fits i n v small le few = omega (arith, hex_small_step i n v small le, hex_top i few)
