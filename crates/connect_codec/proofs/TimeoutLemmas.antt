-- A request's own timeout has ten digits at most.
use Rattle.std.proofs.Common.{◌≡◌, ℕ, ◌-◌, ◌≤◌, ◌<◌, ◌^◌, Bool, true, false, List, [], ◌∷◌, length, Option, None, Some, ◌∙◌, subst, arith}
use Rattle.std.proofs.lemmas.Bool.Decides.{nat_tests}
use Rattle.std.proofs.lemmas.Bool.{cond-true, cond-false, and_parts}
use Rattle.std.specs.Prelude.{⊤, ◌&&◌, codes, nat_le, nat_lt, IfSome}
use Rattle.std.specs.List.{list_all}
use Rattle.std.specs.Result.{result_unwrap_or}
use Rattle.std.specs.Char.{is_ascii_digit, digit_value}
use Rattle.std.specs.Str.Parse.{AllDigits, digits_value}
use Rattle.std.proofs.Math.Nat.{pow-le-pow_right}
use Rattle.std.proofs.lemmas.Bool.{cond_both}
use Rattle.std.proofs.lemmas.Int.Digits.{digits_value-lt}
use Rattle.http_pieces.specs.Fields.{decimal, is_decimal}
use Rattle.http_pieces.specs.Request.{HttpRequest}
use Rattle.http_pieces.specs.declared.largest.TheConstants.{MAX_DECIMAL}
use Rattle.timeout_header.specs.Timeout.{timeout_of, number_or_bad}
use Rattle.connect_codec.specs.Verdict.{bare_refusals, first_that_applies, protocol_refusals, protocol_verdict, said, verdict_of}
use Rattle.connect_codec.specs.declared.verdict.Verdict.{Verdict}
use Rattle.connect_codec.specs.declared.verdict.Verdict.TheVariants.{Ask, Bare, Fail}

digit_low : (c : ℕ) → is_ascii_digit c ≡ true → digit_value c < 10
digit_low c digit =
    let low : 48 ≤ c = grind (arith, nat_tests) in
    let high : c ≤ 57 = grind (arith, nat_tests) in
    let above : nat_lt c 48 ≡ false = grind (arith, nat_tests) in
    let below : nat_lt c 58 ≡ true = grind (arith, nat_tests) in
    let value : digit_value c ≡ c - 48 = cond-false (nat_lt c 48) _ _ above ∙ cond-true (nat_lt c 58) _ _ below in
    omega (arith, low, high, value)

all_digits : (text : List ℕ) → list_all is_ascii_digit text ≡ true → AllDigits 10 text
all_digits [] e = tt
all_digits (c ∷ text) e =
    let b = and_parts (is_ascii_digit c) (list_all is_ascii_digit text) e in
    (digit_low c b.0, all_digits text b.1)

decimal_low : (text : List ℕ) → is_decimal text ≡ true → digits_value 10 text ≤ MAX_DECIMAL
decimal_low text e =
    let a = and_parts (nat_lt 0 (length text) && nat_le (length text) 10) (list_all is_ascii_digit text) e in
    let b = and_parts (nat_lt 0 (length text)) (nat_le (length text) 10) a.0 in
    let short_is : nat_le (length text) 10 ≡ true = b.1 in
    let short : length text ≤ 10 = grind (arith, nat_tests) in
    let less : digits_value 10 text < 10 ^ length text = digits_value-lt 10 text (all_digits text a.1) in
    let most : 10 ^ length text ≤ 10 ^ 10 = pow-le-pow_right (omega arith) short in
    omega (arith, less, most)

abbrev low_in : Option ℕ → Type 0
low_in o = IfSome o (λ t. t ≤ MAX_DECIMAL)

values_low : (values : List (List ℕ)) → low_in (result_unwrap_or (timeout_of values) None)
unfolding decimal
values_low [] = tt
values_low (value ∷ []) =
    cond_both (is_decimal value) (Some (digits_value 10 value)) None (λ o. low_in (result_unwrap_or (number_or_bad o) None)) (λ dec. decimal_low value dec) (λ _. tt)
values_low (value ∷ other ∷ more) = tt

abbrev timeout_in : Verdict → Option ℕ
timeout_in (Ask timeout id) = timeout
timeout_in (Bare status) = None
timeout_in (Fail error) = None

abbrev AllLow : List (Bool × Verdict) → Type 0
AllLow [] = ⊤
AllLow (rule ∷ later) = low_in (timeout_in rule.1) × AllLow later

first_low : (rules : List (Bool × Verdict)) (otherwise : Verdict) → low_in (timeout_in otherwise) → AllLow rules → low_in (timeout_in (first_that_applies rules otherwise))
first_low [] otherwise low all = low
first_low (rule ∷ later) otherwise low all =
    cond_both rule.0 rule.1 (first_that_applies later otherwise) (λ v. low_in (timeout_in v)) (λ _. all.0) (λ _. first_low later otherwise low all.1)

all_low : (q : HttpRequest) (known : Bool) → low_in (timeout_in (verdict_of q known))
unfolding verdict_of
all_low q known =
    first_low (bare_refusals q known) (protocol_verdict q)
    (first_low (protocol_refusals q) _ (values_low (said (codes "Connect-Timeout-Ms") q)) (tt, (tt, (tt, (tt, tt)))))
    (tt, (tt, (tt, tt)))

pub verdict_low : (q : HttpRequest) (known : Bool) (timeout : ℕ) (id : Option (List ℕ)) → verdict_of q known ≡ Ask (Some timeout) id → timeout ≤ MAX_DECIMAL
verdict_low q known timeout id e = subst (λ v. low_in (timeout_in v)) e (all_low q known)
