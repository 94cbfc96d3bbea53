use Rattle.std.proofs.Common.{sym, ◌∙◌, ap, arith, inl, inr}
use Rattle.std.proofs.lemmas.Bool.{eqb-true}
use Rattle.std.proofs.lemmas.Bool.Decides.{nat_tests}
use Rattle.std.proofs.lemmas.List.{drop_all}
use Rattle.std.specs.List.{list_all}
use Rattle.std.specs.Char.{is_ascii_digit}
use Rattle.std.specs.Str.Parse.{digits_value_after}
use Rattle.http_pieces.proofs.DecimalLemmas.{decimal_none, decimal_some, not_decimal_by_length, not_decimal_by_digit, decimal_by_digits, digit_is, digits_step, digits_stop, value_step, small_step}
use Rattle.http_pieces.proofs.decimal.read_decimal.Goals as goal
use Rattle.http_pieces.proofs.decimal.read_decimal.Goals.{then-is_empty-via-then-is_empty, then-is_empty-via-else-is_empty+then-text-gt10}

pub returns-then-is_empty : goal.returns-then-is_empty
returns-then-is_empty c =
    elim c.then-is_empty.branch [
      | then-is_empty-via-then-is_empty w ↦ decimal_none _ (not_decimal_by_length _ (inl (eqb-true _ _ (sym c.is_empty.ensures ∙ w.if-is_empty.true))))
      | then-is_empty-via-else-is_empty+then-text-gt10 w ↦ decimal_none _ (not_decimal_by_length _ (inr w.if-text-gt10.true))
    ]

pub returns-then-not-is_ascii_digit : goal.returns-then-not-is_ascii_digit
returns-then-not-is_ascii_digit c =
    decimal_none c.args.text.now (not_decimal_by_digit c.args.text.now
    (c.loop-digit.invariant.digits ∙ digits_stop _ _ _ c.loop-digit-test.true (sym c.is_ascii_digit.ensures.value ∙ c.if-not-is_ascii_digit.true)))

pub loop-digit-preserved : goal.loop-digit-preserved
loop-digit-preserved c =
    let digit = sym c.is_ascii_digit.ensures.value ∙ c.if-not-is_ascii_digit.false in
    let is = digit_is _ digit in
    record {
      digits = c.loop-digit.invariant.digits ∙ digits_step _ _ _ c.loop-digit-test.true digit;
      value = rw c.from.ensures (c.loop-digit.invariant.value ∙ value_step _ _ _ _ c.loop-digit-test.true digit);
      small = rw c.from.ensures (small_step _ _ _ c.loop-digit.invariant.small is.1);
    }

pub returns : goal.returns
returns c =
    let ended = drop_all c.loop-digit.digit-index c.args.text.now c.loop-digit-test.false in
    decimal_some c.args.text.now _
    (decimal_by_digits c.args.text.now (grind (arith, nat_tests)) c.if-text-gt10.false (c.loop-digit.invariant.digits ∙ ap (list_all is_ascii_digit) ended))
    (c.loop-digit.invariant.value ∙ ap (digits_value_after 10 c.loop-digit.number) ended)
