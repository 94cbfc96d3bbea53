use Rattle.std.proofs.Common.{sym, ◌∙◌, ap, arith, inl, inr}
use Rattle.std.proofs.lemmas.Bool.{eqb-true}
use Rattle.std.proofs.lemmas.Bool.Decides.{nat_tests}
use Rattle.std.proofs.lemmas.List.{drop_all}
use Rattle.std.specs.List.{list_all}
use Rattle.std.specs.Char.{is_ascii_hexdigit}
use Rattle.std.specs.Str.Parse.{digits_value_after}
use Rattle.http_pieces.proofs.HexLemmas.{hexadecimal_none, hexadecimal_some, not_hexadecimal_by_length, not_hexadecimal_by_digit, hexadecimal_by_digits, hex_step, hex_stop, hex_value_step, hex_small_step, hex_fits}
use Rattle.http_pieces.proofs.chunk_parts.read_hexadecimal.Goals as goal
use Rattle.http_pieces.proofs.chunk_parts.read_hexadecimal.Goals.{then-is_empty-via-then-is_empty, then-is_empty-via-else-is_empty+then-text-gt-MAX_DIGITS}

pub returns-then-is_empty : goal.returns-then-is_empty
returns-then-is_empty c =
    elim c.then-is_empty.branch [
      | then-is_empty-via-then-is_empty w ↦ hexadecimal_none _ (not_hexadecimal_by_length _ (inl (eqb-true _ _ (sym c.is_empty.ensures ∙ w.if-is_empty.true))))
      | then-is_empty-via-else-is_empty+then-text-gt-MAX_DIGITS w ↦ hexadecimal_none _ (not_hexadecimal_by_length _ (inr w.if-text-gt-MAX_DIGITS.true))
    ]

pub returns-in_err-digit : goal.returns-in_err-digit
returns-in_err-digit c =
    c.from_residual.ensures ∙ hexadecimal_none c.args.text.now (not_hexadecimal_by_digit c.args.text.now
    (c.loop-byte.invariant.digits ∙ hex_stop _ _ _ c.loop-byte-test.true (sym c.in_err-digit.ensures.found)))

pub overflow_mul-number : goal.overflow_mul-number
overflow_mul-number c = omega (arith, hex_fits _ _ 0 c.loop-byte.invariant.small (omega arith) (omega arith))

pub overflow_add-number : goal.overflow_add-number
overflow_add-number c = omega (arith, hex_fits _ _ _ c.loop-byte.invariant.small c.in_ok-digit.ensures.value.1 (omega arith))

pub loop-byte-preserved : goal.loop-byte-preserved
loop-byte-preserved c = record {
  digits = c.loop-byte.invariant.digits ∙ hex_step _ _ _ c.loop-byte-test.true (sym c.in_ok-digit.ensures.found);
  value = c.loop-byte.invariant.value ∙ hex_value_step _ _ _ _ _ c.loop-byte-test.true c.in_ok-digit.ensures.value.0;
  small = hex_small_step _ _ _ c.loop-byte.invariant.small c.in_ok-digit.ensures.value.1;
}

pub returns : goal.returns
returns c =
    let ended = drop_all c.loop-byte.byte-index c.args.text.now c.loop-byte-test.false in
    hexadecimal_some c.args.text.now _
    (hexadecimal_by_digits c.args.text.now (grind (arith, nat_tests)) c.if-text-gt-MAX_DIGITS.false (c.loop-byte.invariant.digits ∙ ap (list_all is_ascii_hexdigit) ended))
    (c.loop-byte.invariant.value ∙ ap (digits_value_after 16 c.loop-byte.number) ended)
