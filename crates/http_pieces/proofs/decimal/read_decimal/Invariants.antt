use Rattle.std.proofs.Common.{◌≡◌, ◌<◌, ◌^◌, drop}
use Rattle.std.specs.List.{list_all}
use Rattle.std.specs.Char.{is_ascii_digit}
use Rattle.std.specs.Str.Parse.{digits_value_after}
use Rattle.http_pieces.proofs.decimal.read_decimal.Given as goal

abbrev pub invariant-loop-digit : goal.invariant-loop-digit
invariant-loop-digit l = record {
  digits : list_all is_ascii_digit l.text ≡ list_all is_ascii_digit (drop l.digit-index l.text);
  value : digits_value_after 10 0 l.text ≡ digits_value_after 10 l.number (drop l.digit-index l.text);
  small : l.number < 10 ^ l.digit-index;
}
