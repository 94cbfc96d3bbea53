use Rattle.std.proofs.Common.{◌≡◌, ◌<◌, ◌^◌, drop}
use Rattle.std.specs.List.{list_all}
use Rattle.std.specs.Char.{is_ascii_hexdigit}
use Rattle.std.specs.Str.Parse.{digits_value_after}
use Rattle.http_pieces.proofs.chunk_parts.read_hexadecimal.Given as goal

abbrev pub invariant-loop-byte : goal.invariant-loop-byte
invariant-loop-byte l = record {
  digits : list_all is_ascii_hexdigit l.text ≡ list_all is_ascii_hexdigit (drop l.byte-index l.text);
  value : digits_value_after 16 0 l.text ≡ digits_value_after 16 l.number (drop l.byte-index l.text);
  small : l.number < 16 ^ l.byte-index;
}
