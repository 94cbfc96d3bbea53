use Rattle.std.proofs.Common.{◌≡◌, map, drop}
use Rattle.httparse.specs.Spans.{header_bytes}
use Rattle.http_pieces.specs.Fields.{lists_option}
use Rattle.http_pieces.proofs.lookup.lists_option.Given as goal

abbrev pub invariant-loop-header : goal.invariant-loop-header
invariant-loop-header l =
    lists_option l.name (map (header_bytes l.bytes) l.headers) ≡ lists_option l.name (map (header_bytes l.bytes) (drop l.header-index l.headers))
