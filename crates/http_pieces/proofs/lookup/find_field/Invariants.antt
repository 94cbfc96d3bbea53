use Rattle.std.proofs.Common.{◌≡◌, ◌++◌, List, ℕ, map, drop}
use Rattle.httparse.specs.Spans.{header_bytes}
use Rattle.http_pieces.specs.Fields.{values_of, IsFieldOf}
use Rattle.http_pieces.proofs.lookup.find_field.Given as goal

abbrev pub invariant-loop-header : goal.invariant-loop-header
invariant-loop-header l =
    (front : List (List ℕ)) × IsFieldOf front l.found
    × (values_of l.name (map (header_bytes l.bytes) l.headers) ≡ front ++ values_of l.name (map (header_bytes l.bytes) (drop l.header-index l.headers)))
