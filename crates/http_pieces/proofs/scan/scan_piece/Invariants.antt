use Rattle.std.proofs.Common.{◌≡◌}
use Rattle.http_pieces.specs.Scan.{IsScannedTo}
use Rattle.http_pieces.proofs.scan.scan_piece.Given as goal

abbrev pub invariant-loop-byte : goal.invariant-loop-byte
invariant-loop-byte l = record { seen_is : l.scan.seen ≡ l.byte-index; to : IsScannedTo l.bytes l.piece l.scan }
