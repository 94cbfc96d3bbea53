use Rattle.std.proofs.Common.{◌≡◌, ◌+◌, drop}
use Rattle.std.specs.Prelude.{option_map}
use Rattle.http_pieces.specs.Chunks.{line_end}
use Rattle.http_pieces.proofs.chunk_parts.line_end.Given as goal

abbrev pub invariant-loop-byte : goal.invariant-loop-byte
invariant-loop-byte l = (l.end ≡ l.byte-index) × (line_end l.text ≡ option_map (λ k. l.byte-index + k) (line_end (drop l.byte-index l.text)))
