use Rattle.std.proofs.Common.{◌≡◌, drop}
use Rattle.http_pieces.specs.Names.{same_name}
use Rattle.http_pieces.proofs.names.same_name.Given as goal

abbrev pub invariant-loop-place : goal.invariant-loop-place
invariant-loop-place l = same_name l.a l.b ≡ same_name (drop l.place l.a) (drop l.place l.b)
