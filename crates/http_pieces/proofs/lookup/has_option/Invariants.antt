use Rattle.std.proofs.Common.{◌≡◌, length}
use Rattle.http_pieces.specs.Fields.{has_option}
use Rattle.http_pieces.proofs.lookup.has_option.Given as goal

abbrev pub invariant-options : goal.invariant-options
invariant-options l = has_option l.fn.name l.fn.value ≡ has_option l.fn.name l.rest

abbrev pub decreases-options : goal.decreases-options
decreases-options l = length l.rest
