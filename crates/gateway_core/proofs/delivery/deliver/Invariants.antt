use Rattle.std.proofs.Common.{length}
use Rattle.gateway_core.proofs.PieceParts.{Delivery}
use Rattle.gateway_core.proofs.delivery.deliver.Given as goal

abbrev pub invariant-loop-taken : goal.invariant-loop-taken
invariant-loop-taken g l = Delivery l.conn l.piece l.rest l.initial.core l.core

abbrev pub decreases-loop-taken : goal.decreases-loop-taken
decreases-loop-taken g l = length l.rest
