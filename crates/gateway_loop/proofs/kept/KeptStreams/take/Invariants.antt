use Rattle.gateway_loop.proofs.Words.{◌≡◌}
use Rattle.gateway_loop.proofs.kept.KeptStreams.take.Given as goal

-- none was taken
abbrev pub invariant-loop-index : goal.invariant-loop-index
invariant-loop-index g l = l.self ≡ l.fn.self
