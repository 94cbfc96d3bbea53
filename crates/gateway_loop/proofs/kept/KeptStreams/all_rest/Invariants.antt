use Rattle.gateway_loop.proofs.Words.{ℕ, ◌<◌, Some, KeptValue, slice_index_or}
use Rattle.loop_model.specs.Rest.{AtMost}
use Rattle.gateway_loop.proofs.kept.KeptStreams.all_rest.Given as goal

-- so many are due at that moment or later
abbrev pub invariant-loop-index : goal.invariant-loop-index
invariant-loop-index g l = (k : ℕ) (d : KeptValue) → k < l.index → AtMost l.fn.until (Some (slice_index_or l.fn.self k d).until)
