use Rattle.gateway_run.proofs.Names.{◌≡◌, false, filter, slice_index_or, range_with_len}
use Rattle.gateway_run.proofs.whole.listed.Given as goal

abbrev pub invariant-loop-number : goal.invariant-loop-number
invariant-loop-number l = l.broken.items ≡ filter (λ c. slice_index_or l.broke.items c false) (range_with_len 0 l.number)
