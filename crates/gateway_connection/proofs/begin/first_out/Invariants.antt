use Rattle.gateway_connection.specs.lemmas.Names.{◌≡◌, map, nat_lt, range_with_len}
use Rattle.gateway_connection.proofs.begin.first_out.Given as goal

abbrev pub invariant-loop-index : goal.invariant-loop-index
invariant-loop-index l = l.out.items ≡ map (λ i. nat_lt i l.first) (range_with_len 0 l.index)
