use Rattle.gateway_run.proofs.Names.{◌≡◌, drop, items_view, are_arrays}
use Rattle.gateway_run.proofs.script.are_arrays.Given as goal

abbrev pub invariant-loop-entry : goal.invariant-loop-entry
invariant-loop-entry l = are_arrays (items_view l.entries) ≡ are_arrays (items_view (drop l.entry-index l.entries))
