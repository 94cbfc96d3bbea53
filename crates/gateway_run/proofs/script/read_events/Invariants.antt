use Rattle.gateway_run.proofs.Names.{◌≡◌, items_view, events_from}
use Rattle.gateway_run.proofs.Entries.{with_rest}
use Rattle.gateway_run.proofs.script.read_events.Given as goal

abbrev pub invariant-loop-entry : goal.invariant-loop-entry
invariant-loop-entry l = events_from 0 (items_view l.entries) ≡ with_rest l.events.items l.entries l.entry-index
