use Rattle.std.proofs.Common.{◌∙◌, List, ap}
use Rattle.gateway_model.specs.Past.{is_broken, marked}
use Rattle.gateway_model.specs.Queue.{queued_entries}
use Rattle.gateway_model.specs.Starts.{Placed, occurrences}
use Rattle.loop_rows.proofs.rows_of_histories.lives_that_are_known.Goals as goal

pub returns-clause-broken : goal.returns-clause-broken
returns-clause-broken r u h l e lived was c there =
    let k = e.known_by lived was in
    k.0.broken_are c there ∙ ap (λ (x : List Placed). is_broken c (marked (occurrences x))) k.1

pub returns-clause-queued : goal.returns-clause-queued
returns-clause-queued r u h l e lived was c there =
    let k = e.known_by lived was in
    k.0.queue_is c there ∙ ap (λ (x : List Placed). queued_entries c (marked (occurrences x))) k.1
