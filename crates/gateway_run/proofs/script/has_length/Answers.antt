use Rattle.gateway_run.specs.Script.{has_length}
use Rattle.serde_json.proofs.Views.{items_len-items_view}
use Rattle.gateway_run.proofs.script.has_length.Goals as goal

pub returns-in-Some : goal.returns-in-Some
unfolding has_length
returns-in-Some c =
    rw (← c.as_array.ensures, c.in-Some.is, items_len-items_view c.in-Some.elements.now.items, c.as_slice.ensures.value)
