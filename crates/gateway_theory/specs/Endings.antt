-- How a call ends that does not succeed.
use Rattle.std.specs.Prelude.{Bool}
use Rattle.gateway_model.specs.declared.ending.EndCause.{EndCause}
use Rattle.gateway_model.specs.declared.ending.Ending.{Ending}

abbrev pub ending_with : EndCause → Bool → Ending
ending_with why last = record { cause = why; last = last }
