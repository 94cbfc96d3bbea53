use Rattle.after_funcs.proofs.Since.{waits_since, since_waits}
use Rattle.after_funcs.proofs.laws.waiting_law.Goals as goal

pub returns : goal.returns
returns g c = record { since = waits_since; only = since_waits }
