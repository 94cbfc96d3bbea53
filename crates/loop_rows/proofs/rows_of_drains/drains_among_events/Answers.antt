use Rattle.std.proofs.Common.{refl}
use Rattle.loop_rows.proofs.rows_of_drains.drains_among_events.Goals as goal

pub returns-clause-among : goal.returns-clause-among
returns-clause-among c = refl

pub returns-clause-none : goal.returns-clause-none
returns-clause-none c = refl
