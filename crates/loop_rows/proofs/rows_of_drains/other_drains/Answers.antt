use Rattle.std.proofs.Common.{sym, ◌∙◌}
use Rattle.loop_rows.proofs.RowLemmas.{off_on}
use Rattle.loop_rows.proofs.rows_of_drains.other_drains.Goals as goal

pub returns-clause-untold : goal.returns-clause-untold
returns-clause-untold c u h v clients gone e on = off_on (sym e.drained ∙ on)

pub returns-clause-undone : goal.returns-clause-undone
returns-clause-undone c u h v clients gone e off = off_on (sym off ∙ e.drained)
