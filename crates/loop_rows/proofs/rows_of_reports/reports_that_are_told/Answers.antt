use Rattle.std.proofs.Common.{refl}
use Rattle.loop_rows.proofs.rows_of_reports.reports_that_are_told.Goals as goal

pub returns-clause-client : goal.returns-clause-client
returns-clause-client c m v x y = refl

pub returns-clause-job : goal.returns-clause-job
returns-clause-job c m v x j = refl

pub returns-clause-nobody : goal.returns-clause-nobody
returns-clause-nobody c m v x = refl

pub returns-clause-each : goal.returns-clause-each
returns-clause-each c m v x j = refl
