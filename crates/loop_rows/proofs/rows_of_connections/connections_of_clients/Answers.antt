use Rattle.std.proofs.Common.{arith, sym}
use Rattle.loop_rows.proofs.ConnectionLemmas.{one_of_each, unopened_none}
use Rattle.loop_rows.proofs.rows_of_connections.connections_of_clients.Goals as goal

pub returns-clause-none : goal.returns-clause-none
returns-clause-none c v conn = sym (unopened_none conn 0 (omega arith))

pub returns-clause-each : goal.returns-clause-each
returns-clause-each c v conn = one_of_each v conn
