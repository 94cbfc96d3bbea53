use Rattle.std.proofs.Common.{refl}
use Rattle.gateway_tests.proofs.rows_connections.stream_of_a_connection.Goals as goal

pub returns-clause-own : goal.returns-clause-own
returns-clause-own c = refl

pub returns-clause-opened : goal.returns-clause-opened
returns-clause-opened c = refl

pub returns-clause-hung_up : goal.returns-clause-hung_up
returns-clause-hung_up c = refl

pub returns-clause-closed : goal.returns-clause-closed
returns-clause-closed c = refl

pub returns-clause-other : goal.returns-clause-other
returns-clause-other c = refl
