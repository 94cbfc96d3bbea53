use Rattle.std.proofs.Common.{refl}
use Rattle.gateway_tests.proofs.rows_connections.connections_full.Goals as goal

pub returns-clause-full : goal.returns-clause-full
returns-clause-full c = refl

pub returns-clause-room : goal.returns-clause-room
returns-clause-room c = refl

pub returns-clause-opened : goal.returns-clause-opened
returns-clause-opened c = refl

pub returns-clause-number : goal.returns-clause-number
returns-clause-number c = refl

pub returns-clause-closed : goal.returns-clause-closed
returns-clause-closed c = refl
