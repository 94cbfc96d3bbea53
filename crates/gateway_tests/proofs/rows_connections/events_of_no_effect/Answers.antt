use Rattle.std.proofs.Common.{refl}
use Rattle.gateway_tests.proofs.rows_connections.events_of_no_effect.Goals as goal

pub returns-clause-first : goal.returns-clause-first
returns-clause-first c = refl

pub returns-clause-hung_up : goal.returns-clause-hung_up
returns-clause-hung_up c = refl

pub returns-clause-closes : goal.returns-clause-closes
returns-clause-closes c = refl

pub returns-clause-closed : goal.returns-clause-closed
returns-clause-closed c = refl

pub returns-clause-unknown : goal.returns-clause-unknown
returns-clause-unknown c = refl

pub returns-clause-refused : goal.returns-clause-refused
returns-clause-refused c = refl
