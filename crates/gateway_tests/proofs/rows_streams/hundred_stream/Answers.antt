use Rattle.std.proofs.Common.{refl}
use Rattle.gateway_tests.proofs.OnLiterals.{replies_on_literals, verdicts_on_literals}
use Rattle.gateway_tests.proofs.StreamLemmas.{gets_stream}
use Rattle.gateway_tests.proofs.rows_streams.hundred_stream.Goals as goal

pub returns-clause-requests : goal.returns-clause-requests
unfolding replies_on_literals
returns-clause-requests c = gets_stream 99 0 refl

pub returns-clause-each : goal.returns-clause-each
unfolding verdicts_on_literals
returns-clause-each c k = refl
