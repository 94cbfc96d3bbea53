use Rattle.std.proofs.Common.{refl, lit<, [], replicate}
use Rattle.gateway_model.specs.declared.event.Event.TheVariants.{Opening}
use Rattle.gateway_tests.proofs.RunLemmas.{none_beside_64}
use Rattle.gateway_tests.proofs.rows_connections.most_connections.Goals as goal

pub returns-clause-one_more : goal.returns-clause-one_more
returns-clause-one_more c = record { later = []; before = replicate 63 Opening; event_is = refl; place_is = refl; few = lit< tt }

pub returns-clause-no_more : goal.returns-clause-no_more
returns-clause-no_more c = none_beside_64
