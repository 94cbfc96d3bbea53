use Rattle.gateway_theory.specs.lemmas.PastLemmas.{nothing_later, one_reply}
use Rattle.gateway_theory.proofs.laws.queue_law.Goals as goal

pub returns-clause-nothing_later : goal.returns-clause-nothing_later
returns-clause-nothing_later c = nothing_later

pub returns-clause-one_reply : goal.returns-clause-one_reply
returns-clause-one_reply c = one_reply
