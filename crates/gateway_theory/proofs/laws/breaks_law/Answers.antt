use Rattle.gateway_theory.specs.lemmas.OwnLemmas.{unbroken_queue, unbroken_started}
use Rattle.gateway_theory.specs.lemmas.PrefixLemmas.{prefix_queue, prefix_started}
use Rattle.gateway_theory.proofs.laws.breaks_law.Goals as goal

pub returns-clause-unbroken : goal.returns-clause-unbroken
returns-clause-unbroken c = unbroken_queue

pub returns-clause-prefix : goal.returns-clause-prefix
returns-clause-prefix c = prefix_queue

pub returns-clause-starts : goal.returns-clause-starts
returns-clause-starts c = unbroken_started

pub returns-clause-first_starts : goal.returns-clause-first_starts
returns-clause-first_starts c = prefix_started
