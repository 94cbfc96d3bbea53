use Rattle.gateway_theory.specs.lemmas.OwnLemmas.{own_alike, own_entry, own_jobs, own_queue, own_seen, own_started}
use Rattle.gateway_theory.proofs.laws.own_law.Goals as goal

pub returns-clause-queue : goal.returns-clause-queue
returns-clause-queue c = own_queue

pub returns-clause-entries : goal.returns-clause-entries
returns-clause-entries c = own_entry

pub returns-clause-outs : goal.returns-clause-outs
returns-clause-outs c = λ n k i os. (own_alike n os).out_is k i

pub returns-clause-seen : goal.returns-clause-seen
returns-clause-seen c = own_seen

pub returns-clause-starting : goal.returns-clause-starting
returns-clause-starting c = own_jobs

pub returns-clause-starts : goal.returns-clause-starts
returns-clause-starts c = own_started
