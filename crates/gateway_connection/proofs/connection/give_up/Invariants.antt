use Rattle.gateway_connection.specs.lemmas.Names.{◌≡◌, ◌+◌, given_up, waiting}
use Rattle.gateway_connection.proofs.DoneLemmas.{done_to}
use Rattle.gateway_connection.proofs.connection.give_up.Given as goal

-- those before this one are given up
pub record Given (l : goal.Live-loop-index) : Type 0 where
  pub calls_are : l.calls.items ≡ done_to given_up l.index l.fn.calls.items
  pub jobs_are : l.jobs.jobs ≡ l.fn.jobs.jobs
  pub waits : l.jobs.waiting + waiting l.fn.calls.items ≡ l.fn.jobs.waiting + waiting l.calls.items

abbrev pub invariant-loop-index : goal.invariant-loop-index
invariant-loop-index l = Given l
