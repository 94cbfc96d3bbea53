use Rattle.gateway_loop.proofs.Words.{map, refl}
use Rattle.gateway_loop.proofs.FairLemmas.{starts_fair}
use Rattle.gateway_loop.proofs.AccountLemmas.{first_accounts}
use Rattle.gateway_loop.proofs.event_loop.EventLoop.new.Goals as goal

pub returns-clause-accounts : goal.returns-clause-accounts
returns-clause-accounts g c = λ a. first_accounts _ record {
  side = c.in_ok-new-2.ensures.starts;
  none_asked = rw c.in_ok-with_capacity-2.ensures.empty refl;
  none_ended = rw c.new-7.ensures refl;
  none_kept = c.new-5.ensures;
  none_left = rw c.new-8.ensures refl;
  none_closing = c.in_ok-new-3.ensures;
  none_found = rw c.new-9.ensures refl;
  none_waits = c.new.ensures;
} a

pub invariant_of-result : goal.invariant_of-result
invariant_of-result g c =
    rw (c.in_ok-with_capacity-2.ensures.empty, c.new-5.ensures, c.new-7.ensures, c.new-8.ensures)
    (starts_fair _ (map (λ f. f.0) c.new-9.result.items) c.in_ok-new-2.field-0 c.in_ok-new-2.ensures.starts.no_results c.in_ok-new-2.ensures.starts.none_handed)
