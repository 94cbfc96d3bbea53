use Rattle.gateway_replies.proofs.Names.{refl, All-nil}
use Rattle.gateway_replies.proofs.contexts.Contexts.new.Goals as goal

pub invariant_of-result : goal.invariant_of-result
invariant_of-result g c = rw (c.new-2.ensures.items, c.in_ok-new.ensures) (record { drained_is = refl; conns_are = refl; calls_are = All-nil _; numbers_rise = tt; contexts_apart = tt; calls_apart = tt })

pub returns : goal.returns
returns g c = rw (c.new-2.ensures.items, c.in_ok-new.ensures, c.new-3.ensures) refl
