use Rattle.gateway_loop.proofs.Words.{ap, sym, AskingState, beside, map}
use Rattle.gateway_loop.proofs.AskLemmas.{goes_put}
use Rattle.gateway_loop.proofs.FairLemmas.{keeps_put, shares_stay}
use Rattle.gateway_loop.proofs.Places.{put_set}
use Rattle.gateway_loop.proofs.event_loop.EventLoop.has_address.Goals as goal

pub invariant_of-self : goal.invariant_of-self
invariant_of-self g c = c.self.invariant

pub invariant_of-self-2 : goal.invariant_of-self-2
invariant_of-self-2 g c =
    let i = c.self.inside in
    keeps_put i.manner i.kept (map (λ s. s.0.stream) i.left.items) (map (λ f. f.0) i.looked_up.items) i.clients i.asking.slots _ i.ended.items c.args.place c.in-Some.asking.now c.has_address-has_address.new.self (sym c.in-Some.ensures.value)
    c.has_address-has_address.ensures.job c.has_address-has_address.ensures.manner c.has_address-has_address.ensures.found
    (put_set i.asking.slots c.args.place c.in-Some.asking.now c.has_address-has_address.new.self (sym c.in-Some.ensures.value)) c.begun_law.ensures.begun c.begun_law.ensures.untouched (shares_stay c.in-Some.asking.now c.has_address-has_address.new.self c.has_address-has_address.ensures.streams) c.self.invariant

pub returns : goal.returns
returns g c =
    let i = c.self.inside in
    record {
      goes = rw (← c.self.view_is) (λ a.
          goes_put i.asking.slots _ c.args.place i.manner i.clients i.ended.items (beside i.kept (map (λ s. s.0.stream) i.left.items) i.closing (map (λ f. f.0) i.looked_up.items) i.names) c.in-Some.asking.now c.has_address-has_address.new.self (sym c.in-Some.ensures.value)
          (put_set i.asking.slots c.args.place c.in-Some.asking.now c.has_address-has_address.new.self (sym c.in-Some.ensures.value)) c.has_address-has_address.ensures.on c.has_address-has_address.ensures.streams a);
    }
