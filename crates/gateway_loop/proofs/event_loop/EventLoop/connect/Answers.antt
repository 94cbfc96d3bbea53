use Rattle.gateway_loop.proofs.Words.{ap, sym, AskingState, beside, map}
use Rattle.gateway_loop.proofs.AskLemmas.{goes_over}
use Rattle.gateway_loop.proofs.FairLemmas.{keeps_put, shares_over}
use Rattle.gateway_loop.proofs.Places.{put_set}
use Rattle.gateway_loop.proofs.event_loop.EventLoop.connect.Goals as goal

pub invariant_of-self : goal.invariant_of-self
invariant_of-self g c = c.self.invariant

pub invariant_of-self-2 : goal.invariant_of-self-2
invariant_of-self-2 g c =
    let i = c.self.inside in
    keeps_put i.manner i.kept (map (λ s. s.0.stream) i.left.items) (map (λ f. f.0) i.looked_up.items) i.clients i.asking.slots _ i.ended.items c.args.place c.in-Some.asking.now c.connect-connected.new.self (sym c.in-Some.ensures.value)
    c.connect-connected.ensures.job c.connect-connected.ensures.manner c.connect-connected.ensures.found
    (put_set i.asking.slots c.args.place c.in-Some.asking.now c.connect-connected.new.self (sym c.in-Some.ensures.value)) c.begun_law.ensures.begun c.begun_law.ensures.untouched (shares_over c.in-Some.asking.now c.connect-connected.new.self c.connect-connected.ensures.streams) c.self.invariant

pub returns : goal.returns
returns g c =
    let i = c.self.inside in
    record {
      goes = rw (← c.self.view_is) (
          goes_over i.asking.slots _ c.args.place i.manner i.clients i.ended.items (beside i.kept (map (λ s. s.0.stream) i.left.items) i.closing (map (λ f. f.0) i.looked_up.items) i.names) c.in-Some.asking.now c.connect-connected.new.self (sym c.in-Some.ensures.value)
          (put_set i.asking.slots c.args.place c.in-Some.asking.now c.connect-connected.new.self (sym c.in-Some.ensures.value)) c.connect-connected.ensures.on c.connect-connected.ensures.streams);
    }
