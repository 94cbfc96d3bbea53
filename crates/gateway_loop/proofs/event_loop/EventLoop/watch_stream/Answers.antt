use Rattle.gateway_loop.proofs.Words.{ap, sym, AskingState, beside, map}
use Rattle.gateway_loop.proofs.AskLemmas.{goes_put}
use Rattle.gateway_loop.proofs.FairLemmas.{keeps_put, same_streams, shares_stay}
use Rattle.gateway_loop.proofs.Places.{put_set}
use Rattle.gateway_loop.proofs.event_loop.EventLoop.watch_stream.Goals as goal

pub invariant_of-self : goal.invariant_of-self
invariant_of-self g c = c.self.invariant

pub invariant_of-self-2 : goal.invariant_of-self-2
invariant_of-self-2 g c =
    let i = c.self.inside in
    keeps_put i.manner i.kept (map (λ s. s.0.stream) i.left.items) (map (λ f. f.0) i.looked_up.items) i.clients i.asking.slots _ i.ended.items c.args.place c.in-Some.asking.now c.watch-is_watched.new.self (sym c.in-Some.ensures.value)
    (ap (λ (x : AskingState). x.job) c.watch-is_watched.ensures.noted) (ap (λ (x : AskingState). x.manner) c.watch-is_watched.ensures.noted) (ap (λ (x : AskingState). x.addresses.found) c.watch-is_watched.ensures.noted)
    (put_set i.asking.slots c.args.place c.in-Some.asking.now c.watch-is_watched.new.self (sym c.in-Some.ensures.value)) c.begun_law.ensures.begun c.begun_law.ensures.untouched (shares_stay c.in-Some.asking.now c.watch-is_watched.new.self (same_streams c.in-Some.asking.now c.watch-is_watched.new.self (ap (λ (x : AskingState). x.tried) c.watch-is_watched.ensures.noted) (ap (λ (x : AskingState). x.attempt.stream) c.watch-is_watched.ensures.noted))) c.self.invariant

pub returns : goal.returns
returns g c =
    let i = c.self.inside in
    record {
      goes = rw (← c.self.view_is, c.watch-is_watched.ensures.net) (
          goes_put i.asking.slots _ c.args.place i.manner i.clients i.ended.items (beside i.kept (map (λ s. s.0.stream) i.left.items) i.closing (map (λ f. f.0) i.looked_up.items) i.names) c.in-Some.asking.now c.watch-is_watched.new.self (sym c.in-Some.ensures.value)
          (put_set i.asking.slots c.args.place c.in-Some.asking.now c.watch-is_watched.new.self (sym c.in-Some.ensures.value)) c.watch-is_watched.ensures.on (same_streams c.in-Some.asking.now c.watch-is_watched.new.self (ap (λ (x : AskingState). x.tried) c.watch-is_watched.ensures.noted) (ap (λ (x : AskingState). x.attempt.stream) c.watch-is_watched.ensures.noted)) _);
    }
