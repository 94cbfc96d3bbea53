use Rattle.gateway_loop.proofs.Words.{ap, sym, AskingState, beside, map}
use Rattle.gateway_loop.proofs.AskLemmas.{goes_put, goes_same}
use Rattle.gateway_loop.proofs.FairLemmas.{keeps_put, same_streams, shares_stay}
use Rattle.gateway_loop.proofs.Places.{put_set}
use Rattle.gateway_loop.proofs.event_loop.EventLoop.note_loss.Goals as goal
use Rattle.gateway_loop.proofs.event_loop.EventLoop.note_loss.Goals.{in-Some, in_default}

pub invariant_of-self : goal.invariant_of-self
invariant_of-self g c =
    let i = c.self.inside in
    elim c.match-get_mut.branch [
      | in-Some w ↦ rw w.self-inside-is
          (keeps_put i.manner i.kept (map (λ s. s.0.stream) i.left.items) (map (λ f. f.0) i.looked_up.items) i.clients i.asking.slots _ i.ended.items c.args.place w.in-Some.asking.now w.lose.new.self (sym w.in-Some.ensures.value)
          w.lose.ensures.job w.lose.ensures.manner w.lose.ensures.found
          (put_set i.asking.slots c.args.place w.in-Some.asking.now w.lose.new.self (sym w.in-Some.ensures.value)) w.begun_law.ensures.begun w.begun_law.ensures.untouched (shares_stay w.in-Some.asking.now w.lose.new.self w.lose.ensures.streams) c.self.invariant)
      | in_default w ↦ rw w.self-inside-is c.self.invariant
    ]

pub returns : goal.returns
returns g c =
    let i = c.self.inside in
    record {
      goes = rw (← c.self.view_is) (elim c.match-get_mut.branch [
        | in-Some w ↦ rw w.self-inside-is (λ a.
            goes_put i.asking.slots _ c.args.place i.manner i.clients i.ended.items (beside i.kept (map (λ s. s.0.stream) i.left.items) i.closing (map (λ f. f.0) i.looked_up.items) i.names) w.in-Some.asking.now w.lose.new.self (sym w.in-Some.ensures.value)
            (put_set i.asking.slots c.args.place w.in-Some.asking.now w.lose.new.self (sym w.in-Some.ensures.value)) w.lose.ensures.on w.lose.ensures.streams a)
        | in_default w ↦ rw w.self-inside-is (λ a. goes_same _)
      ]);
    }
