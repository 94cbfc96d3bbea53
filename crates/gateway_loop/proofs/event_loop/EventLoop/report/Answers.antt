use Rattle.gateway_loop.proofs.Words.{List, Option, ap, sym, whole_loop, AskingState, AskingValue, asked_for, beside, map, told_asking}
use Rattle.gateway_loop.proofs.AskLemmas.{goes_put, goes_same}
use Rattle.gateway_loop.proofs.FairLemmas.{keeps_put, same_streams, shares_stay}
use Rattle.gateway_loop.proofs.Places.{put_set}
use Rattle.gateway_loop.proofs.TellLemmas.{asking_changed, asking_same}
use Rattle.gateway_loop.proofs.event_loop.EventLoop.report.Goals as goal
use Rattle.gateway_loop.proofs.event_loop.EventLoop.report.Goals.{in-Some, in_default}

pub invariant_of-self : goal.invariant_of-self
invariant_of-self g c =
    let i = c.self.inside in
    elim c.match-get_mut.branch [
      | in-Some w ↦ rw w.self-inside-is
          (keeps_put i.manner i.kept (map (λ s. s.0.stream) i.left.items) (map (λ f. f.0) i.looked_up.items) i.clients i.asking.slots _ i.ended.items c.args.place w.in-Some.asking.now w.report.new.self (sym w.in-Some.ensures.value)
          (ap (λ (x : AskingState). x.job) w.report.ensures.noted) (ap (λ (x : AskingState). x.manner) w.report.ensures.noted) (ap (λ (x : AskingState). x.addresses.found) w.report.ensures.noted)
          (put_set i.asking.slots c.args.place w.in-Some.asking.now w.report.new.self (sym w.in-Some.ensures.value)) w.begun_law.ensures.begun w.begun_law.ensures.untouched (shares_stay w.in-Some.asking.now w.report.new.self (same_streams w.in-Some.asking.now w.report.new.self (ap (λ (x : AskingState). x.tried) w.report.ensures.noted) (ap (λ (x : AskingState). x.attempt.stream) w.report.ensures.noted))) c.self.invariant)
      | in_default w ↦ rw w.self-inside-is c.self.invariant
    ]

pub returns-clause-exact : goal.returns-clause-exact
returns-clause-exact g c =
    let i = c.self.inside in
    let with_asking = λ (asking : List (Option AskingValue)). record (whole_loop i.manner i.clients i.asking.slots i.ended.items (beside i.kept (map (λ s. s.0.stream) i.left.items) i.closing (map (λ f. f.0) i.looked_up.items) i.names)) { asking = asking } in
    rw (← c.self.view_is) (elim c.match-get_mut.branch [
      | in-Some w ↦ rw w.self-inside-is
          (ap with_asking
          (asking_changed (told_asking c.args.ready) i.asking.slots c.args.place w.in-Some.asking.now w.report.new.self (sym w.in-Some.ensures.value) (ap (λ (x : AskingState). asked_for x) w.report.ensures.noted)))
      | in_default w ↦ rw w.self-inside-is (ap with_asking (asking_same (told_asking c.args.ready) i.asking.slots c.args.place (sym w.in_default.ensures.value)))
    ])

pub returns-clause-goes : goal.returns-clause-goes
returns-clause-goes g c =
    let i = c.self.inside in
    rw (← c.self.view_is) (elim c.match-get_mut.branch [
      | in-Some w ↦ rw w.self-inside-is (λ a.
          goes_put i.asking.slots _ c.args.place i.manner i.clients i.ended.items (beside i.kept (map (λ s. s.0.stream) i.left.items) i.closing (map (λ f. f.0) i.looked_up.items) i.names) w.in-Some.asking.now w.report.new.self (sym w.in-Some.ensures.value)
          (put_set i.asking.slots c.args.place w.in-Some.asking.now w.report.new.self (sym w.in-Some.ensures.value)) w.report.ensures.on
          (same_streams w.in-Some.asking.now w.report.new.self (ap (λ (x : AskingState). x.tried) w.report.ensures.noted) (ap (λ (x : AskingState). x.attempt.stream) w.report.ensures.noted)) a)
      | in_default w ↦ rw w.self-inside-is (λ a. goes_same _)
    ])
