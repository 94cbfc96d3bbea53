use Rattle.gateway_loop.proofs.Words.{List, Option, ap, sym, whole_loop, AskingValue, beside, map}
use Rattle.gateway_loop.specs.Loop.{found_asking}
use Rattle.gateway_loop.proofs.AskLemmas.{goes_put, goes_same}
use Rattle.gateway_loop.proofs.FairLemmas.{finds_put, found_asked, shares_stay}
use Rattle.gateway_loop.proofs.Places.{put_set}
use Rattle.gateway_loop.proofs.TellLemmas.{asking_changed, asking_same}
use Rattle.gateway_loop.proofs.event_loop.EventLoop.find.Goals as goal
use Rattle.gateway_loop.proofs.event_loop.EventLoop.find.Goals.{in-Some, in_default}

pub invariant_of-self : goal.invariant_of-self
invariant_of-self g c =
    let i = c.self.inside in
    let there = rw (← c.self.view_is) at c.requires.there in
    elim c.match-get_mut.branch [
      | in-Some w ↦ rw w.self-inside-is
          (finds_put i.manner i.kept (map (λ s. s.0.stream) i.left.items) (map (λ f. f.0) i.looked_up.items) i.clients i.asking.slots _ i.ended.items c.args.place w.in-Some.asking.now w.find.new.self (sym w.in-Some.ensures.value)
          w.find.ensures.job w.find.ensures.manner c.args.looked_up.now c.args.first.items (rw w.name.ensures at w.find.ensures.own) (rw w.name.ensures at w.find.ensures.found) there c.requires.first
          (put_set i.asking.slots c.args.place w.in-Some.asking.now w.find.new.self (sym w.in-Some.ensures.value)) w.begun_law.ensures.begun w.begun_law.ensures.untouched (shares_stay w.in-Some.asking.now w.find.new.self w.find.ensures.streams) c.self.invariant)
      | in_default w ↦ rw w.self-inside-is c.self.invariant
    ]

pub returns-clause-exact : goal.returns-clause-exact
returns-clause-exact g c =
    let i = c.self.inside in
    let name = c.args.looked_up.now.name in
    let with_asking = λ (asking : List (Option AskingValue)). record (whole_loop i.manner i.clients i.asking.slots i.ended.items (beside i.kept (map (λ s. s.0.stream) i.left.items) i.closing (map (λ f. f.0) i.looked_up.items) i.names)) { asking = asking } in
    rw (← c.self.view_is) (elim c.match-get_mut.branch [
      | in-Some w ↦ rw w.self-inside-is
          (ap with_asking
          (asking_changed (found_asking name c.args.first.items) i.asking.slots c.args.place w.in-Some.asking.now w.find.new.self (sym w.in-Some.ensures.value)
          (found_asked name c.args.first.items w.in-Some.asking.now w.find.new.self (rw w.name.ensures at w.find.ensures.found))))
      | in_default w ↦ rw w.self-inside-is (ap with_asking (asking_same (found_asking name c.args.first.items) i.asking.slots c.args.place (sym w.in_default.ensures.value)))
    ])

pub returns-clause-goes : goal.returns-clause-goes
returns-clause-goes g c =
    let i = c.self.inside in
    rw (← c.self.view_is) (elim c.match-get_mut.branch [
      | in-Some w ↦ rw w.self-inside-is (λ a.
          goes_put i.asking.slots _ c.args.place i.manner i.clients i.ended.items (beside i.kept (map (λ s. s.0.stream) i.left.items) i.closing (map (λ f. f.0) i.looked_up.items) i.names) w.in-Some.asking.now w.find.new.self (sym w.in-Some.ensures.value)
          (put_set i.asking.slots c.args.place w.in-Some.asking.now w.find.new.self (sym w.in-Some.ensures.value)) w.find.ensures.on w.find.ensures.streams a)
      | in_default w ↦ rw w.self-inside-is (λ a. goes_same _)
    ])
