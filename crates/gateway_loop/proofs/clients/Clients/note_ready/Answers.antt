use Rattle.gateway_loop.proofs.Words.{◌∙◌, ◌∷◌, [], List, Option, Some, ap, map, refl, subst, sym, ClientValue, Grows, MakesSteps, told_client}
use Rattle.gateway_loop.specs.Clients.{loop_value}
use Rattle.std.specs.Prelude.{slice_set}
use Rattle.gateway_loop.proofs.GrowLemmas.{continues_put, continues_same, grows_moved, onward}
use Rattle.gateway_loop.proofs.Places.{changed_none, changed_some, put_set}
use Rattle.gateway_loop.proofs.CountLemmas.{there_still}
use Rattle.gateway_loop.proofs.HistoryLemmas.{goes_steps, serves_on}
use Rattle.loop_model.specs.Streams.{closed_turns}
use Rattle.gateway_loop.proofs.StepLemmas.{fits_moved, steps_fit}
use Rattle.gateway_loop.proofs.clients.Clients.note_ready.Goals as goal
use Rattle.gateway_loop.proofs.clients.Clients.note_ready.Goals.{in-Some, in_default}

pub invariant_of-self : goal.invariant_of-self
invariant_of-self g c =
    let i = c.self.inside in
    elim c.match-get_mut.branch [
      | in-Some w ↦ rw w.self-inside-is
          (serves_on i.moment i.moment _ _ (goes_steps c.loop_laws.ensures _ _ c.args.place w.in-Some.client.now w.report.new.self (sym w.in-Some.ensures.value)
          (subst (λ (y : ClientValue). MakesSteps i.core i.core w.in-Some.client.now y) (sym w.report.ensures) (steps_fit i.core _ _ (fits_moved w.in-Some.client.now _ _ _ _)))
          (put_set i.clients.slots c.args.place w.in-Some.client.now w.report.new.self (sym w.in-Some.ensures.value))
          refl record { told = refl; results = refl; handed = refl; drained = refl; unserved = refl }) c.self.invariant.moment_is c.self.invariant)
      | in_default w ↦ rw w.self-inside-is c.self.invariant
    ]

pub returns-clause-exact : goal.returns-clause-exact
returns-clause-exact g c =
    let i = c.self.inside in
    let with_slots = λ (slots : List (Option ClientValue)). loop_value i.core slots i.gone.items (map (λ u. closed_turns (g.W.Wire.peer u.0) (g.W.Wire.turns u.0)) i.unserved.items) i.told.items i.results.items i.handed.items i.drained in
    rw (← c.self.view_is) (elim c.match-get_mut.branch [
      | in-Some w ↦ rw w.self-inside-is
          (ap with_slots (ap (λ (y : ClientValue). slice_set i.clients.slots c.args.place (Some y)) w.report.ensures
          ∙ changed_some (told_client c.args.ready) i.clients.slots c.args.place w.in-Some.client.now (sym w.in-Some.ensures.value)))
      | in_default w ↦ rw w.self-inside-is (ap with_slots (sym (changed_none (told_client c.args.ready) i.clients.slots c.args.place (sym w.in_default.ensures.value))))
    ])

pub returns-clause-goes : goal.returns-clause-goes
returns-clause-goes g c =
    let i = c.self.inside in
    rw (← c.self.view_is) (elim c.match-get_mut.branch [
      | in-Some w ↦ rw w.self-inside-is
          (onward _ _ refl (continues_put _ _ (goes_steps c.loop_laws.ensures _ _ c.args.place w.in-Some.client.now w.report.new.self (sym w.in-Some.ensures.value)
          (subst (λ (y : ClientValue). MakesSteps i.core i.core w.in-Some.client.now y) (sym w.report.ensures) (steps_fit i.core _ _ (fits_moved w.in-Some.client.now _ _ _ _)))
          (put_set i.clients.slots c.args.place w.in-Some.client.now w.report.new.self (sym w.in-Some.ensures.value))
          refl record { told = refl; results = refl; handed = refl; drained = refl; unserved = refl }) refl record { told = refl; results = refl; handed = refl; drained = refl; unserved = refl } c.args.place w.in-Some.client.now w.report.new.self (sym w.in-Some.ensures.value)
          (subst (λ (y : ClientValue). Grows w.in-Some.client.now y) (sym w.report.ensures) (grows_moved w.in-Some.client.now _ _ _ _ (c.args.ready ∷ [], refl)))
          (put_set i.clients.slots c.args.place w.in-Some.client.now w.report.new.self (sym w.in-Some.ensures.value)) refl))
      | in_default w ↦ rw w.self-inside-is (onward _ _ refl (continues_same _))
    ])

pub returns-clause-still : goal.returns-clause-still
returns-clause-still g c =
    let i = c.self.inside in
    rw (← c.self.view_is) (elim c.match-get_mut.branch [
      | in-Some w ↦ rw w.self-inside-is record {
        told = refl;
        gone = refl;
        unserved = refl;
        there = there_still i.clients.slots _ c.args.place w.in-Some.client.now w.report.new.self (sym w.in-Some.ensures.value) (put_set i.clients.slots c.args.place w.in-Some.client.now w.report.new.self (sym w.in-Some.ensures.value));
      }
      | in_default w ↦ rw w.self-inside-is record { told = refl; gone = refl; unserved = refl; there = refl }
    ])
