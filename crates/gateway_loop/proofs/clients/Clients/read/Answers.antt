use Rattle.gateway_loop.proofs.Words.{refl, sym}
use Rattle.gateway_loop.proofs.CountLemmas.{there_still}
use Rattle.gateway_loop.proofs.GrowLemmas.{continues_put, onward}
use Rattle.gateway_loop.proofs.HistoryLemmas.{goes_steps, serves_on}
use Rattle.gateway_loop.proofs.Places.{put_back}
use Rattle.gateway_loop.proofs.clients.Clients.read.Goals as goal

pub invariant_of-self-2 : goal.invariant_of-self-2
invariant_of-self-2 g c =
    let i = c.self.inside in
    let put = c.insert_reserved-place in
    serves_on i.moment i.moment _ _ (goes_steps c.loop_laws.ensures _ _ c.args.place c.in-Some.client c.read-heard.new.self (sym c.in-Some.ensures.value) c.read-heard.ensures.steps
    (put_back i.clients c.try_remove.new.self put.new.self c.args.place put.result _ c.try_remove.ensures.updates c.in-Some.ensures.key_is_next put.ensures.key put.ensures.updates) refl record { told = refl; results = refl; handed = refl; drained = refl; unserved = refl }) c.self.invariant.moment_is c.self.invariant

pub returns-clause-goes : goal.returns-clause-goes
returns-clause-goes g c =
    let i = c.self.inside in
    let put = c.insert_reserved-place in
    rw (← c.self.view_is)
    (onward _ _ refl (continues_put _ _ (goes_steps c.loop_laws.ensures _ _ c.args.place c.in-Some.client c.read-heard.new.self (sym c.in-Some.ensures.value) c.read-heard.ensures.steps
    (put_back i.clients c.try_remove.new.self put.new.self c.args.place put.result _ c.try_remove.ensures.updates c.in-Some.ensures.key_is_next put.ensures.key put.ensures.updates) refl record { told = refl; results = refl; handed = refl; drained = refl; unserved = refl }) c.read-heard.ensures.steps.plans record { told = refl; results = refl; handed = refl; drained = refl; unserved = refl } c.args.place c.in-Some.client c.read-heard.new.self (sym c.in-Some.ensures.value) c.read-heard.ensures.grows
    (put_back i.clients c.try_remove.new.self put.new.self c.args.place put.result _ c.try_remove.ensures.updates c.in-Some.ensures.key_is_next put.ensures.key put.ensures.updates) refl))

pub returns-clause-still : goal.returns-clause-still
returns-clause-still g c =
    let i = c.self.inside in
    let put = c.insert_reserved-place in
    rw (← c.self.view_is) record {
      told = refl;
      gone = refl;
      unserved = refl;
      there = there_still i.clients.slots put.new.self.slots c.args.place c.in-Some.client c.read-heard.new.self (sym c.in-Some.ensures.value) (put_back i.clients c.try_remove.new.self put.new.self c.args.place put.result _ c.try_remove.ensures.updates c.in-Some.ensures.key_is_next put.ensures.key put.ensures.updates);
    }
