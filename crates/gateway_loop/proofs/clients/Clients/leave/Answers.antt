use Rattle.gateway_loop.proofs.Words.{Some, refl, sym, subst, ClientValue}
use Rattle.gateway_loop.proofs.CountLemmas.{there_still}
use Rattle.gateway_loop.proofs.GrowLemmas.{continues_put, grows_lingering, onward}
use Rattle.gateway_loop.proofs.HistoryLemmas.{goes_leaves, serves_on}
use Rattle.gateway_loop.proofs.Places.{Put, put_back}
use Rattle.gateway_loop.proofs.clients.Clients.leave.Goals as goal

pub invariant_of-self-2 : goal.invariant_of-self-2
invariant_of-self-2 g c =
    let i = c.self.inside in
    let put = c.insert_reserved-place in
    let puts = put_back i.clients c.try_remove.new.self put.new.self c.args.place put.result c.linger.new.self c.try_remove.ensures.updates c.in-Some.ensures.key_is_next put.ensures.key put.ensures.updates in
    serves_on i.moment i.moment _ _ (goes_leaves c.loop_laws.ensures _ _ c.close.ensures.keeps.plans_are c.args.place c.in-Some.client c.args.until (sym c.in-Some.ensures.value)
    (λ h s. rw (← c.conn.ensures) (c.close.ensures.stands h s))
    (λ h. rw (← c.conn.ensures) (c.close.ensures.adds h))
    (subst (λ (y : ClientValue). Put i.clients.slots put.new.self.slots c.args.place (Some y)) c.linger.ensures puts) refl record { told = refl; results = refl; handed = refl; drained = refl; unserved = refl }) c.self.invariant.moment_is c.self.invariant

pub returns-clause-goes : goal.returns-clause-goes
returns-clause-goes g c =
    let i = c.self.inside in
    let put = c.insert_reserved-place in
    let puts = put_back i.clients c.try_remove.new.self put.new.self c.args.place put.result c.linger.new.self c.try_remove.ensures.updates c.in-Some.ensures.key_is_next put.ensures.key put.ensures.updates in
    rw (← c.self.view_is)
    (onward _ _ refl (continues_put _ _ (goes_leaves c.loop_laws.ensures _ _ c.close.ensures.keeps.plans_are c.args.place c.in-Some.client c.args.until (sym c.in-Some.ensures.value)
    (λ h s. rw (← c.conn.ensures) (c.close.ensures.stands h s))
    (λ h. rw (← c.conn.ensures) (c.close.ensures.adds h))
    (subst (λ (y : ClientValue). Put i.clients.slots put.new.self.slots c.args.place (Some y)) c.linger.ensures puts) refl record { told = refl; results = refl; handed = refl; drained = refl; unserved = refl }) c.close.ensures.keeps.plans_are record { told = refl; results = refl; handed = refl; drained = refl; unserved = refl } c.args.place c.in-Some.client _ (sym c.in-Some.ensures.value) (grows_lingering c.in-Some.client c.args.until)
    (subst (λ (y : ClientValue). Put i.clients.slots put.new.self.slots c.args.place (Some y)) c.linger.ensures puts) refl))

pub returns-clause-still : goal.returns-clause-still
returns-clause-still g c =
    let i = c.self.inside in
    let put = c.insert_reserved-place in
    let puts = put_back i.clients c.try_remove.new.self put.new.self c.args.place put.result c.linger.new.self c.try_remove.ensures.updates c.in-Some.ensures.key_is_next put.ensures.key put.ensures.updates in
    rw (← c.self.view_is) record {
      told = refl;
      gone = refl;
      unserved = refl;
      there = there_still i.clients.slots put.new.self.slots c.args.place c.in-Some.client c.linger.new.self (sym c.in-Some.ensures.value) puts;
    }
