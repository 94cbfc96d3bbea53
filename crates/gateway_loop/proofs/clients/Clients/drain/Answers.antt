use Rattle.gateway_loop.proofs.Words.{refl, prefix-refl}
use Rattle.gateway_loop.proofs.GrowLemmas.{continues_all}
use Rattle.gateway_loop.proofs.HistoryLemmas.{goes_drain, serves_on}
use Rattle.gateway_loop.proofs.clients.Clients.drain.Goals as goal

pub invariant_of-self : goal.invariant_of-self
invariant_of-self g c =
    let i = c.self.inside in
    serves_on i.moment i.moment _ _ (goes_drain c.loop_laws.ensures _ _ c.drain-broke.ensures.keeps.plans_are refl refl record { told = refl; results = refl; handed = refl; drained = refl; unserved = refl } c.drain-broke.ensures.stands c.drain-broke.ensures.adds) c.self.invariant.moment_is c.self.invariant

pub returns-clause-continues : goal.returns-clause-continues
returns-clause-continues g c =
    rw (← c.self.view_is) (continues_all _ _ (goes_drain c.loop_laws.ensures _ _ c.drain-broke.ensures.keeps.plans_are refl refl record { told = refl; results = refl; handed = refl; drained = refl; unserved = refl } c.drain-broke.ensures.stands c.drain-broke.ensures.adds) c.drain-broke.ensures.keeps.plans_are refl refl (prefix-refl _) (prefix-refl _) (prefix-refl _) (prefix-refl _))
