use Rattle.gateway_loop.proofs.Words.{[], ◌∷◌, refl, prefix-refl}
use Rattle.gateway_loop.proofs.GrowLemmas.{begins_by, continues_all, noted, onward}
use Rattle.gateway_loop.proofs.HistoryLemmas.{goes_moment, goes_told, moment_later, moment_same, serves_on}
use Rattle.gateway_loop.proofs.clients.Clients.tick.Goals as goal

pub invariant_of-self : goal.invariant_of-self
invariant_of-self g c =
    let i = c.self.inside in
    serves_on i.moment i.moment _ _ (goes_told c.loop_laws.ensures _ _ refl i.moment c.moment-moment.result c.if-moment-self.true c.self.invariant.moment_is refl refl record { told = (noted i.told.items c.and-self-inside.result.items _ _ c.and-self-inside.ensures); results = refl; handed = refl; drained = refl; unserved = refl }) (moment_same _ _ c.moment-moment.result i.moment (noted i.told.items c.and-self-inside.result.items _ _ c.and-self-inside.ensures) c.if-moment-self.true c.self.invariant.moment_is) c.self.invariant

pub invariant_of-self-2 : goal.invariant_of-self-2
invariant_of-self-2 g c =
    let i = c.self.inside in
    rw c.max-self-inside.ensures
    (serves_on i.moment _ _ _ (goes_moment c.loop_laws.ensures _ _ c.moment-broke.ensures.keeps.plans_are c.moment-moment.result refl refl record { told = (noted i.told.items c.and-self-inside.result.items _ _ c.and-self-inside.ensures); results = refl; handed = refl; drained = refl; unserved = refl } c.moment-broke.ensures.stands c.moment-broke.ensures.adds) (moment_later _ _ c.moment-moment.result i.moment (noted i.told.items c.and-self-inside.result.items _ _ c.and-self-inside.ensures) c.self.invariant.moment_is) c.self.invariant)

pub returns-then-not-is_due-clause-goes : goal.returns-then-not-is_due-clause-goes
returns-then-not-is_due-clause-goes g c =
    let i = c.self.inside in
    rw (← c.self.view_is)
    (onward _ _ refl (continues_all _ _ (goes_told c.loop_laws.ensures _ _ refl i.moment c.moment-moment.result c.if-moment-self.true c.self.invariant.moment_is refl refl record { told = (noted i.told.items c.and-self-inside.result.items _ _ c.and-self-inside.ensures); results = refl; handed = refl; drained = refl; unserved = refl }) refl refl refl (prefix-refl _) (begins_by _ _ (c.moment-moment.result ∷ []) (noted i.told.items c.and-self-inside.result.items _ _ c.and-self-inside.ensures)) (prefix-refl _) (prefix-refl _)))

pub returns-clause-goes : goal.returns-clause-goes
returns-clause-goes g c =
    let i = c.self.inside in
    rw (← c.self.view_is)
    (onward _ _ refl (continues_all _ _ (goes_moment c.loop_laws.ensures _ _ c.moment-broke.ensures.keeps.plans_are c.moment-moment.result refl refl record { told = (noted i.told.items c.and-self-inside.result.items _ _ c.and-self-inside.ensures); results = refl; handed = refl; drained = refl; unserved = refl } c.moment-broke.ensures.stands c.moment-broke.ensures.adds) c.moment-broke.ensures.keeps.plans_are refl refl (prefix-refl _) (begins_by _ _ (c.moment-moment.result ∷ []) (noted i.told.items c.and-self-inside.result.items _ _ c.and-self-inside.ensures))
    (prefix-refl _) (prefix-refl _)))

pub returns-then-not-is_due-clause-told : goal.returns-then-not-is_due-clause-told
returns-then-not-is_due-clause-told g c =
    let i = c.self.inside in
    rw (← c.self.view_is) record { moment = c.moment-moment.result; net = c.moment-moment.ensures.told; told = (noted i.told.items c.and-self-inside.result.items _ _ c.and-self-inside.ensures); gone = refl; unserved = refl; there = refl }

pub returns-clause-told : goal.returns-clause-told
returns-clause-told g c =
    let i = c.self.inside in
    rw (← c.self.view_is) record { moment = c.moment-moment.result; net = c.moment-moment.ensures.told; told = (noted i.told.items c.and-self-inside.result.items _ _ c.and-self-inside.ensures); gone = refl; unserved = refl; there = refl }
