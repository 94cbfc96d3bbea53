use Rattle.gateway_loop.proofs.Words.{[], ◌∷◌, ap, append-nil, refl, sym, GatewayValue, prefix-refl}
use Rattle.gateway_loop.proofs.GrowLemmas.{begins_by, continues_all, noted_job, onward}
use Rattle.gateway_loop.proofs.HistoryLemmas.{goes_jobs, serves_on}
use Rattle.gateway_loop.proofs.clients.Clients.take_job.Goals as goal

pub invariant_of-self-2 : goal.invariant_of-self-2
invariant_of-self-2 g c =
    let i = c.self.inside in
    serves_on i.moment i.moment _ _ (goes_jobs c.loop_laws.ensures _ _ (ap (λ (v : GatewayValue). v.plans) c.take_job.ensures.rest) (c.in_ok-job.job.job ∷ []) refl refl
    record { told = refl; results = refl; handed = (noted_job i.handed.items c.and-self-inside.result.items _ _ c.and-self-inside.ensures); drained = refl; unserved = refl } c.in_ok-job.ensures.stands c.in_ok-job.ensures.lives) c.self.invariant.moment_is c.self.invariant

pub invariant_of-self : goal.invariant_of-self
invariant_of-self g c =
    let i = c.self.inside in
    serves_on i.moment i.moment _ _ (goes_jobs c.loop_laws.ensures _ _ (ap (λ (v : GatewayValue). v.plans) c.take_job.ensures.rest) [] refl refl record { told = refl; results = refl; handed = sym (append-nil _); drained = refl; unserved = refl } c.in_err-job.ensures.stands c.in_err-job.ensures.lives) c.self.invariant.moment_is c.self.invariant

pub returns-clause-goes : goal.returns-clause-goes
returns-clause-goes g c =
    let i = c.self.inside in
    rw (← c.self.view_is)
    (onward _ _ refl (continues_all _ _ (goes_jobs c.loop_laws.ensures _ _ (ap (λ (v : GatewayValue). v.plans) c.take_job.ensures.rest) (c.in_ok-job.job.job ∷ []) refl refl
    record { told = refl; results = refl; handed = (noted_job i.handed.items c.and-self-inside.result.items _ _ c.and-self-inside.ensures); drained = refl; unserved = refl } c.in_ok-job.ensures.stands c.in_ok-job.ensures.lives) (ap (λ (v : GatewayValue). v.plans) c.take_job.ensures.rest) refl refl (prefix-refl _) (prefix-refl _) (prefix-refl _) (begins_by _ _ _ (noted_job i.handed.items c.and-self-inside.result.items _ _ c.and-self-inside.ensures))))

pub returns-in_err-job-clause-goes : goal.returns-in_err-job-clause-goes
returns-in_err-job-clause-goes g c =
    let i = c.self.inside in
    rw (← c.self.view_is)
    (onward _ _ refl (continues_all _ _ (goes_jobs c.loop_laws.ensures _ _ (ap (λ (v : GatewayValue). v.plans) c.take_job.ensures.rest) [] refl refl record { told = refl; results = refl; handed = sym (append-nil _); drained = refl; unserved = refl } c.in_err-job.ensures.stands c.in_err-job.ensures.lives) (ap (λ (v : GatewayValue). v.plans) c.take_job.ensures.rest) refl refl (prefix-refl _) (prefix-refl _) (prefix-refl _) (prefix-refl _)))
