use Rattle.gateway_loop.proofs.Words.{BranchResult, Option, Served, after_event, ap, refl, subst, sym, unwrap_or, Outcome, prefix-refl}
use Rattle.gateway_loop.proofs.GrowLemmas.{begins_by, continues_all, noted_result, onward}
use Rattle.gateway_loop.proofs.HistoryLemmas.{goes_result, serves_on}
use Rattle.gateway_theory.specs.Told.{AddsEvent}
use Rattle.gateway_loop.proofs.clients.Clients.record.Goals as goal

pub invariant_of-self : goal.invariant_of-self
invariant_of-self g c =
    let i = c.self.inside in
    serves_on i.moment i.moment _ _ (goes_result c.loop_laws.ensures _ _ c.result-took.ensures.keeps.plans_are c.args.job.now.job c.call-call.result c.branch-job.result c.args.outcome
    c.call-call.ensures c.branch-job.ensures refl refl record { told = refl; results = (noted_result i.results.items c.and-self-inside.result.items _ _ c.and-self-inside.ensures); handed = refl; drained = refl; unserved = refl }
    (λ u h s. subst (λ (o : Outcome). Served c.result-took.new.self (after_event (BranchResult c.call-call.result.conn c.call-call.result.request c.branch-job.result o) h)) (sym (ap (λ (o : Option Outcome). unwrap_or o u) c.in-Some.is)) (c.result-took.ensures.stands h s))
    (λ u. subst (λ (o : Outcome). AddsEvent (BranchResult c.call-call.result.conn c.call-call.result.request c.branch-job.result o) i.core c.result-took.new.self)
    (sym (ap (λ (o : Option Outcome). unwrap_or o u) c.in-Some.is)) c.result-took.ensures.adds)) c.self.invariant.moment_is c.self.invariant

pub invariant_of-self-in-None : goal.invariant_of-self-in-None
invariant_of-self-in-None g c =
    let i = c.self.inside in
    serves_on i.moment i.moment _ _ (goes_result c.loop_laws.ensures _ _ c.starved-took.ensures.keeps.plans_are c.args.job.now.job c.call-call.result c.branch-job-in-None.result c.args.outcome
    c.call-call.ensures c.branch-job-in-None.ensures refl refl record { told = refl; results = (noted_result i.results.items c.and-self-inside.result.items _ _ c.and-self-inside.ensures); handed = refl; drained = refl; unserved = refl }
    (λ u h s. subst (λ (o : Outcome). Served c.starved-took.new.self (after_event (BranchResult c.call-call.result.conn c.call-call.result.request c.branch-job-in-None.result o) h)) (sym (ap (λ (o : Option Outcome). unwrap_or o u) c.in-None.is)) (c.starved-took.ensures.stands u h s))
    (λ u. subst (λ (o : Outcome). AddsEvent (BranchResult c.call-call.result.conn c.call-call.result.request c.branch-job-in-None.result o) i.core c.starved-took.new.self)
    (sym (ap (λ (o : Option Outcome). unwrap_or o u) c.in-None.is)) (c.starved-took.ensures.adds u))) c.self.invariant.moment_is c.self.invariant

pub returns-in-Some-clause-goes : goal.returns-in-Some-clause-goes
returns-in-Some-clause-goes g c =
    let i = c.self.inside in
    rw (← c.self.view_is)
    (onward _ _ refl (continues_all _ _ (goes_result c.loop_laws.ensures _ _ c.result-took.ensures.keeps.plans_are c.args.job.now.job c.call-call.result c.branch-job.result c.args.outcome
    c.call-call.ensures c.branch-job.ensures refl refl record { told = refl; results = (noted_result i.results.items c.and-self-inside.result.items _ _ c.and-self-inside.ensures); handed = refl; drained = refl; unserved = refl }
    (λ u h s. subst (λ (o : Outcome). Served c.result-took.new.self (after_event (BranchResult c.call-call.result.conn c.call-call.result.request c.branch-job.result o) h)) (sym (ap (λ (o : Option Outcome). unwrap_or o u) c.in-Some.is)) (c.result-took.ensures.stands h s))
    (λ u. subst (λ (o : Outcome). AddsEvent (BranchResult c.call-call.result.conn c.call-call.result.request c.branch-job.result o) i.core c.result-took.new.self)
    (sym (ap (λ (o : Option Outcome). unwrap_or o u) c.in-Some.is)) c.result-took.ensures.adds)) c.result-took.ensures.keeps.plans_are refl refl (prefix-refl _) (prefix-refl _) (begins_by _ _ _ (noted_result i.results.items c.and-self-inside.result.items _ _ c.and-self-inside.ensures)) (prefix-refl _)))

pub returns-in-None-clause-goes : goal.returns-in-None-clause-goes
returns-in-None-clause-goes g c =
    let i = c.self.inside in
    rw (← c.self.view_is)
    (onward _ _ refl (continues_all _ _ (goes_result c.loop_laws.ensures _ _ c.starved-took.ensures.keeps.plans_are c.args.job.now.job c.call-call.result c.branch-job-in-None.result c.args.outcome
    c.call-call.ensures c.branch-job-in-None.ensures refl refl record { told = refl; results = (noted_result i.results.items c.and-self-inside.result.items _ _ c.and-self-inside.ensures); handed = refl; drained = refl; unserved = refl }
    (λ u h s. subst (λ (o : Outcome). Served c.starved-took.new.self (after_event (BranchResult c.call-call.result.conn c.call-call.result.request c.branch-job-in-None.result o) h)) (sym (ap (λ (o : Option Outcome). unwrap_or o u) c.in-None.is)) (c.starved-took.ensures.stands u h s))
    (λ u. subst (λ (o : Outcome). AddsEvent (BranchResult c.call-call.result.conn c.call-call.result.request c.branch-job-in-None.result o) i.core c.starved-took.new.self)
    (sym (ap (λ (o : Option Outcome). unwrap_or o u) c.in-None.is)) (c.starved-took.ensures.adds u))) c.starved-took.ensures.keeps.plans_are refl refl (prefix-refl _) (prefix-refl _) (begins_by _ _ _ (noted_result i.results.items c.and-self-inside.result.items _ _ c.and-self-inside.ensures)) (prefix-refl _)))
