use Rattle.gateway_run.proofs.Names.{◌≡◌, ◌∙◌, [], false, length, map, sym, ap, subst, nat_lt, HandedJob, HasRun, LogValue, log_value, newest_first}
use Rattle.gateway_run.proofs.Finally.{run_is}
use Rattle.gateway_run.proofs.whole.run_of.Goals as goal

pub returns : goal.returns
returns g c first =
    let es = newest_first c.args.events.items in
    let count = length c.take_events.new.log.opened in
    let log : LogValue = log_value c.log-2.inside.opened.items c.log-2.inside.queued.items c.log-2.inside.broke.items c.log-2.inside.starts.items (map (λ (j : HandedJob). j.job) c.log-2.inside.jobs.items) in
    let begun : HasRun (λ c. false) c.args.core.now c.new-log.result [] = subst (λ l. HasRun (λ c. false) c.args.core.now l []) (sym c.new-log.ensures) first in
    let h : HasRun (λ n. nat_lt n count) c.collect_all.new.core log es =
    subst (λ l. HasRun (λ n. nat_lt n count) c.collect_all.new.core l es) (sym c.log-2.view_is)
    (c.in_ok-collect_all.ensures.ran es (c.in_ok-take_events.ensures.ran begun)) in
    let count_is : length log.opened ≡ count = ap (λ (l : LogValue). length l.opened) c.log-2.view_is ∙ ap (λ xs. length xs) c.in_ok-collect_all.ensures.opened in
    let plans : c.collect_all.new.core.plans ≡ c.args.core.now.plans = c.in_ok-collect_all.ensures.plans ∙ c.in_ok-take_events.ensures.plans in
    run_is count c.collect_all.new.core log es c.in_ok-broken.broken.items h count_is c.in_ok-broken.ensures c.args.core.now.plans plans
