use Rattle.gateway_run.proofs.Names.{◌∙◌, sym, ap, subst, GatewayValue, StartsAll, log_after}
use Rattle.gateway_run.proofs.EventRuns.{event_run}
use Rattle.gateway_run.proofs.Finally.{collects_for_plans, on_then}
use Rattle.gateway_run.proofs.whole.take_event.Goals as goal

pub returns-clause-ran : goal.returns-clause-ran
returns-clause-ran g c = λ es at h. on_then c.start.result c.start.ensures (λ t.
    event_run
    (record { occurs = c.openings_law.ensures.occurs; connections = c.openings_law.ensures.connections; is_open = c.openings_law.ensures.is_open; open_connections = c.openings_law.ensures.open_connections })
    c.args.event es c.args.core.now c.collect_for.new.core c.step-stepped.new.core c.start.new.core c.args.log.now c.collect_for.new.log c.note.new.log c.start.new.self
    c.step-stepped.result h c.in_ok-collect_for.ensures c.step-stepped.ensures.stands (λ conn e. c.step-stepped.ensures.opens conn e) c.step-stepped.ensures.few c.step-stepped.ensures.adds c.step-stepped.ensures.keeps
    (c.in_ok-note.ensures ∙ ap (λ n. log_after c.step-stepped.result n c.collect_for.new.log) (sym at))
    (subst (λ n. StartsAll n c.step-stepped.new.core c.start.new.core c.note.new.log c.start.new.self) (sym at) t))

pub returns-clause-plans : goal.returns-clause-plans
returns-clause-plans g c = on_then c.start.result c.start.ensures (λ t.
    ap (λ (x : GatewayValue). x.plans) t.rest ∙ c.step-stepped.ensures.keeps.plans_are
    ∙ collects_for_plans c.args.event c.args.core.now c.collect_for.new.core c.args.log.now c.collect_for.new.log c.in_ok-collect_for.ensures)
