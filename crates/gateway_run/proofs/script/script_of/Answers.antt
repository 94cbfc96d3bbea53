use Rattle.gateway_run.proofs.Names.{view, items_view}
use Rattle.std.proofs.lemmas.Result.{err_from_is_err_and}
use Rattle.gateway_run.proofs.Scripts.{no_plans, no_entries, refused_plans, bad_event, good_script}
use Rattle.gateway_run.proofs.script.script_of.Goals as goal

pub returns-in_default-clause-refused : goal.returns-in_default-clause-refused
returns-in_default-clause-refused c = λ fault. no_plans (view c.args.script.now) c.in_default.ensures

pub returns-in_default-entries_of-clause-refused : goal.returns-in_default-entries_of-clause-refused
returns-in_default-entries_of-clause-refused c = λ fault.
    no_entries (view c.args.script.now) (view c.in-Some.plans.now)
    c.in-Some.ensures c.in_default-entries_of.ensures

pub returns-in_err-plans-clause-refused : goal.returns-in_err-plans-clause-refused
returns-in_err-plans-clause-refused c =
    let p = err_from_is_err_and c.from_residual.result c.from_residual.ensures.1 in
    rw p.1
    (refused_plans (view c.args.script.now) (view c.in-Some.plans.now)
    (items_view c.in-Some-entries_of.entries.now.items) c.in_err-plans.field-0.0 p.0
    c.in-Some.ensures c.in-Some-entries_of.ensures p.2 c.in_err-plans.ensures.refused)

pub returns-in_err-events-clause-refused : goal.returns-in_err-events-clause-refused
returns-in_err-events-clause-refused c =
    let p = err_from_is_err_and c.from_residual-in_err-events.result c.from_residual-in_err-events.ensures.1 in
    rw (p.1, p.2)
    (λ fault. bad_event (view c.args.script.now) (view c.in-Some.plans.now)
    (items_view c.in-Some-entries_of.entries.now.items) c.in_ok-plans.plans c.in_err-events.field-0.0
    c.in-Some.ensures c.in-Some-entries_of.ensures c.in_ok-plans.ensures.taken
    (rw (← c.as_slice.ensures.value) (c.in_err-events.ensures.refused fault)))

pub returns-clause-read : goal.returns-clause-read
returns-clause-read c =
    good_script (view c.args.script.now) (view c.in-Some.plans.now)
    (items_view c.in-Some-entries_of.entries.now.items) c.in_ok-plans.plans c.in_ok-events.events.items
    c.in-Some.ensures c.in-Some-entries_of.ensures c.in_ok-plans.ensures.taken
    (rw (← c.as_slice.ensures.value) c.in_ok-events.ensures.read)
