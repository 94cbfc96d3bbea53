use Rattle.gateway_run.proofs.Names.{sym, ◌∙◌}
use Rattle.gateway_run.proofs.Entries.{with_rest-more}
use Rattle.gateway_run.proofs.script.read_events.Goals as goal

pub loop-entry-preserved : goal.loop-entry-preserved
loop-entry-preserved c =
    rw c.in_ok-push.ensures.items
    (c.loop-entry.invariant
    ∙ with_rest-more c.loop-entry.events.items c.args.entries.now c.loop-entry.entry-index c.entry-item.result
    c.in-Some.event
    c.loop-entry-test.true c.entry-item.is (sym c.in-Some.is ∙ c.in_ok-event.ensures))
