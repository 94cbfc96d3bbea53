use Rattle.gateway_run.proofs.Names.{◌∙◌, err_if as OnErr-from}
use Rattle.gateway_run.proofs.RunLemmas.{AppendsSome-connection, Appends-connection, all_connections}
use Rattle.gateway_run.proofs.text.write_connections.Goals as goal

pub returns-in_err-write_connection-clause-err : goal.returns-in_err-write_connection-clause-err
returns-in_err-write_connection-clause-err g c =
    OnErr-from _ (AppendsSome-connection _ _ _ c.args.queued.now c.loop-conn.conn c.index-queued-conn.result c.as_slice.result.now
    c.loop-conn-test.true (c.as_slice.ensures ∙ c.index-queued-conn.is) c.loop-conn.invariant c.in_err-write_connection.ensures.err)

pub loop-conn-preserved : goal.loop-conn-preserved
loop-conn-preserved g c =
    Appends-connection _ _ _ c.args.queued.now c.loop-conn.conn c.index-queued-conn.result c.as_slice.result.now
    c.loop-conn-test.true (c.as_slice.ensures ∙ c.index-queued-conn.is) c.loop-conn.invariant c.in_ok-write_connection.ensures.ok

pub returns-clause-ok : goal.returns-clause-ok
returns-clause-ok g c = rw (all_connections c.args.queued.now c.loop-conn.conn c.loop-conn-test.false) at c.loop-conn.invariant
