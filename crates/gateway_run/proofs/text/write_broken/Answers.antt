use Rattle.gateway_run.proofs.Names.{broken_line, err_if as OnErr-from}
use Rattle.gateway_run.proofs.RunLemmas.{AppendsSome-at, Appends-at}
use Rattle.gateway_run.proofs.text.write_broken.Goals as goal

pub loop-conn-preserved : goal.loop-conn-preserved
loop-conn-preserved g c =
    Appends-at broken_line _ _ _ c.args.broken.now c.loop-conn.conn-index 0
    c.loop-conn-test.true c.loop-conn.invariant c.in_ok-write_break.ensures.ok

pub returns-in_err-write_break-clause-err : goal.returns-in_err-write_break-clause-err
returns-in_err-write_break-clause-err g c =
    OnErr-from _ (AppendsSome-at broken_line _ _ _ c.args.broken.now c.loop-conn.conn-index 0
    c.loop-conn-test.true c.loop-conn.invariant c.in_err-write_break.ensures.err)
