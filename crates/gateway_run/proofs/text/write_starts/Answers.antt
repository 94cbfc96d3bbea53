use Rattle.gateway_run.proofs.Names.{start_line, err_if as OnErr-from}
use Rattle.gateway_run.proofs.RunLemmas.{AppendsSome-at, Appends-at}
use Rattle.gateway_run.proofs.text.write_starts.Goals as goal

pub loop-start-preserved : goal.loop-start-preserved
loop-start-preserved g c =
    Appends-at start_line _ _ _ c.args.starts.now c.loop-start.start-index (record { event = 0; conn = 0; request = 0; branch = 0 })
    c.loop-start-test.true c.loop-start.invariant c.in_ok-write_start.ensures.ok

pub returns-in_err-write_start-clause-err : goal.returns-in_err-write_start-clause-err
returns-in_err-write_start-clause-err g c =
    OnErr-from _ (AppendsSome-at start_line _ _ _ c.args.starts.now c.loop-start.start-index (record { event = 0; conn = 0; request = 0; branch = 0 })
    c.loop-start-test.true c.loop-start.invariant c.in_err-write_start.ensures.err)
