use Rattle.gateway_run.proofs.Names.{[], err_if as OnErr-from}
use Rattle.gateway_run.proofs.RunLemmas.{AppendsSome-at, Appends-at}
use Rattle.gateway_run.proofs.text.send_all.Goals as goal

pub loop-part-preserved : goal.loop-part-preserved
loop-part-preserved g c =
    Appends-at (λ part. part.now) _ _ _ c.args.parts.now c.loop-part.part-index (record { ref_ptr = (0, 0); now = [] })
    c.loop-part-test.true c.loop-part.invariant c.in_ok-send.ensures.ok

pub returns-in_err-send-clause-err : goal.returns-in_err-send-clause-err
returns-in_err-send-clause-err g c =
    OnErr-from _ (AppendsSome-at (λ part. part.now) _ _ _ c.args.parts.now c.loop-part.part-index (record { ref_ptr = (0, 0); now = [] })
    c.loop-part-test.true c.loop-part.invariant c.in_err-send.ensures.err)
