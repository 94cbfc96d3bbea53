use Rattle.gateway_run.proofs.Names.{rules}
use Rattle.gateway_run.proofs.RunLemmas.{Appends-more}
use Rattle.gateway_run.proofs.text.send.Goals as goal

pub loop-done-preserved : goal.loop-done-preserved
loop-done-preserved g c = (search rules, Appends-more _ _ _ _ _ _ c.loop-done.invariant.1 c.in-Ok.ensures.bytes)
