use Rattle.backend_pool.proofs.Lemmas.{sends_more}
use Rattle.backend_pool.proofs.remote.send.Goals as goal

pub loop-writer-preserved : goal.loop-writer-preserved
loop-writer-preserved g c =
    rw c.sent.ensures (sends_more _ _ _ _ c.loop-writer.exchange.left c.in-Ok.count c.loop-writer.invariant.0 (rw (c.waiting.ensures, c.request.ensures) at c.in-Ok.ensures.bytes), c.loop-writer.invariant.1)
