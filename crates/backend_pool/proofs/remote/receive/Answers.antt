use Rattle.backend_pool.proofs.Lemmas.{◌++◌, take, sym, ◌∙◌, Consumes-trans, reply_begins}
use Rattle.backend_pool.proofs.remote.receive.Goals as goal

pub returns-in-Some : goal.returns-in-Some
returns-in-Some g c =
    let before = c.loop-read.invariant in
    let bytes = before.0 ++ take c.in-Ok.count c.read.new.buf in
    λ reply is. (bytes, Consumes-trans _ _ _ before.0 _ before.1 c.in-Ok.ensures.bytes.0, reply_begins c.received.new.self bytes c.in-Some.end reply (c.in-Some.ensures.comes _ before.0 before.2) (sym c.asked.ensures ∙ is))

pub loop-read-preserved : goal.loop-read-preserved
loop-read-preserved g c =
    let before = c.loop-read.invariant in
    (before.0 ++ take c.in-Ok.count c.read.new.buf, Consumes-trans _ _ _ before.0 _ before.1 c.in-Ok.ensures.bytes.0, c.in-None.ensures.comes _ before.0 before.2)
