use Rattle.gateway_loop.proofs.Words.{Goes}
use Rattle.gateway_loop.proofs.AskLemmas.{goes_same, goes_then}
use Rattle.gateway_loop.proofs.event_loop.EventLoop.serve.Goals as goal
use Rattle.gateway_loop.proofs.event_loop.EventLoop.serve.Goals.{then-is_restless, else-is_restless}

pub returns-clause-goes : goal.returns-clause-goes
returns-clause-goes g c =
    let served : Goes (g.N.Network.value c.serve_ready.new.net) (g.N.Network.value c.if-is_restless.net) c.serve_ready.new.self c.if-is_restless.self = elim c.if-is_restless.branch [
      | then-is_restless w ↦ rw (w.self-is, w.net-is) w.serve_restless.ensures.goes
      | else-is_restless w ↦ rw (w.self-is, w.net-is) (goes_same _)
    ] in
    goes_then _ _ _ c.serve_ready.ensures.goes (goes_then _ _ _ served (goes_then _ _ _ c.close_due.ensures.goes (goes_then _ _ _ c.expire_kept.ensures.goes c.settle.ensures.goes)))
