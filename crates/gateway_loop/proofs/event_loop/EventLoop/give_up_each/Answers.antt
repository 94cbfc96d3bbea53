use Rattle.gateway_loop.proofs.AskLemmas.{goes_then}
use Rattle.gateway_loop.proofs.event_loop.EventLoop.give_up_each.Goals as goal
use Rattle.gateway_loop.proofs.event_loop.EventLoop.give_up_each.Goals.{then-is_wanted, else-is_wanted}

pub loop-exchange-preserved : goal.loop-exchange-preserved
loop-exchange-preserved g c = elim c.if-is_wanted.branch [
  | then-is_wanted w ↦ rw (w.self-is, w.net-is) c.loop-exchange.invariant
  | else-is_wanted w ↦ rw (w.self-is, w.net-is) (goes_then _ _ _ c.loop-exchange.invariant w.give_up.ensures.goes)
]
