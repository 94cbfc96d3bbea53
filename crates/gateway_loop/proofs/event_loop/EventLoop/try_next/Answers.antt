use Rattle.gateway_loop.proofs.AskLemmas.{goes_then}
use Rattle.gateway_loop.proofs.event_loop.EventLoop.try_next.Goals as goal
use Rattle.gateway_loop.proofs.event_loop.EventLoop.try_next.Goals.{else-loop-address-test, then-loop-address-test+then-not-connect}

pub loop-address-preserved : goal.loop-address-preserved
loop-address-preserved g c = goes_then _ _ _ c.loop-address.invariant (goes_then _ _ _ c.connect.ensures.goes (c.step.ensures.goes _))

pub returns-in-Ended : goal.returns-in-Ended
returns-in-Ended g c = record {
  goes = goes_then _ _ _ c.loop-address.invariant (goes_then _ _ _ c.connect.ensures.goes (goes_then _ _ _ (c.step.ensures.goes _) c.end.ensures.goes));
}

pub returns-in-Waits : goal.returns-in-Waits
returns-in-Waits g c = record {
  goes = goes_then _ _ _ c.loop-address.invariant (goes_then _ _ _ c.connect.ensures.goes (goes_then _ _ _ (c.step.ensures.goes _) c.watch.ensures.goes));
}

pub returns : goal.returns
returns g c = record {
  goes = elim c.loop-address-test.branch [
    | else-loop-address-test w ↦ goes_then _ _ _ c.loop-address.invariant (rw (w.self-is, w.net-is) at c.lose.ensures.goes)
    | then-loop-address-test+then-not-connect w ↦ goes_then _ _ _ c.loop-address.invariant (goes_then _ _ _ w.connect.ensures.goes (rw (w.self-is, w.net-is) at c.lose.ensures.goes))
  ];
}
