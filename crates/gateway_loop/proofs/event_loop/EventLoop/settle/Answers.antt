use Rattle.gateway_loop.proofs.AskLemmas.{goes_then}
use Rattle.gateway_loop.proofs.event_loop.EventLoop.settle.Goals as goal

pub loop-round-preserved : goal.loop-round-preserved
loop-round-preserved g c =
    goes_then _ _ _ c.loop-round.invariant
    (goes_then _ _ _ c.tell_unasked.ensures.goes (goes_then _ _ _ (rw (c.self.view_is, c.tell.ensures) at c.write_noted-has_written.ensures.goes) c.start_jobs-started.ensures.goes))

pub returns-then-not-has_written : goal.returns-then-not-has_written
returns-then-not-has_written g c = record {
  goes = goes_then _ _ _ c.loop-round.invariant
      (goes_then _ _ _ c.tell_unasked.ensures.goes (goes_then _ _ _ (rw (c.self.view_is, c.tell.ensures) at c.write_noted-has_written.ensures.goes) c.start_jobs-started.ensures.goes));
}
