use Rattle.gateway_loop.proofs.AskLemmas.{goes_then}
use Rattle.gateway_loop.proofs.event_loop.EventLoop.watch.Goals as goal

pub returns-then-not-watch_stream : goal.returns-then-not-watch_stream
returns-then-not-watch_stream g c = record { goes = goes_then _ _ _ c.watch_stream.ensures.goes c.lose.ensures.goes }

pub returns : goal.returns
returns g c = record { goes = goes_then _ _ _ c.watch_stream.ensures.goes (c.set_until.ensures.goes _) }
