use Rattle.gateway_loop.proofs.AskLemmas.{goes_on, goes_then}
use Rattle.gateway_loop.proofs.event_loop.EventLoop.close_all.Goals as goal

pub returns-clause-continues : goal.returns-clause-continues
returns-clause-continues g c = goes_on _ _ (rw c.keep_no_more.ensures at (goes_then _ _ _ c.close_exchanges.ensures.goes (goes_then _ _ _ c.close_clients.ensures.goes (goes_then _ _ _ c.close_kept.ensures.goes c.close_waiting.ensures.goes))))

pub returns-clause-accounts : goal.returns-clause-accounts
returns-clause-accounts g c = (rw c.keep_no_more.ensures at (goes_then _ _ _ c.close_exchanges.ensures.goes (goes_then _ _ _ c.close_clients.ensures.goes (goes_then _ _ _ c.close_kept.ensures.goes c.close_waiting.ensures.goes)))).accounts

pub returns-clause-drained : goal.returns-clause-drained
returns-clause-drained g c = (rw c.keep_no_more.ensures at (goes_then _ _ _ c.close_exchanges.ensures.goes (goes_then _ _ _ c.close_clients.ensures.goes (goes_then _ _ _ c.close_kept.ensures.goes c.close_waiting.ensures.goes)))).drained
