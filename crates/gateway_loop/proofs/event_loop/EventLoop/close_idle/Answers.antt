use Rattle.gateway_loop.proofs.AskLemmas.{goes_on, goes_then}
use Rattle.gateway_loop.proofs.event_loop.EventLoop.close_idle.Goals as goal

pub loop-client-preserved : goal.loop-client-preserved
loop-client-preserved g c = goes_then _ _ _ c.loop-client.invariant c.leave.ensures.goes

pub returns-clause-continues : goal.returns-clause-continues
returns-clause-continues g c = goes_on _ _ c.loop-client.invariant

pub returns-clause-accounts : goal.returns-clause-accounts
returns-clause-accounts g c = c.loop-client.invariant.accounts

pub returns-clause-drained : goal.returns-clause-drained
returns-clause-drained g c = c.loop-client.invariant.drained

pub returns-in_default-clause-continues : goal.returns-in_default-clause-continues
returns-in_default-clause-continues g c = goes_on _ _ c.loop-client.invariant

pub returns-in_default-clause-accounts : goal.returns-in_default-clause-accounts
returns-in_default-clause-accounts g c = c.loop-client.invariant.accounts

pub returns-in_default-clause-drained : goal.returns-in_default-clause-drained
returns-in_default-clause-drained g c = c.loop-client.invariant.drained
