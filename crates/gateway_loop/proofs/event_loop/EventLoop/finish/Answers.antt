use Rattle.gateway_loop.proofs.event_loop.EventLoop.finish.Goals as goal

pub returns : goal.returns
returns g c = record { goes = rw (← c.self.view_is, c.forget_exchange.ensures, c.self-2.view_is) (rw c.leave.ensures at c.record.ensures.goes) }

pub returns-in_err-end : goal.returns-in_err-end
returns-in_err-end g c = record { goes = rw (← c.self.view_is) (rw c.leave.ensures at c.record.ensures.goes) }

pub returns-in_err-client : goal.returns-in_err-client
returns-in_err-client g c = record { goes = rw (← c.self.view_is) (rw c.leave.ensures at c.record.ensures.goes) }
