use Rattle.gateway_loop.proofs.AskLemmas.{goes_then}
use Rattle.gateway_loop.proofs.event_loop.EventLoop.start.Goals as goal

pub returns-then-has_address : goal.returns-then-has_address
returns-then-has_address g c =
    record { goes = rw c.self.view_is at (rw c.enlist.ensures at (goes_then _ _ _ c.reuse_any.ensures.goes (goes_then _ _ _ (c.has_address.ensures.goes _) c.try_next.ensures.goes))) }

pub returns-else-has_address : goal.returns-else-has_address
returns-else-has_address g c =
    record { goes = rw c.self.view_is at (rw c.enlist.ensures at (goes_then _ _ _ c.reuse_any.ensures.goes (goes_then _ _ _ (c.has_address.ensures.goes _) c.look_up.ensures.goes))) }

pub returns-then-reuse_any : goal.returns-then-reuse_any
returns-then-reuse_any g c = record { goes = rw c.self.view_is at (rw c.enlist.ensures at (goes_then _ _ _ c.reuse_any.ensures.goes c.begin_over.ensures.goes)) }

pub returns-then-is_over : goal.returns-then-is_over
returns-then-is_over g c = record { goes = rw c.self.view_is at (rw c.enlist.ensures at c.end.ensures.goes) }

pub returns-then-not-enlist : goal.returns-then-not-enlist
returns-then-not-enlist g c = record { goes = rw c.self.view_is at (rw c.enlist.ensures at c.lose.ensures.goes) }
