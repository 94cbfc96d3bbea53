use Rattle.gateway_loop.proofs.Words.{beside, map}
use Rattle.gateway_loop.proofs.AskLemmas.{goes_still, goes_then}
use Rattle.gateway_loop.proofs.event_loop.EventLoop.write_client.Goals as goal

pub returns-then-eq : goal.returns-then-eq
returns-then-eq g c = record { goes = rw (← c.self.view_is) (goes_then _ _ _ (rw (← c.write-written.ensures.net) (goes_still c.self.inside.manner c.self.inside.asking.slots c.self.inside.ended.items (beside c.self.inside.kept (map (λ s. s.0.stream) c.self.inside.left.items) c.self.inside.closing (map (λ f. f.0) c.self.inside.looked_up.items) c.self.inside.names) _ _ c.write-written.ensures.goes c.write-written.ensures.still)) (rw c.tell_broken.ensures at c.drop_client.ensures.goes)) }

pub returns-then-is_to_leave : goal.returns-then-is_to_leave
returns-then-is_to_leave g c = record { goes = rw (← c.self.view_is) (goes_then _ _ _ (rw (← c.write-written.ensures.net) (goes_still c.self.inside.manner c.self.inside.asking.slots c.self.inside.ended.items (beside c.self.inside.kept (map (λ s. s.0.stream) c.self.inside.left.items) c.self.inside.closing (map (λ f. f.0) c.self.inside.looked_up.items) c.self.inside.names) _ _ c.write-written.ensures.goes c.write-written.ensures.still)) (rw c.tell_broken-then-is_to_leave.ensures at c.leave.ensures.goes)) }

pub returns-else-is_to_leave : goal.returns-else-is_to_leave
returns-else-is_to_leave g c = record { goes = rw (← c.self.view_is, c.write-written.ensures.net) (goes_still c.self.inside.manner c.self.inside.asking.slots c.self.inside.ended.items (beside c.self.inside.kept (map (λ s. s.0.stream) c.self.inside.left.items) c.self.inside.closing (map (λ f. f.0) c.self.inside.looked_up.items) c.self.inside.names) _ _ c.write-written.ensures.goes c.write-written.ensures.still) }
