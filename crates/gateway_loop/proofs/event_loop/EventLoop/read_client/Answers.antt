use Rattle.gateway_loop.proofs.Words.{beside, map}
use Rattle.gateway_loop.proofs.AskLemmas.{goes_still}
use Rattle.gateway_loop.proofs.event_loop.EventLoop.read_client.Goals as goal

pub returns-then-eq : goal.returns-then-eq
returns-then-eq g c = record { goes = rw (← c.self.view_is, c.set_half_read.ensures) (λ a. (goes_still c.self.inside.manner c.self.inside.asking.slots c.self.inside.ended.items (beside c.self.inside.kept (map (λ s. s.0.stream) c.self.inside.left.items) c.self.inside.closing (map (λ f. f.0) c.self.inside.looked_up.items) c.self.inside.names) _ _ c.read-heard.ensures.goes c.read-heard.ensures.still)) }

pub returns-else-eq : goal.returns-else-eq
returns-else-eq g c = record { goes = rw (← c.self.view_is) (λ a. (goes_still c.self.inside.manner c.self.inside.asking.slots c.self.inside.ended.items (beside c.self.inside.kept (map (λ s. s.0.stream) c.self.inside.left.items) c.self.inside.closing (map (λ f. f.0) c.self.inside.looked_up.items) c.self.inside.names) _ _ c.read-heard.ensures.goes c.read-heard.ensures.still)) }
