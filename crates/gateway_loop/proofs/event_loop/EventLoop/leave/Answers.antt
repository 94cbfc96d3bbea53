use Rattle.gateway_loop.proofs.Words.{beside, map}
use Rattle.gateway_loop.proofs.AskLemmas.{goes_still, goes_then}
use Rattle.gateway_loop.proofs.FairLemmas.{keeps_clients}
use Rattle.gateway_loop.proofs.event_loop.EventLoop.leave.Goals as goal

pub returns-then-not-lingers : goal.returns-then-not-lingers
returns-then-not-lingers g c = record { goes = rw (← c.self.view_is, ← c.take_exchanges-exchanges.ensures) (goes_then _ _ _ (goes_still c.self.inside.manner c.self.inside.asking.slots c.self.inside.ended.items (beside c.self.inside.kept (map (λ s. s.0.stream) c.self.inside.left.items) c.self.inside.closing (map (λ f. f.0) c.self.inside.looked_up.items) c.self.inside.names) _ _ c.leave.ensures.goes c.leave.ensures.still) (goes_then _ _ _ c.give_up_all.ensures.goes c.drop_client.ensures.goes)) }

pub returns-else-not-lingers : goal.returns-else-not-lingers
returns-else-not-lingers g c = record { goes = rw (← c.self.view_is, ← c.take_exchanges-exchanges.ensures) (goes_then _ _ _ (goes_still c.self.inside.manner c.self.inside.asking.slots c.self.inside.ended.items (beside c.self.inside.kept (map (λ s. s.0.stream) c.self.inside.left.items) c.self.inside.closing (map (λ f. f.0) c.self.inside.looked_up.items) c.self.inside.names) _ _ c.leave.ensures.goes c.leave.ensures.still) c.give_up_all.ensures.goes) }

pub invariant_of-self : goal.invariant_of-self
invariant_of-self g c = keeps_clients c.self.inside.manner c.self.inside.kept (map (λ s. s.0.stream) c.self.inside.left.items) (map (λ f. f.0) c.self.inside.looked_up.items) c.self.inside.clients c.leave.new.self c.self.inside.asking.slots c.self.inside.ended.items (rw c.take_exchanges-exchanges.ensures at c.leave.ensures.hands) c.self.invariant
