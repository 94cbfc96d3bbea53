use Rattle.gateway_loop.proofs.Words.{[], beside, map, whole_loop}
use Rattle.gateway_loop.proofs.AskLemmas.{goes_on, goes_told, goes_then, ticked_on}
use Rattle.gateway_loop.proofs.FairLemmas.{keeps_clients}
use Rattle.gateway_loop.proofs.event_loop.EventLoop.tick.Goals as goal

pub returns-then-tick-clause-ticks : goal.returns-then-tick-clause-ticks
returns-then-tick-clause-ticks g c =
    rw (← c.self.view_is) (ticked_on (whole_loop c.self.inside.manner c.self.inside.clients c.self.inside.asking.slots c.self.inside.ended.items (beside c.self.inside.kept (map (λ s. s.0.stream) c.self.inside.left.items) c.self.inside.closing (map (λ f. f.0) c.self.inside.looked_up.items) c.self.inside.names)) (whole_loop c.self.inside.manner c.tick.new.self c.self.inside.asking.slots c.self.inside.ended.items (beside c.self.inside.kept (map (λ s. s.0.stream) c.self.inside.left.items) c.self.inside.closing (map (λ f. f.0) c.self.inside.looked_up.items) c.self.inside.names)) c.look_at_all.new.self (c.tick.ensures.told.moment, [], c.tick.ensures.told.told) (goes_on _ _ c.look_at_all.ensures.goes))

pub returns-else-tick-clause-ticks : goal.returns-else-tick-clause-ticks
returns-else-tick-clause-ticks g c = rw (← c.self.view_is) (c.tick.ensures.told.moment, [], c.tick.ensures.told.told)

pub returns-then-tick-clause-goes : goal.returns-then-tick-clause-goes
returns-then-tick-clause-goes g c = rw (← c.self.view_is) (goes_then _ _ _ (goes_told c.self.inside.manner c.self.inside.asking.slots c.self.inside.ended.items (beside c.self.inside.kept (map (λ s. s.0.stream) c.self.inside.left.items) c.self.inside.closing (map (λ f. f.0) c.self.inside.looked_up.items) c.self.inside.names) _ _ c.tick.ensures.goes c.tick.ensures.told) c.look_at_all.ensures.goes)

pub returns-else-tick-clause-goes : goal.returns-else-tick-clause-goes
returns-else-tick-clause-goes g c = rw (← c.self.view_is) (goes_told c.self.inside.manner c.self.inside.asking.slots c.self.inside.ended.items (beside c.self.inside.kept (map (λ s. s.0.stream) c.self.inside.left.items) c.self.inside.closing (map (λ f. f.0) c.self.inside.looked_up.items) c.self.inside.names) _ _ c.tick.ensures.goes c.tick.ensures.told)

pub invariant_of-self : goal.invariant_of-self
invariant_of-self g c = keeps_clients c.self.inside.manner c.self.inside.kept (map (λ s. s.0.stream) c.self.inside.left.items) (map (λ f. f.0) c.self.inside.looked_up.items) c.self.inside.clients c.tick.new.self c.self.inside.asking.slots c.self.inside.ended.items c.tick.ensures.hands c.self.invariant
