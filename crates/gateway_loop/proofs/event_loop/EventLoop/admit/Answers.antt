use Rattle.gateway_loop.proofs.Words.{[], beside, map}
use Rattle.gateway_loop.proofs.AskLemmas.{admits_goes, admits_one, goes_still, goes_then}
use Rattle.gateway_loop.proofs.event_loop.EventLoop.admit.Goals as goal

pub returns-in_default : goal.returns-in_default
returns-in_default g c = record { goes = rw (← c.self.view_is, c.tell_unserved.ensures.same) (admits_one c.self.inside.manner c.self.inside.asking.slots c.self.inside.ended.items (beside c.self.inside.kept (map (λ s. s.0.stream) c.self.inside.left.items) c.self.inside.closing (map (λ f. f.0) c.self.inside.looked_up.items) c.self.inside.names) _ _ c.open.ensures.goes c.open.ensures.takes) }

pub returns-else-not-watch : goal.returns-else-not-watch
returns-else-not-watch g c = record { goes = rw (← c.self.view_is, c.watch.ensures.net) (admits_goes 1 [] _ _ _ (admits_one c.self.inside.manner c.self.inside.asking.slots c.self.inside.ended.items (beside c.self.inside.kept (map (λ s. s.0.stream) c.self.inside.left.items) c.self.inside.closing (map (λ f. f.0) c.self.inside.looked_up.items) c.self.inside.names) _ _ c.open.ensures.goes c.open.ensures.takes) (goes_still c.self.inside.manner c.self.inside.asking.slots c.self.inside.ended.items (beside c.self.inside.kept (map (λ s. s.0.stream) c.self.inside.left.items) c.self.inside.closing (map (λ f. f.0) c.self.inside.looked_up.items) c.self.inside.names) _ _ c.watch.ensures.goes c.watch.ensures.still)) }

pub returns-then-not-watch : goal.returns-then-not-watch
returns-then-not-watch g c = record {
  goes = rw (← c.self.view_is, c.tell_unserved-then-not-watch.ensures.same) (admits_goes 1 [] _ _ _ (admits_one c.self.inside.manner c.self.inside.asking.slots c.self.inside.ended.items (beside c.self.inside.kept (map (λ s. s.0.stream) c.self.inside.left.items) c.self.inside.closing (map (λ f. f.0) c.self.inside.looked_up.items) c.self.inside.names) _ _ c.open.ensures.goes c.open.ensures.takes) (goes_then _ _ _ (goes_still c.self.inside.manner c.self.inside.asking.slots c.self.inside.ended.items (beside c.self.inside.kept (map (λ s. s.0.stream) c.self.inside.left.items) c.self.inside.closing (map (λ f. f.0) c.self.inside.looked_up.items) c.self.inside.names) _ _ c.watch.ensures.goes c.watch.ensures.still) (rw c.watch.ensures.net at c.drop_client.ensures.goes)));
}
