use Rattle.gateway_loop.proofs.Words.{beside, map}
use Rattle.gateway_loop.proofs.AskLemmas.{goes_asks, goes_then}
use Rattle.gateway_loop.proofs.event_loop.EventLoop.look_up.Goals as goal

pub returns-in-Err : goal.returns-in-Err
returns-in-Err g c =
    let i = c.self.inside in
    record { goes = rw (← c.self.view_is) (goes_then _ _ _ (goes_asks i.manner i.clients i.asking.slots i.ended.items (beside i.kept (map (λ s. s.0.stream) i.left.items) i.closing (map (λ f. f.0) i.looked_up.items) i.names) c.wait.new.self _ c.wait.ensures.asks) c.lose-in-Err.ensures.goes) }

pub returns-in-Ok-None : goal.returns-in-Ok-None
returns-in-Ok-None g c =
    let i = c.self.inside in
    record { goes = rw (← c.self.view_is) (goes_then _ _ _ (goes_asks i.manner i.clients i.asking.slots i.ended.items (beside i.kept (map (λ s. s.0.stream) i.left.items) i.closing (map (λ f. f.0) i.looked_up.items) i.names) c.wait.new.self _ c.wait.ensures.asks) c.lose-in-Ok-None.ensures.goes) }

pub returns-in-Ok-Some : goal.returns-in-Ok-Some
returns-in-Ok-Some g c =
    let i = c.self.inside in
    record { goes = rw (c.set_waits.ensures, ← c.self.view_is) (goes_asks i.manner i.clients i.asking.slots i.ended.items (beside i.kept (map (λ s. s.0.stream) i.left.items) i.closing (map (λ f. f.0) i.looked_up.items) i.names) c.wait.new.self _ c.wait.ensures.asks) }
