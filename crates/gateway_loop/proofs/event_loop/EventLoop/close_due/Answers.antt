use Rattle.gateway_loop.proofs.Words.{beside, map}
use Rattle.gateway_loop.proofs.AskLemmas.{goes_closes}
use Rattle.gateway_loop.proofs.event_loop.EventLoop.close_due.Goals as goal

pub returns : goal.returns
returns g c =
    let i = c.self.inside in
    record { goes = rw (← c.self.view_is) (goes_closes i.manner i.clients i.asking.slots i.ended.items (beside i.kept (map (λ s. s.0.stream) i.left.items) i.closing (map (λ f. f.0) i.looked_up.items) i.names) c.expire.new.self c.expire.ensures) }
