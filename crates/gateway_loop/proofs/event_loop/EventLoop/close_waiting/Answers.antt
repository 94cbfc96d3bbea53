use Rattle.gateway_loop.proofs.Words.{beside, map}
use Rattle.gateway_loop.proofs.AskLemmas.{goes_closes}
use Rattle.gateway_loop.proofs.event_loop.EventLoop.close_waiting.Goals as goal

pub returns-clause-goes : goal.returns-clause-goes
returns-clause-goes g c =
    let i = c.self.inside in
    rw (← c.self.view_is) (goes_closes i.manner i.clients i.asking.slots i.ended.items (beside i.kept (map (λ s. s.0.stream) i.left.items) i.closing (map (λ f. f.0) i.looked_up.items) i.names) c.close_all.new.self c.close_all.ensures.closes)
