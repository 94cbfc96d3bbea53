use Rattle.gateway_loop.proofs.Words.{beside, map}
use Rattle.gateway_loop.proofs.AskLemmas.{goes_still}
use Rattle.gateway_loop.proofs.event_loop.EventLoop.tell_ready.Goals as goal

pub returns-in-Client-clause-goes : goal.returns-in-Client-clause-goes
returns-in-Client-clause-goes g c =
    let i = c.self.inside in
    rw (← c.self.view_is) (λ a. goes_still i.manner i.asking.slots i.ended.items (beside i.kept (map (λ s. s.0.stream) i.left.items) i.closing (map (λ f. f.0) i.looked_up.items) i.names) _ _ c.note_ready.ensures.goes c.note_ready.ensures.still)
