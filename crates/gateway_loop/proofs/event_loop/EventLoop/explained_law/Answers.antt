use Rattle.gateway_loop.proofs.Words.{beside, map}
use Rattle.gateway_loop.proofs.FairLemmas.{fair_closing}
use Rattle.gateway_loop.proofs.event_loop.EventLoop.explained_law.Goals as goal

pub returns : goal.returns
returns g c =
    let i = c.self.inside in
    rw (← c.self.view_is) record { explained = c.explained_law.ensures; asks = fair_closing i.manner i.clients i.asking.slots i.ended.items (beside i.kept (map (λ s. s.0.stream) i.left.items) i.closing (map (λ f. f.0) i.looked_up.items) i.names) c.self.invariant.0 }
