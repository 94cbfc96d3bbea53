use Rattle.gateway_loop.proofs.Words.{beside, map}
use Rattle.gateway_loop.proofs.AskLemmas.{goes_gone}
use Rattle.gateway_loop.proofs.FairLemmas.{keeps_clients}
use Rattle.gateway_loop.proofs.event_loop.EventLoop.let_go.Goals as goal

pub returns-clause-goes : goal.returns-clause-goes
returns-clause-goes g c = rw (← c.self.view_is) (goes_gone c.self.inside.manner c.self.inside.asking.slots c.self.inside.ended.items (beside c.self.inside.kept (map (λ s. s.0.stream) c.self.inside.left.items) c.self.inside.closing (map (λ f. f.0) c.self.inside.looked_up.items) c.self.inside.names) _ _ c.let_go.ensures.goes c.let_go.ensures.leaves)

pub returns-clause-fewer : goal.returns-clause-fewer
returns-clause-fewer g c = rw (← c.self.view_is) c.let_go.ensures.fewer

pub invariant_of-self : goal.invariant_of-self
invariant_of-self g c = keeps_clients c.self.inside.manner c.self.inside.kept (map (λ s. s.0.stream) c.self.inside.left.items) (map (λ f. f.0) c.self.inside.looked_up.items) c.self.inside.clients c.let_go.new.self c.self.inside.asking.slots c.self.inside.ended.items c.let_go.ensures.hands c.self.invariant
