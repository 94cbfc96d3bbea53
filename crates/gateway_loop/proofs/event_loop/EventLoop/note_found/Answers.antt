use Rattle.gateway_loop.proofs.Words.{beside, map, Contains-push, FoundValue, subst, sym, List, Contains}
use Rattle.gateway_loop.proofs.AskLemmas.{admits_found}
use Rattle.gateway_loop.proofs.FairLemmas.{fair_found}
use Rattle.gateway_loop.proofs.GrowLemmas.{noted}
use Rattle.gateway_loop.proofs.event_loop.EventLoop.note_found.Goals as goal

pub invariant_of-self : goal.invariant_of-self
invariant_of-self g c =
    let i = c.self.inside in
    fair_found i.manner i.kept (map (λ s. s.0.stream) i.left.items) i.clients i.asking.slots i.ended.items (map (λ f. f.0) i.looked_up.items) (map (λ f. f.0) c.and-self-inside.result.items) c.args.looked_up.now
    (noted i.looked_up.items c.and-self-inside.result.items _ _ c.and-self-inside.ensures) c.self.invariant

pub returns-clause-goes : goal.returns-clause-goes
returns-clause-goes g c =
    let i = c.self.inside in
    rw (← c.self.view_is)
    (λ a. admits_found i.manner i.clients i.asking.slots i.ended.items (beside i.kept (map (λ s. s.0.stream) i.left.items) i.closing (map (λ f. f.0) i.looked_up.items) i.names) (map (λ f. f.0) c.and-self-inside.result.items) c.found.new.self c.args.looked_up.now
    (noted i.looked_up.items c.and-self-inside.result.items _ _ c.and-self-inside.ensures) (rw c.name.ensures at c.found.ensures) a)

pub returns-clause-there : goal.returns-clause-there
returns-clause-there g c =
    let i = c.self.inside in
    subst (λ (l : List FoundValue). Contains l c.args.looked_up.now) (sym (noted i.looked_up.items c.and-self-inside.result.items _ _ c.and-self-inside.ensures)) (Contains-push (map (λ f. f.0) i.looked_up.items) c.args.looked_up.now)
