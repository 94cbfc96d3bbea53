use Rattle.gateway_loop.proofs.Words.{[], beside, map, ◌∙◌}
use Rattle.gateway_loop.proofs.AccountLemmas.{done_then}
use Rattle.gateway_loop.proofs.AskLemmas.{drains_so, goes_then}
use Rattle.gateway_loop.proofs.FairLemmas.{keeps_clients}
use Rattle.gateway_loop.proofs.event_loop.EventLoop.drain.Goals as goal

pub returns-clause-continues : goal.returns-clause-continues
returns-clause-continues g c =
    let i = c.self.inside in
    let later = goes_then _ _ _ (rw c.keep_no_more.ensures at c.close_kept.ensures.goes) c.look_at_all.ensures.goes in
    rw (← c.self.view_is) (later.on _ (drains_so i.manner i.asking.slots i.ended.items (beside i.kept (map (λ s. s.0.stream) i.left.items) i.closing (map (λ f. f.0) i.looked_up.items) i.names) _ _ c.drain.ensures.continues c.drain.ensures.still).0)

pub returns-clause-accounts : goal.returns-clause-accounts
returns-clause-accounts g c =
    let i = c.self.inside in
    let later = goes_then _ _ _ (rw c.keep_no_more.ensures at c.close_kept.ensures.goes) c.look_at_all.ensures.goes in
    rw (← c.self.view_is)
    (done_then 0 0 [] [] _ _ _
    ((drains_so i.manner i.asking.slots i.ended.items (beside i.kept (map (λ s. s.0.stream) i.left.items) i.closing (map (λ f. f.0) i.looked_up.items) i.names) _ _ c.drain.ensures.continues c.drain.ensures.still).1 _)
    later.accounts)

pub returns-clause-drained : goal.returns-clause-drained
returns-clause-drained g c =
    let later = goes_then _ _ _ (rw c.keep_no_more.ensures at c.close_kept.ensures.goes) c.look_at_all.ensures.goes in
    later.drained ∙ c.drain.ensures.drained

pub invariant_of-self : goal.invariant_of-self
invariant_of-self g c =
    let i = c.self.inside in
    keeps_clients i.manner i.kept (map (λ s. s.0.stream) i.left.items) (map (λ f. f.0) i.looked_up.items) i.clients c.drain.new.self i.asking.slots i.ended.items c.drain.ensures.hands c.self.invariant
