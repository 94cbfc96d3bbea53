use Rattle.gateway_loop.proofs.Words.{◌≤◌, ℕ, asked_for, inr, subst, whole_loop, beside, map}
use Rattle.gateway_loop.proofs.RestLemmas.{as_many, none_waits}
use Rattle.gateway_loop.proofs.event_loop.EventLoop.may_begin.Goals as goal

pub returns-then-len-ge-MOST_EXCHANGES : goal.returns-then-len-ge-MOST_EXCHANGES
returns-then-len-ge-MOST_EXCHANGES g c =
    rw (← c.self.view_is)
    (λ full. inr (as_many asked_for c.self.inside.asking.slots 1024 (subst (λ (n : ℕ). 1024 ≤ n) c.len.ensures c.if-len-ge-MOST_EXCHANGES.true)))

pub returns : goal.returns
returns g c =
    let i = c.self.inside in
    rw (← c.self.view_is) (λ none. none_waits (whole_loop i.manner i.clients i.asking.slots i.ended.items (beside i.kept (map (λ s. s.0.stream) i.left.items) i.closing (map (λ f. f.0) i.looked_up.items) i.names)) c.core.result.now c.waiting_jobs.result c.core.ensures c.waiting_jobs.ensures none)
