use Rattle.gateway_core.proofs.Names.{sym, subst, ap, ◌∙◌, ℕ, ◌≡◌, gateway_of, is_due, shown}
use Rattle.gateway_core.proofs.DueLemmas.{held_least, least_is}
use Rattle.gateway_core.proofs.StepLemmas.{numbered}
use Rattle.gateway_theory.specs.Values.{moment_after}
use Rattle.gateway_core.proofs.gateway.Core.next_deadline.Goals as goal

pub returns-clause-least : goal.returns-clause-least
returns-clause-least g c =
    let v = gateway_of c.self.inside.shared c.self.inside.conns.entries c.self.inside.opened c.self.inside.tally in
    let each = numbered c.self.inside.shared c.self.inside.conns.entries c.self.inside.opened c.self.inside.tally c.self.invariant.serving in
    subst (λ x. c.next_deadline.result ≡ (shown x).deadline) c.self.view_is
    (c.next_deadline.ensures ∙ least_is c.self.inside.shared.contexts c.self.inside.conns.entries c.self.invariant.serving.sorted each c.self.invariant.fit.tied ∙ held_least v c.self.invariant.serving)

pub returns-clause-quiet : goal.returns-clause-quiet
returns-clause-quiet g c =
    let v = gateway_of c.self.inside.shared c.self.inside.conns.entries c.self.inside.opened c.self.inside.tally in
    let each = numbered c.self.inside.shared c.self.inside.conns.entries c.self.inside.opened c.self.inside.tally c.self.invariant.serving in
    let least : c.next_deadline.result ≡ (shown v).deadline =
    c.next_deadline.ensures ∙ least_is c.self.inside.shared.contexts c.self.inside.conns.entries c.self.invariant.serving.sorted each c.self.invariant.fit.tied ∙ held_least v c.self.invariant.serving in
    subst (λ x. (m : ℕ) → (shown x).ends_calls m ≡ is_due (moment_after x.moment m) c.next_deadline.result) c.self.view_is
    (λ m. ap (is_due (moment_after v.moment m)) (sym least))
