use Rattle.branch_asking.proofs.Words.{Some, refl, sym, ◌∙◌}
use Rattle.branch_asking.proofs.BegunLemmas.{asks_grown, begun_ends, begun_on}
use Rattle.branch_asking.proofs.asking.Asking.step.Goals as goal

pub invariant_of-self : goal.invariant_of-self
invariant_of-self g c =
    let i = c.self.inside in
    begun_on i.manner i.job i.addresses i.attempt c.step-step.new.self i.end i.tried.items (sym c.is_some.ensures ∙ c.if-is_some.false) c.step-step.ensures.grows
    (λ a. c.in-Waits.ensures.steps _ _ a) c.self.invariant

pub invariant_of-self-in-More : goal.invariant_of-self-in-More
invariant_of-self-in-More g c =
    let i = c.self.inside in
    begun_on i.manner i.job i.addresses i.attempt c.step-step.new.self i.end i.tried.items (sym c.is_some.ensures ∙ c.if-is_some.false) c.step-step.ensures.grows
    (λ a. c.in-More.ensures.steps _ _ a) c.self.invariant

pub invariant_of-self-in-Refused : goal.invariant_of-self-in-Refused
invariant_of-self-in-Refused g c =
    let i = c.self.inside in
    begun_on i.manner i.job i.addresses i.attempt c.step-step.new.self i.end i.tried.items (sym c.is_some.ensures ∙ c.if-is_some.false) c.step-step.ensures.grows
    (λ a. (c.in-Refused.ensures.steps _ _ a).0) c.self.invariant

pub invariant_of-self-in-Ended : goal.invariant_of-self-in-Ended
invariant_of-self-in-Ended g c =
    let i = c.self.inside in
    begun_ends i.manner i.job i.addresses i.attempt c.step-step.new.self i.end _ c.in-Ended.end i.tried.items (sym c.is_some.ensures ∙ c.if-is_some.false) refl
    c.step-step.ensures.grows (λ a. c.in-Ended.ensures.steps _ _ a) c.self.invariant

pub returns-in-Waits-clause-on : goal.returns-in-Waits-clause-on
returns-in-Waits-clause-on g c =
    let i = c.self.inside in
    rw (← c.self.view_is) (asks_grown i.manner i.job i.addresses i.attempt c.step-step.new.self i.end _ i.tried.items c.step-step.ensures.grows)

pub returns-in-More-clause-on : goal.returns-in-More-clause-on
returns-in-More-clause-on g c =
    let i = c.self.inside in
    rw (← c.self.view_is) (asks_grown i.manner i.job i.addresses i.attempt c.step-step.new.self i.end _ i.tried.items c.step-step.ensures.grows)

pub returns-in-Refused-clause-on : goal.returns-in-Refused-clause-on
returns-in-Refused-clause-on g c =
    let i = c.self.inside in
    rw (← c.self.view_is) (asks_grown i.manner i.job i.addresses i.attempt c.step-step.new.self i.end _ i.tried.items c.step-step.ensures.grows)

pub returns-in-Ended-clause-on : goal.returns-in-Ended-clause-on
returns-in-Ended-clause-on g c =
    let i = c.self.inside in
    rw (← c.self.view_is) (asks_grown i.manner i.job i.addresses i.attempt c.step-step.new.self i.end (Some c.in-Ended.end) i.tried.items c.step-step.ensures.grows)
