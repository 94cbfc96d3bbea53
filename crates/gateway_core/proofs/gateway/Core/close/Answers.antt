use Rattle.gateway_core.proofs.Names.{sym, subst, ap, ◌∙◌, refl, true, false, arith, [], ◌≡◌, ◌-◌, one_if_open, closed_held, absent, shut, closes_serving, gateway_of, is_at, set_value, nat_cmp, LeavesRest, none_over, IsTied, if◌then◌else◌}
use Rattle.gateway_theory.specs.lemmas.HeldSteps.{holds_closed}
use Rattle.gateway_core.proofs.StepLemmas.{at_both, closes_step, left_out, left_whole, may_step, moves_left, one_open, same_is, same_whole}
use Rattle.gateway_core.proofs.ClauseLemmas.{Closed, closed_by}
use Rattle.gateway_core.proofs.gateway.Core.close.Goals as goal

pub close-requires : goal.close-requires
close-requires g c = (may_step c.self.invariant c.number-number.result c.in-Some.held.now c.in-Some.ensures.value).waits

pub overflow_sub-self : goal.overflow_sub-self
overflow_sub-self g c = one_open c.self.inside.shared c.self.inside.conns.entries c.self.inside.opened c.self.inside.open c.self.inside.tally c.number-number.result c.in-Some.held.now c.self.invariant c.in-Some.ensures.value (sym c.is_closed.ensures ∙ c.if-is_closed.false)

pub invariant_of-self-then-is_closed : goal.invariant_of-self-then-is_closed
invariant_of-self-then-is_closed g c = same_whole c.self.inside.shared c.self.inside.conns.entries (c.get_mut.follows.lender c.in-Some.held.now).entries c.self.inside.opened c.self.inside.open c.self.inside.tally (same_is c.number-number.result c.in-Some.held.now c.self.inside.conns.entries (c.get_mut.follows.lender c.in-Some.held.now).entries c.in-Some.ensures.value (c.get_mut.follows.holds c.in-Some.held.now).0) c.self.invariant

pub invariant_of-self-2 : goal.invariant_of-self-2
invariant_of-self-2 g c =
    let set = (c.get_mut.follows.holds c.close.new.self).0 ∙ ap (λ m. set_value (is_at (nat_cmp c.number-number.result)) c.self.inside.conns.entries m) c.close.ensures.closed in
    let left = left_out c.number-number.result c.in-Some.held.now (closed_held c.in-Some.held.now) c.self.inside.conns.entries (c.get_mut.follows.lender c.close.new.self).entries c.remove_gone.new.conns.entries
    c.in-Some.ensures.value set c.remove_gone.ensures in
    let some = one_open c.self.inside.shared c.self.inside.conns.entries c.self.inside.opened c.self.inside.open c.self.inside.tally c.number-number.result c.in-Some.held.now c.self.invariant c.in-Some.ensures.value (sym c.is_closed.ensures ∙ c.if-is_closed.false) in
    let one : one_if_open c.in-Some.held.now ≡ 1 = ap (λ b. if b then 0 else 1) (sym c.is_closed.ensures ∙ c.if-is_closed.false) in
    left_whole c.self.invariant c.number-number.result c.in-Some.held.now (closed_held c.in-Some.held.now) c.in-Some.ensures.value set left c.close.new.shared [] c.self.inside.tally (c.self.inside.open - 1) (subst (λ m. LeavesRest [] c.in-Some.held.now m c.self.inside.shared c.close.new.shared) c.close.ensures.closed c.close.ensures.rest) (subst (λ m. IsTied none_over m c.close.new.shared.contexts) c.close.ensures.closed c.close.ensures.tied) refl
    (holds_closed c.in-Some.held.now (c.self.invariant.serving.each c.number-number.result c.in-Some.held.now (sym c.in-Some.ensures.value)).holds) (omega (arith, some, one))
    (closes_serving c.number-number.result (gateway_of c.self.inside.shared c.self.inside.conns.entries c.self.inside.opened c.self.inside.tally) (gateway_of c.close.new.shared c.remove_gone.new.conns.entries c.self.inside.opened c.self.inside.tally) true (closes_step c.self.inside.shared c.close.new.shared c.self.inside.conns.entries c.remove_gone.new.conns.entries c.self.inside.opened c.self.inside.tally c.number-number.result c.in-Some.held.now c.in-Some.ensures.value (sym c.is_closed.ensures ∙ c.if-is_closed.false) (moves_left c.self.invariant c.number-number.result c.in-Some.held.now (closed_held c.in-Some.held.now) c.in-Some.ensures.value set left c.close.new.shared c.self.inside.tally) (subst (λ m. LeavesRest [] c.in-Some.held.now m c.self.inside.shared c.close.new.shared) c.close.ensures.closed c.close.ensures.rest) c.close.ensures.begun) c.self.invariant.serving)

pub returns-in_default : goal.returns-in_default
returns-in_default g c =
    let w = gateway_of c.self.inside.shared c.get_mut.follows.lender-at-none.entries c.self.inside.opened c.self.inside.tally in
    let all = at_both (λ m x. Closed m false x w) c.number-number.ensures c.self.view_is (closed_by c.self.invariant.serving (absent (sym c.in_default.ensures.value) refl (ap (λ m. gateway_of c.self.inside.shared m.entries c.self.inside.opened c.self.inside.tally) c.get_mut.follows.holds-at-none))) in
    record { stands = all.stands; adds = all.adds; closed = all.closed; keeps = all.keeps }

pub returns-then-is_closed : goal.returns-then-is_closed
returns-then-is_closed g c =
    let w = gateway_of c.self.inside.shared (c.get_mut.follows.lender c.in-Some.held.now).entries c.self.inside.opened c.self.inside.tally in
    let all = at_both (λ m x. Closed m false x w) c.number-number.ensures c.self.view_is (closed_by c.self.invariant.serving (shut c.in-Some.held.now (sym c.in-Some.ensures.value) (sym c.is_closed.ensures ∙ c.if-is_closed.true) refl (ap (λ es. gateway_of c.self.inside.shared es c.self.inside.opened c.self.inside.tally) (same_is c.number-number.result c.in-Some.held.now c.self.inside.conns.entries (c.get_mut.follows.lender c.in-Some.held.now).entries c.in-Some.ensures.value (c.get_mut.follows.holds c.in-Some.held.now).0)))) in
    record { stands = all.stands; adds = all.adds; closed = all.closed; keeps = all.keeps }

pub returns : goal.returns
returns g c =
    let set = (c.get_mut.follows.holds c.close.new.self).0 ∙ ap (λ m. set_value (is_at (nat_cmp c.number-number.result)) c.self.inside.conns.entries m) c.close.ensures.closed in
    let left = left_out c.number-number.result c.in-Some.held.now (closed_held c.in-Some.held.now) c.self.inside.conns.entries (c.get_mut.follows.lender c.close.new.self).entries c.remove_gone.new.conns.entries
    c.in-Some.ensures.value set c.remove_gone.ensures in
    let w = gateway_of c.close.new.shared c.remove_gone.new.conns.entries c.self.inside.opened c.self.inside.tally in
    let all = at_both (λ m x. Closed m true x w) c.number-number.ensures c.self.view_is (closed_by c.self.invariant.serving (closes_step c.self.inside.shared c.close.new.shared c.self.inside.conns.entries c.remove_gone.new.conns.entries c.self.inside.opened c.self.inside.tally c.number-number.result c.in-Some.held.now c.in-Some.ensures.value (sym c.is_closed.ensures ∙ c.if-is_closed.false) (moves_left c.self.invariant c.number-number.result c.in-Some.held.now (closed_held c.in-Some.held.now) c.in-Some.ensures.value set left c.close.new.shared c.self.inside.tally) (subst (λ m. LeavesRest [] c.in-Some.held.now m c.self.inside.shared c.close.new.shared) c.close.ensures.closed c.close.ensures.rest) c.close.ensures.begun)) in
    record { stands = all.stands; adds = all.adds; closed = all.closed; keeps = all.keeps }
