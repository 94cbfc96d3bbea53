use Rattle.gateway_connection.specs.lemmas.Names.{◌∙◌, [], ap, is_some, broke, broken_held, ended_held, held_by, refl, sym, subst, true, HungUp, told, hung_held, HeldConnection, LeavesRest, MayStep, over_by}
use Rattle.gateway_theory.specs.Held.{ended_entry, hung, unnoticed}
use Rattle.gateway_connection.proofs.HoldsLemmas.{holds_as}
use Rattle.gateway_connection.proofs.LentLemmas.{rest_none}
use Rattle.gateway_connection.proofs.StreamLemmas.{hung_may, hung_rest}
use Rattle.gateway_connection.proofs.connection.Connection.hang_up.Goals as goal

pub end_calls-requires-clause-may : goal.end_calls-requires-clause-may
end_calls-requires-clause-may g c =
    subst (λ (k : HeldConnection). MayStep (over_by (HungUp k.number)) (hung_held k) (record c.args.shared.now { contexts = c.tell.new.self })) (sym c.self.view_is)
    (hung_may c.args.self.now c.args.shared.now c.tell.new.self c.requires.may (c.tell.ensures.ended ∙ ap (λ (k : HeldConnection). told (HungUp k.number) c.args.shared.now.contexts.standing) c.self.view_is) c.tell.ensures.hooks)

pub returns-then-end_calls-clause-rest : goal.returns-then-end_calls-clause-rest
returns-then-end_calls-clause-rest g c =
    hung_rest c.args.self.now c.end_calls.new.self c.args.shared.now c.end_calls.new.shared c.tell.new.self (c.tell.ensures.ended ∙ ap (λ (k : HeldConnection). told (HungUp k.number) c.args.shared.now.contexts.standing) c.self.view_is)
    c.tell.ensures.hooks (subst (λ k. LeavesRest [] k c.end_calls.new.self (record c.args.shared.now { contexts = c.tell.new.self }) c.end_calls.new.shared) (ap hung_held c.self.view_is) c.if-end_calls.ensures.rest)

pub returns-clause-rest : goal.returns-clause-rest
returns-clause-rest g c =
    hung_rest c.args.self.now c.end_calls.new.self c.args.shared.now c.end_calls.new.shared c.tell.new.self (c.tell.ensures.ended ∙ ap (λ (k : HeldConnection). told (HungUp k.number) c.args.shared.now.contexts.standing) c.self.view_is)
    c.tell.ensures.hooks (subst (λ k. LeavesRest [] k c.end_calls.new.self (record c.args.shared.now { contexts = c.tell.new.self }) c.end_calls.new.shared) (ap hung_held c.self.view_is) c.if-end_calls.ensures.rest)

pub returns-then-not-is_listening-clause-rest : goal.returns-then-not-is_listening-clause-rest
returns-then-not-is_listening-clause-rest g c = rest_none c.args.self.now c.args.shared.now

pub invariant_of-self : goal.invariant_of-self
invariant_of-self g c = (
  c.self.invariant.0,
  holds_as (held_by c.self.inside.number c.self.inside.taken c.self.inside.slots.items c.self.inside.calls.items c.self.inside.broken c.self.inside.closed c.self.inside.hung_up c.self.inside.reader)
      (held_by c.self.inside.number c.self.inside.taken c.self.inside.slots.items c.self.inside.calls.items c.self.inside.broken c.self.inside.closed true c.self.inside.reader)
      refl refl refl refl refl c.self.invariant.1,
)

pub returns-then-not-is_listening-clause-hangs : goal.returns-then-not-is_listening-clause-hangs
returns-then-not-is_listening-clause-hangs g c = unnoticed (sym c.is_listening.ensures ∙ c.if-not-is_listening.true) refl refl

pub returns-then-end_calls-clause-hangs : goal.returns-then-end_calls-clause-hangs
returns-then-end_calls-clause-hangs g c =
    let e = c.if-end_calls.ensures.ends.2 in
    broke (sym c.is_listening.ensures ∙ c.if-not-is_listening.false)
    (record { request = e.request; ends = ap (λ (k : HeldConnection). is_some (ended_entry (HungUp k.number) k e.request)) (sym c.self.view_is) ∙ e.ends }) refl
    (c.if-end_calls.ensures.ends.3 ∙ ap (λ (k : HeldConnection). broken_held (hung_held k)) c.self.view_is)

pub returns-clause-hangs : goal.returns-clause-hangs
returns-clause-hangs g c = hung (sym c.is_listening.ensures ∙ c.if-not-is_listening.false) refl (c.if-end_calls.ensures.ends ∙ ap (λ (k : HeldConnection). ended_held (HungUp k.number) (hung_held k)) c.self.view_is)

pub returns-clause-begun : goal.returns-clause-begun
returns-clause-begun g c = c.if-end_calls.ensures.begun

pub returns-clause-tied : goal.returns-clause-tied
returns-clause-tied g c = c.if-end_calls.ensures.tied

pub returns-then-end_calls-clause-begun : goal.returns-then-end_calls-clause-begun
returns-then-end_calls-clause-begun g c = c.if-end_calls.ensures.begun

pub returns-then-end_calls-clause-tied : goal.returns-then-end_calls-clause-tied
returns-then-end_calls-clause-tied g c = c.if-end_calls.ensures.tied

pub returns-then-not-is_listening-clause-tied : goal.returns-then-not-is_listening-clause-tied
returns-then-not-is_listening-clause-tied g c = c.requires.may.tied
