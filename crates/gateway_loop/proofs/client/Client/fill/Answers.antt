use Rattle.gateway_loop.proofs.Words.{◌≡◌, [], refl, rules, sym, ap, ◌∙◌, None, Some, ClientValue}
use Rattle.gateway_loop.proofs.GrowLemmas.{grows_by, grows_same, no_more}
use Rattle.gateway_loop.proofs.StepLemmas.{fits_no_reply, fits_reply, steps_reply, steps_same}
use Rattle.wires.specs.Turns.{ended_of, given_of, got_of}
use Rattle.gateway_loop.proofs.client.Client.fill.Goals as goal

pub returns-clause-steps : goal.returns-clause-steps
returns-clause-steps g c =
    let i = c.self.inside in
    let none : i.outbox ≡ [] = c.is_empty.ensures.0 (search rules) in
    let not_left = ap (λ (x : ClientValue). x.lingers) c.self.view_is ∙ sym c.lingers.ensures ∙ c.if-lingers.false in
    rw (← c.self.view_is)
    (steps_reply c.args.core.now c.take_reply.new.self _ _ (Some c.in-Some.reply) c.in-Some.ensures.only.plans_are refl c.in-Some.ensures.stands c.in-Some.ensures.lives
    (fits_reply i.conn i.lingers (ended_of (g.W.Wire.turns i.wire)) (given_of (g.W.Wire.turns i.wire)) (got_of (g.W.Wire.turns i.wire)) i.outbox c.of.result c.in-Some.reply not_left none (c.of.ensures ∙ c.into_parts-id.ensures.bytes)))

pub returns-clause-grows : goal.returns-clause-grows
returns-clause-grows g c = rw (← c.self.view_is) (grows_by _ _ _ _ _ _ _ _ _ _ _ _ _ (no_more _ _ refl) (no_more _ _ refl) refl)

pub returns-then-lingers-clause-steps : goal.returns-then-lingers-clause-steps
returns-then-lingers-clause-steps g c = steps_same _ _

pub returns-then-lingers-clause-grows : goal.returns-then-lingers-clause-grows
returns-then-lingers-clause-grows g c = grows_same _

pub returns-in_default-clause-steps : goal.returns-in_default-clause-steps
returns-in_default-clause-steps g c =
    rw (← c.self.view_is)
    (steps_reply c.args.core.now c.take_reply.new.self _ _ None c.in_default.ensures.only.plans_are refl c.in_default.ensures.stands
    c.in_default.ensures.lives (fits_no_reply c.self.inside.conn _))

pub returns-in_default-clause-grows : goal.returns-in_default-clause-grows
returns-in_default-clause-grows g c = grows_same _
