use Rattle.gateway_loop.proofs.Words.{◌∙◌}
use Rattle.gateway_loop.proofs.GrowLemmas.{grows_by, grows_same, no_more}
use Rattle.gateway_loop.proofs.StepLemmas.{fits_as_before, fits_sent, fits_still}
use Rattle.wires.specs.Turns.{ended_of, given_of, got_of}
use Rattle.wires.specs.lemmas.Turns.{write_makes}
use Rattle.wires.specs.declared.got.Sent.TheVariants as sent
use Rattle.gateway_loop.proofs.client.Client.send.Goals as goal

pub returns-then-is_empty-2-clause-fits : goal.returns-then-is_empty-2-clause-fits
returns-then-is_empty-2-clause-fits g c =
    let i = c.self.inside in
    let e = write_makes _ _ c.self.inside.outbox (sent.Bytes c.in-Bytes.count) c.in-Bytes.ensures.turns c.in-Bytes.ensures.within in
    rw (c.tell.ensures.same, ← c.self.view_is, c.sent.ensures)
    (fits_sent i.conn c.in-Bytes.count i.lingers (ended_of (g.W.Wire.turns i.wire)) _ (given_of (g.W.Wire.turns i.wire)) (got_of (g.W.Wire.turns i.wire)) i.outbox _ _ e.given e.got.2 e.ended)

pub returns-else-is_empty-2-clause-fits : goal.returns-else-is_empty-2-clause-fits
returns-else-is_empty-2-clause-fits g c =
    let i = c.self.inside in
    let e = write_makes _ _ c.self.inside.outbox (sent.Bytes c.in-Bytes.count) c.in-Bytes.ensures.turns c.in-Bytes.ensures.within in
    rw (← c.self.view_is, c.sent.ensures)
    (fits_sent i.conn c.in-Bytes.count i.lingers (ended_of (g.W.Wire.turns i.wire)) _ (given_of (g.W.Wire.turns i.wire)) (got_of (g.W.Wire.turns i.wire)) i.outbox _ _ e.given e.got.2 e.ended)

pub returns-then-is_empty-2-clause-grows : goal.returns-then-is_empty-2-clause-grows
returns-then-is_empty-2-clause-grows g c =
    let e = write_makes _ _ c.self.inside.outbox (sent.Bytes c.in-Bytes.count) c.in-Bytes.ensures.turns c.in-Bytes.ensures.within in
    rw (c.tell.ensures.same, ← c.self.view_is) (grows_by _ _ _ _ _ _ _ _ _ _ _ _ _ (no_more _ _ e.given) e.got.2 c.in-Bytes.ensures.reported)

pub returns-else-is_empty-2-clause-grows : goal.returns-else-is_empty-2-clause-grows
returns-else-is_empty-2-clause-grows g c =
    let e = write_makes _ _ c.self.inside.outbox (sent.Bytes c.in-Bytes.count) c.in-Bytes.ensures.turns c.in-Bytes.ensures.within in
    rw (← c.self.view_is) (grows_by _ _ _ _ _ _ _ _ _ _ _ _ _ (no_more _ _ e.given) e.got.2 c.in-Bytes.ensures.reported)

pub returns-then-is_empty-clause-fits : goal.returns-then-is_empty-clause-fits
returns-then-is_empty-clause-fits g c = fits_as_before _

pub returns-then-is_empty-clause-grows : goal.returns-then-is_empty-clause-grows
returns-then-is_empty-clause-grows g c = grows_same _

pub returns-in-Nothing-clause-fits : goal.returns-in-Nothing-clause-fits
returns-in-Nothing-clause-fits g c =
    let e = write_makes _ _ c.self.inside.outbox sent.Nothing c.in-Nothing.ensures.turns c.in-Nothing.ensures.within in
    rw (← c.self.view_is) (fits_still _ _ _ _ _ _ _ _ _ e.given e.got e.ended)

pub returns-in-Nothing-clause-grows : goal.returns-in-Nothing-clause-grows
returns-in-Nothing-clause-grows g c =
    let e = write_makes _ _ c.self.inside.outbox sent.Nothing c.in-Nothing.ensures.turns c.in-Nothing.ensures.within in
    rw (← c.self.view_is) (grows_by _ _ _ _ _ _ _ _ _ _ _ _ _ (no_more _ _ e.given) (no_more _ _ e.got) c.in-Nothing.ensures.reported)

pub returns-in-Interrupted-clause-fits : goal.returns-in-Interrupted-clause-fits
returns-in-Interrupted-clause-fits g c =
    let e = write_makes _ _ c.self.inside.outbox sent.Interrupted c.in-Interrupted.ensures.turns c.in-Interrupted.ensures.within in
    rw (← c.self.view_is) (fits_still _ _ _ _ _ _ _ _ _ e.given e.got e.ended)

pub returns-in-Interrupted-clause-grows : goal.returns-in-Interrupted-clause-grows
returns-in-Interrupted-clause-grows g c =
    let e = write_makes _ _ c.self.inside.outbox sent.Interrupted c.in-Interrupted.ensures.turns c.in-Interrupted.ensures.within in
    rw (← c.self.view_is) (grows_by _ _ _ _ _ _ _ _ _ _ _ _ _ (no_more _ _ e.given) (no_more _ _ e.got) c.in-Interrupted.ensures.reported)

pub returns-in-Failed-clause-fits : goal.returns-in-Failed-clause-fits
returns-in-Failed-clause-fits g c =
    let e = write_makes _ _ c.self.inside.outbox sent.Nothing c.in-Failed.ensures.turns c.in-Failed.ensures.within in
    rw (c.tell-in-Failed.ensures.same, ← c.self.view_is) (fits_still _ _ _ _ _ _ _ _ _ e.given e.got e.ended)

pub returns-in-Failed-clause-grows : goal.returns-in-Failed-clause-grows
returns-in-Failed-clause-grows g c =
    let e = write_makes _ _ c.self.inside.outbox sent.Nothing c.in-Failed.ensures.turns c.in-Failed.ensures.within in
    rw (c.tell-in-Failed.ensures.same, ← c.self.view_is) (grows_by _ _ _ _ _ _ _ _ _ _ _ _ _ (no_more _ _ e.given) (no_more _ _ e.got) c.in-Failed.ensures.reported)

pub invariant_of-self : goal.invariant_of-self
invariant_of-self g c = ((write_makes _ _ c.self.inside.outbox (sent.Bytes c.in-Bytes.count) c.in-Bytes.ensures.turns c.in-Bytes.ensures.within).ended ∙ c.self.invariant.0, c.in-Bytes.ensures.peer ∙ c.self.invariant.1)

pub invariant_of-self-else-is_empty-2 : goal.invariant_of-self-else-is_empty-2
invariant_of-self-else-is_empty-2 g c = ((write_makes _ _ c.self.inside.outbox (sent.Bytes c.in-Bytes.count) c.in-Bytes.ensures.turns c.in-Bytes.ensures.within).ended ∙ c.self.invariant.0, c.in-Bytes.ensures.peer ∙ c.self.invariant.1)

pub invariant_of-self-in-Failed : goal.invariant_of-self-in-Failed
invariant_of-self-in-Failed g c = ((write_makes _ _ c.self.inside.outbox sent.Nothing c.in-Failed.ensures.turns c.in-Failed.ensures.within).ended ∙ c.self.invariant.0, c.in-Failed.ensures.peer ∙ c.self.invariant.1)

pub invariant_of-self-in-Interrupted : goal.invariant_of-self-in-Interrupted
invariant_of-self-in-Interrupted g c = ((write_makes _ _ c.self.inside.outbox sent.Interrupted c.in-Interrupted.ensures.turns c.in-Interrupted.ensures.within).ended ∙ c.self.invariant.0, c.in-Interrupted.ensures.peer ∙ c.self.invariant.1)

pub invariant_of-self-in-Nothing : goal.invariant_of-self-in-Nothing
invariant_of-self-in-Nothing g c = ((write_makes _ _ c.self.inside.outbox sent.Nothing c.in-Nothing.ensures.turns c.in-Nothing.ensures.within).ended ∙ c.self.invariant.0, c.in-Nothing.ensures.peer ∙ c.self.invariant.1)
