use Rattle.gateway_loop.proofs.Words.{None, ◌∙◌, refl, take, HangUp, Piece}
use Rattle.gateway_loop.proofs.GrowLemmas.{grows_by, no_more}
use Rattle.gateway_loop.proofs.LeadLemmas.{hang_up_elsewhere, piece_elsewhere}
use Rattle.gateway_loop.proofs.StepLemmas.{fits_dropped, fits_hang_up, fits_over, fits_piece, fits_still, steps_event, steps_fit}
use Rattle.wires.specs.Turns.{ended_of, given_of, got_of}
use Rattle.wires.specs.lemmas.Turns.{read_makes}
use Rattle.wires.specs.declared.got.Got.TheVariants as got
use Rattle.gateway_loop.proofs.client.Client.read.Goals as goal

pub returns-else-self-2-clause-steps : goal.returns-else-self-2-clause-steps
returns-else-self-2-clause-steps g c =
    let i = c.self.inside in
    let e = read_makes _ _ c.read.new.piece (got.Bytes c.in-Bytes.count) c.in-Bytes.ensures.turns c.in-Bytes.ensures.within in
    let bytes = take c.in-Bytes.count c.read.new.piece in
    rw (← c.self.view_is)
    (steps_event c.args.core.now c.take_in.new.core _ _ (Piece i.conn bytes) c.take_in.ensures.plans refl c.take_in.ensures.stands c.take_in.ensures.adds
    (fits_piece i.conn c.in-Bytes.count i.lingers (ended_of (g.W.Wire.turns i.wire)) _ (given_of (g.W.Wire.turns i.wire)) (got_of (g.W.Wire.turns i.wire)) i.outbox _ _ c.read.new.piece c.if-self-2.false e.given.2 e.got e.ended
    (c.self.invariant.0 ∙ c.if-self.false)) (λ d off. piece_elsewhere i.conn bytes d off) refl refl refl refl)

pub returns-then-self-2-clause-steps : goal.returns-then-self-2-clause-steps
returns-then-self-2-clause-steps g c =
    let i = c.self.inside in
    let e = read_makes _ _ c.read.new.piece (got.Bytes c.in-Bytes.count) c.in-Bytes.ensures.turns c.in-Bytes.ensures.within in
    rw (← c.self.view_is)
    (steps_fit _ _ _ (fits_dropped i.conn c.in-Bytes.count i.lingers (ended_of (g.W.Wire.turns i.wire)) _ (given_of (g.W.Wire.turns i.wire)) (got_of (g.W.Wire.turns i.wire)) i.outbox _ _ c.read.new.piece c.if-self-2.true e.given.2 e.got e.ended))

pub returns-else-self-3-clause-steps : goal.returns-else-self-3-clause-steps
returns-else-self-3-clause-steps g c =
    let i = c.self.inside in
    let e = read_makes _ _ c.read.new.piece (got.End None) c.in-End.ensures.turns c.in-End.ensures.within in
    rw (← c.self.view_is)
    (steps_event c.args.core.now c.hang_up.new.core _ _ (HangUp i.conn) c.hang_up.ensures.plans refl c.hang_up.ensures.stands c.hang_up.ensures.adds
    (fits_hang_up i.conn i.lingers (ended_of (g.W.Wire.turns i.wire)) _ (given_of (g.W.Wire.turns i.wire)) (got_of (g.W.Wire.turns i.wire)) i.outbox _ _ c.if-self-3.false e.given e.got e.ended)
    (λ d off. hang_up_elsewhere i.conn d off) refl refl refl refl)

pub returns-then-self-3-clause-steps : goal.returns-then-self-3-clause-steps
returns-then-self-3-clause-steps g c =
    let i = c.self.inside in
    let e = read_makes _ _ c.read.new.piece (got.End None) c.in-End.ensures.turns c.in-End.ensures.within in
    rw (← c.self.view_is)
    (steps_fit _ _ _ (fits_over i.conn i.lingers (ended_of (g.W.Wire.turns i.wire)) _ (given_of (g.W.Wire.turns i.wire)) (got_of (g.W.Wire.turns i.wire)) i.outbox _ _ c.if-self-3.true e.given e.got e.ended))

pub returns-in-Nothing-clause-steps : goal.returns-in-Nothing-clause-steps
returns-in-Nothing-clause-steps g c =
    let e = read_makes _ _ c.read.new.piece got.Nothing c.in-Nothing.ensures.turns c.in-Nothing.ensures.within in
    rw (← c.self.view_is) (steps_fit _ _ _ (fits_still _ _ _ _ _ _ _ _ _ e.given e.got e.ended))

pub returns-in-Interrupted-clause-steps : goal.returns-in-Interrupted-clause-steps
returns-in-Interrupted-clause-steps g c =
    let e = read_makes _ _ c.read.new.piece got.Interrupted c.in-Interrupted.ensures.turns c.in-Interrupted.ensures.within in
    rw (← c.self.view_is) (steps_fit _ _ _ (fits_still _ _ _ _ _ _ _ _ _ e.given e.got e.ended))

pub returns-then-self-2-clause-grows : goal.returns-then-self-2-clause-grows
returns-then-self-2-clause-grows g c =
    let e = read_makes _ _ c.read.new.piece (got.Bytes c.in-Bytes.count) c.in-Bytes.ensures.turns c.in-Bytes.ensures.within in
    rw (← c.self.view_is) (grows_by _ _ _ _ _ _ _ _ _ _ _ _ _ e.given.2 (no_more _ _ e.got) c.in-Bytes.ensures.reported)

pub returns-else-self-2-clause-grows : goal.returns-else-self-2-clause-grows
returns-else-self-2-clause-grows g c =
    let e = read_makes _ _ c.read.new.piece (got.Bytes c.in-Bytes.count) c.in-Bytes.ensures.turns c.in-Bytes.ensures.within in
    rw (← c.self.view_is) (grows_by _ _ _ _ _ _ _ _ _ _ _ _ _ e.given.2 (no_more _ _ e.got) c.in-Bytes.ensures.reported)

pub returns-in-Nothing-clause-grows : goal.returns-in-Nothing-clause-grows
returns-in-Nothing-clause-grows g c =
    let e = read_makes _ _ c.read.new.piece got.Nothing c.in-Nothing.ensures.turns c.in-Nothing.ensures.within in
    rw (← c.self.view_is) (grows_by _ _ _ _ _ _ _ _ _ _ _ _ _ (no_more _ _ e.given) (no_more _ _ e.got) c.in-Nothing.ensures.reported)

pub returns-in-Interrupted-clause-grows : goal.returns-in-Interrupted-clause-grows
returns-in-Interrupted-clause-grows g c =
    let e = read_makes _ _ c.read.new.piece got.Interrupted c.in-Interrupted.ensures.turns c.in-Interrupted.ensures.within in
    rw (← c.self.view_is) (grows_by _ _ _ _ _ _ _ _ _ _ _ _ _ (no_more _ _ e.given) (no_more _ _ e.got) c.in-Interrupted.ensures.reported)

pub returns-else-self-3-clause-grows : goal.returns-else-self-3-clause-grows
returns-else-self-3-clause-grows g c =
    let e = read_makes _ _ c.read.new.piece (got.End None) c.in-End.ensures.turns c.in-End.ensures.within in
    rw (← c.self.view_is) (grows_by _ _ _ _ _ _ _ _ _ _ _ _ _ (no_more _ _ e.given) (no_more _ _ e.got) c.in-End.ensures.reported)

pub returns-then-self-3-clause-grows : goal.returns-then-self-3-clause-grows
returns-then-self-3-clause-grows g c =
    let e = read_makes _ _ c.read.new.piece (got.End None) c.in-End.ensures.turns c.in-End.ensures.within in
    rw (← c.self.view_is) (grows_by _ _ _ _ _ _ _ _ _ _ _ _ _ (no_more _ _ e.given) (no_more _ _ e.got) c.in-End.ensures.reported)
