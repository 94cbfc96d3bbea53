use Rattle.gateway_loop.proofs.Words.{inr, refl, prefix-refl}
use Rattle.gateway_loop.proofs.GrowLemmas.{begins_by, continues_all, noted_away, onward}
use Rattle.gateway_loop.proofs.HistoryLemmas.{goes_away, serves_on}
use Rattle.loop_model.specs.Streams.{closed_turns}
use Rattle.gateway_loop.proofs.clients.Clients.turn_away.Goals as goal

pub invariant_of-self : goal.invariant_of-self
invariant_of-self g c =
    let i = c.self.inside in
    let away = noted_away (λ w. closed_turns (g.W.Wire.peer w) (g.W.Wire.turns w)) i.unserved.items c.and-self-inside.result.items c.args.wire _ c.and-self-inside.ensures in
    serves_on i.moment i.moment _ _
    (goes_away c.loop_laws.ensures _ _ refl (closed_turns (g.W.Wire.peer c.args.wire) (g.W.Wire.turns c.args.wire)) (c.requires.given_none, c.requires.got_none) refl refl
    record { told = refl; results = refl; handed = refl; drained = refl; unserved = away }) c.self.invariant.moment_is c.self.invariant

pub returns-clause-goes : goal.returns-clause-goes
returns-clause-goes g c =
    let i = c.self.inside in
    let away = noted_away (λ w. closed_turns (g.W.Wire.peer w) (g.W.Wire.turns w)) i.unserved.items c.and-self-inside.result.items c.args.wire _ c.and-self-inside.ensures in
    rw (← c.self.view_is)
    (onward _ _ refl (continues_all _ _
    (goes_away c.loop_laws.ensures _ _ refl (closed_turns (g.W.Wire.peer c.args.wire) (g.W.Wire.turns c.args.wire)) (c.requires.given_none, c.requires.got_none) refl refl
    record { told = refl; results = refl; handed = refl; drained = refl; unserved = away }) refl refl refl (begins_by _ _ _ away) (prefix-refl _) (prefix-refl _) (prefix-refl _)))

pub returns-clause-takes : goal.returns-clause-takes
returns-clause-takes g c =
    let i = c.self.inside in
    let away = noted_away (λ w. closed_turns (g.W.Wire.peer w) (g.W.Wire.turns w)) i.unserved.items c.and-self-inside.result.items c.args.wire _ c.and-self-inside.ensures in
    rw (← c.self.view_is) record { told = refl; gone = refl; one = inr (_, c.close.ensures.closed, away, refl) }
