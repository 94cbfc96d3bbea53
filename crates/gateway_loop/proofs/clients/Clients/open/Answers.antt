use Rattle.gateway_loop.proofs.Words.{◌≡◌, List, Option, Some, ap, inl, refl, sym, subst, ◌∙◌, Slab, ClientValue, at}
use Rattle.gateway_loop.proofs.CountLemmas.{there_comes}
use Rattle.gateway_loop.proofs.GrowLemmas.{continues_come, onward}
use Rattle.gateway_loop.proofs.HistoryLemmas.{goes_comes, serves_on}
use Rattle.gateway_loop.proofs.Places.{Put, put_one}
use Rattle.wires.specs.Turns.{ended_of, given_of, got_of}
use Rattle.gateway_loop.proofs.clients.Clients.open.Goals as goal

pub invariant_of-self-2 : goal.invariant_of-self-2
invariant_of-self-2 g c =
    let i = c.self.inside in
    let put = c.insert_reserved-place in
    let parts = c.into_parts-wire in
    let slots : c.reserve.new.self.slots ≡ i.clients.slots = ap (λ (s : Slab ClientValue). s.slots) c.reserve.ensures.rest_kept in
    let puts = subst (λ (old : List (Option ClientValue)). Put old put.new.self.slots put.result (Some c.new.result)) slots (put_one c.reserve.new.self put.new.self put.result (Some c.new.result) put.ensures.updates) in
    serves_on i.moment i.moment _ _ (goes_comes c.loop_laws.ensures _ _ c.open_conn.ensures.keeps.plans_are put.result c.in-Ok.conn
    (given_of (g.W.Wire.turns parts.result.0)) (got_of (g.W.Wire.turns parts.result.0)) (ended_of (g.W.Wire.turns parts.result.0)) (g.W.Wire.reads parts.result.0) (g.W.Wire.writes parts.result.0) (g.W.Wire.watched parts.result.0) (g.W.Wire.reported parts.result.0) c.in-Ok.ensures.number parts.ensures.given_none parts.ensures.got_none parts.ensures.goes_on c.in-Ok.ensures.stands c.in-Ok.ensures.adds
    (sym (ap (λ (old : List (Option ClientValue)). at put.result old) slots) ∙ put.ensures.was_vacant) (subst (λ (y : ClientValue). Put i.clients.slots put.new.self.slots put.result (Some y)) c.new.ensures puts) refl record { told = refl; results = refl; handed = refl; drained = refl; unserved = refl }) c.self.invariant.moment_is c.self.invariant

pub returns-clause-goes : goal.returns-clause-goes
returns-clause-goes g c =
    let i = c.self.inside in
    let put = c.insert_reserved-place in
    let parts = c.into_parts-wire in
    let slots : c.reserve.new.self.slots ≡ i.clients.slots = ap (λ (s : Slab ClientValue). s.slots) c.reserve.ensures.rest_kept in
    let puts = subst (λ (old : List (Option ClientValue)). Put old put.new.self.slots put.result (Some c.new.result)) slots (put_one c.reserve.new.self put.new.self put.result (Some c.new.result) put.ensures.updates) in
    rw (← c.self.view_is)
    (onward _ _ refl (continues_come _ _ (goes_comes c.loop_laws.ensures _ _ c.open_conn.ensures.keeps.plans_are put.result c.in-Ok.conn
    (given_of (g.W.Wire.turns parts.result.0)) (got_of (g.W.Wire.turns parts.result.0)) (ended_of (g.W.Wire.turns parts.result.0)) (g.W.Wire.reads parts.result.0) (g.W.Wire.writes parts.result.0) (g.W.Wire.watched parts.result.0) (g.W.Wire.reported parts.result.0) c.in-Ok.ensures.number parts.ensures.given_none parts.ensures.got_none parts.ensures.goes_on c.in-Ok.ensures.stands c.in-Ok.ensures.adds
    (sym (ap (λ (old : List (Option ClientValue)). at put.result old) slots) ∙ put.ensures.was_vacant) (subst (λ (y : ClientValue). Put i.clients.slots put.new.self.slots put.result (Some y)) c.new.ensures puts) refl record { told = refl; results = refl; handed = refl; drained = refl; unserved = refl }) c.open_conn.ensures.keeps.plans_are record { told = refl; results = refl; handed = refl; drained = refl; unserved = refl } put.result c.new.result (sym (ap (λ (old : List (Option ClientValue)). at put.result old) slots) ∙ put.ensures.was_vacant) puts refl))

pub returns-clause-takes : goal.returns-clause-takes
returns-clause-takes g c =
    let i = c.self.inside in
    let put = c.insert_reserved-place in
    let slots : c.reserve.new.self.slots ≡ i.clients.slots = ap (λ (s : Slab ClientValue). s.slots) c.reserve.ensures.rest_kept in
    let puts = subst (λ (old : List (Option ClientValue)). Put old put.new.self.slots put.result (Some c.new.result)) slots (put_one c.reserve.new.self put.new.self put.result (Some c.new.result) put.ensures.updates) in
    rw (← c.self.view_is) record { told = refl; gone = refl; one = inl (refl, refl, there_comes i.clients.slots put.new.self.slots put.result c.new.result (sym (ap (λ (old : List (Option ClientValue)). at put.result old) slots) ∙ put.ensures.was_vacant) puts) }
