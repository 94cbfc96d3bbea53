use Rattle.gateway_connection.specs.lemmas.Names.{ap, sym, arith, ◌<◌, ◌∙◌, length, subst, eq-eqb, ne_eqb, Holds, HeldConnection, CallId}
use Rattle.gateway_connection.proofs.HoldsLemmas.{found_here, here_is, not_here}
use Rattle.gateway_connection.proofs.connection.Connection.find.Goals as goal

pub returns-then-id-request : goal.returns-then-id-request
returns-then-id-request c =
    let lt : c.loop-index.index < length c.self.inside.calls.items = omega (arith, c.loop-index-test.true, c.len-index-end.ensures) in
    let items = ap (λ (k : HeldConnection). k.calls) c.self.view_is in
    found_here c.args.self.now c.loop-index.index c.args.request c.index.result.now (subst Holds c.self.view_is c.self.invariant.1) (omega (arith, lt, ap length items))
    (here_is c.self.inside.calls.items c.args.self.now.calls c.loop-index.index c.index.result.now items lt c.index.ensures)
    (eq-eqb c.index.result.now.id.request c.args.request (ap (λ (i : CallId). i.request) (sym c.id.ensures) ∙ c.if-id-request.true)) c.loop-index.invariant

pub loop-index-preserved : goal.loop-index-preserved
loop-index-preserved c =
    let lt : c.loop-index.index < length c.self.inside.calls.items = omega (arith, c.loop-index-test.true, c.len-index-end.ensures) in
    let items = ap (λ (k : HeldConnection). k.calls) c.self.view_is in
    not_here c.args.self.now c.loop-index.index c.args.request c.index.result.now (subst Holds c.self.view_is c.self.invariant.1) (omega (arith, lt, ap length items))
    (here_is c.self.inside.calls.items c.args.self.now.calls c.loop-index.index c.index.result.now items lt c.index.ensures)
    (ne_eqb c.index.result.now.id.request c.args.request (λ e. c.if-id-request.false (ap (λ (i : CallId). i.request) c.id.ensures ∙ e))) c.loop-index.invariant

pub returns : goal.returns
returns c = λ j lt. c.loop-index.invariant j (omega (arith, lt, c.loop-index-test.false, c.len-index-end.ensures, ap (λ (k : HeldConnection). length k.calls) c.self.view_is))
