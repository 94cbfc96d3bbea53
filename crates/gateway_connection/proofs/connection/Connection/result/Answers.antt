use Rattle.gateway_connection.specs.lemmas.Names.{◌≡◌, ◌<◌, ◌∙◌, [], ap, arith, length, refl, sym, kept_at, result_in, unknown, HeldConnection, on_err, on_ok}
use Rattle.gateway_connection.proofs.HoldsLemmas.{here_is}
use Rattle.gateway_connection.proofs.LentLemmas.{rest_none}
use Rattle.gateway_connection.proofs.TakenLemmas.{result_lost, result_settled, settled_size, settled_tied, unsettled_size, unsettled_waits}
use Rattle.gateway_connection.proofs.connection.Connection.result.Goals as goal

pub returns-in_default-clause-takes : goal.returns-in_default-clause-takes
returns-in_default-clause-takes g c = record { jobs = []; takes = unknown c.in_default.ensures c.unknown.ensures refl refl; rest = rest_none c.args.self.now c.args.shared.now }

pub settle-requires-clause-there : goal.settle-requires-clause-there
settle-requires-clause-there g c = c.in-Some.ensures.0.0

pub settle-requires-clause-out : goal.settle-requires-clause-out
settle-requires-clause-out g c = c.in-Some.ensures.1

pub lose-requires-clause-there : goal.lose-requires-clause-there
lose-requires-clause-there g c =
    let u = on_err c.settle.result _ c.settle.ensures.err (sym c.is_err.ensures.value ∙ c.if-is_err.true) in
    let within = c.in-Some.ensures.0.0 in
    omega (arith, within, unsettled_size c.in-Some.index c.args.branch c.args.self.now c.settle.new.self c.args.shared.now c.settle.new.shared u)

pub lose-requires-clause-waits : goal.lose-requires-clause-waits
lose-requires-clause-waits g c =
    let u = on_err c.settle.result _ c.settle.ensures.err (sym c.is_err.ensures.value ∙ c.if-is_err.true) in
    unsettled_waits c.in-Some.index c.args.branch c.args.self.now c.settle.new.self c.args.shared.now c.settle.new.shared u c.requires.waits

pub returns-then-is_err-clause-takes : goal.returns-then-is_err-clause-takes
returns-then-is_err-clause-takes g c =
    let items = ap (λ (k : HeldConnection). k.calls) c.self.view_is in
    let lt : c.in-Some.index < length c.self.inside.calls.items = (let within = c.in-Some.ensures.0.0 in omega (arith, within, ap length items)) in
    let was : c.index.result.now ≡ kept_at c.in-Some.index c.args.self.now.calls = here_is c.self.inside.calls.items c.args.self.now.calls c.in-Some.index c.index.result.now items lt c.index.ensures in
    let u = on_err c.settle.result _ c.settle.ensures.err (sym c.is_err.ensures.value ∙ c.if-is_err.true) in
    result_lost c.args.self.now c.args.shared.now c.args.request c.in-Some.index c.args.branch c.index.result.now c.seen-seen.result was c.in-Some.ensures.0 c.in-Some.ensures.1 c.seen-seen.ensures c.args.outcome c.settle.new.self c.lose.new.self c.settle.new.shared c.lose.new.shared u c.lose.ensures.lost c.lose.ensures.rest

pub returns-then-is_err-clause-begun : goal.returns-then-is_err-clause-begun
returns-then-is_err-clause-begun g c =
    let u = on_err c.settle.result _ c.settle.ensures.err (sym c.is_err.ensures.value ∙ c.if-is_err.true) in
    c.lose.ensures.begun ∙ u.begun_is

pub forget-requires : goal.forget-requires
forget-requires g c =
    let s = on_ok c.settle.result _ c.settle.ensures.ok (sym c.is_err.ensures.value ∙ c.if-is_err.false) in
    let within = c.in-Some.ensures.0.0 in
    omega (arith, within, settled_size c.in-Some.index (result_in c.args.shared.now.moment c.in-Some.index c.args.branch c.args.outcome c.args.self.now) c.args.self.now c.settle.new.self c.args.shared.now c.settle.new.shared s)

pub returns-clause-takes : goal.returns-clause-takes
returns-clause-takes g c =
    let items = ap (λ (k : HeldConnection). k.calls) c.self.view_is in
    let lt : c.in-Some.index < length c.self.inside.calls.items = (let within = c.in-Some.ensures.0.0 in omega (arith, within, ap length items)) in
    let was : c.index.result.now ≡ kept_at c.in-Some.index c.args.self.now.calls = here_is c.self.inside.calls.items c.args.self.now.calls c.in-Some.index c.index.result.now items lt c.index.ensures in
    let s = on_ok c.settle.result _ c.settle.ensures.ok (sym c.is_err.ensures.value ∙ c.if-is_err.false) in
    result_settled c.args.self.now c.args.shared.now c.args.request c.in-Some.index c.args.branch c.index.result.now c.seen-seen.result was c.in-Some.ensures.0 c.in-Some.ensures.1 c.seen-seen.ensures c.args.outcome c.settle.new.self c.forget.new.self c.settle.new.shared s c.held_law.ensures.apart c.forget.ensures

pub returns-clause-tied : goal.returns-clause-tied
returns-clause-tied g c =
    let items = ap (λ (k : HeldConnection). k.calls) c.self.view_is in
    let lt : c.in-Some.index < length c.self.inside.calls.items = (let within = c.in-Some.ensures.0.0 in omega (arith, within, ap length items)) in
    let was : c.index.result.now ≡ kept_at c.in-Some.index c.args.self.now.calls = here_is c.self.inside.calls.items c.args.self.now.calls c.in-Some.index c.index.result.now items lt c.index.ensures in
    let s = on_ok c.settle.result _ c.settle.ensures.ok (sym c.is_err.ensures.value ∙ c.if-is_err.false) in
    settled_tied c.args.self.now c.args.shared.now c.args.request c.in-Some.index c.args.branch c.index.result.now c.seen-seen.result was c.in-Some.ensures.0 c.in-Some.ensures.1 c.seen-seen.ensures c.args.outcome c.settle.new.self c.forget.new.self c.settle.new.shared s c.held_law.ensures.apart c.forget.ensures

pub returns-clause-begun : goal.returns-clause-begun
returns-clause-begun g c =
    let s = on_ok c.settle.result _ c.settle.ensures.ok (sym c.is_err.ensures.value ∙ c.if-is_err.false) in
    s.begun_is

pub returns-in_default-clause-tied : goal.returns-in_default-clause-tied
returns-in_default-clause-tied g c = c.requires.tied

pub returns-then-is_err-clause-tied : goal.returns-then-is_err-clause-tied
returns-then-is_err-clause-tied g c = c.lose.ensures.tied

pub settle-requires-clause-may : goal.settle-requires-clause-may
settle-requires-clause-may g c = c.requires

pub index-requires : goal.index-requires
index-requires g c =
    let there = c.in-Some.ensures.0.0 in
    omega (arith, there, ap (λ (k : HeldConnection). length k.calls) c.self.view_is)
