use Rattle.gateway_connection.specs.lemmas.Names.{◌<◌, ◌≤◌, ◌∙◌, ap, arith, length, refl, sym, HeldConnection, on_err, on_ok}
use Rattle.gateway_connection.proofs.BroadcastLemmas.{fails_waits, some_all, some_broke, some_broke_rest, some_first, some_known, some_next, some_own, some_rest, some_size, some_tied, some_waits}
use Rattle.gateway_connection.proofs.connection.Connection.end_calls.Goals as goal

pub loop-index-init : goal.loop-index-init
loop-index-init g c = some_first c.args.trigger.now c.args.self.now c.args.shared.now (record c.args.shared.now { made = c.clear.new.self }) c.requires.may refl refl refl refl refl c.clear.ensures.items

pub end_one-requires-clause-there : goal.end_one-requires-clause-there
end_one-requires-clause-there g c =
    let lt : c.loop-index.index < length c.args.self.now.calls = omega (arith, c.loop-index-test.true, c.len-index-end.ensures, ap (λ (k : HeldConnection). length k.calls) c.self.view_is) in
    omega (arith, lt, some_size c.args.trigger.now c.loop-index.index c.args.self.now c.loop-index.self c.args.shared.now c.loop-index.shared c.held_law.ensures c.loop-index.invariant)

pub end_one-requires-clause-known : goal.end_one-requires-clause-known
end_one-requires-clause-known g c =
    let lt : c.loop-index.index < length c.args.self.now.calls = omega (arith, c.loop-index-test.true, c.len-index-end.ensures, ap (λ (k : HeldConnection). length k.calls) c.self.view_is) in
    some_known c.args.trigger.now c.loop-index.index c.args.self.now c.loop-index.self c.args.shared.now c.loop-index.shared c.held_law.ensures c.loop-index.invariant lt

pub end_one-requires-clause-waits : goal.end_one-requires-clause-waits
end_one-requires-clause-waits g c = some_waits c.args.trigger.now c.loop-index.index c.args.self.now c.loop-index.self c.args.shared.now c.loop-index.shared c.held_law.ensures c.loop-index.invariant c.requires.may.waits

pub loop-index-preserved : goal.loop-index-preserved
loop-index-preserved g c =
    let lt : c.loop-index.index < length c.args.self.now.calls = omega (arith, c.loop-index-test.true, c.len-index-end.ensures, ap (λ (k : HeldConnection). length k.calls) c.self.view_is) in
    some_next c.args.trigger.now c.loop-index.index c.args.self.now c.loop-index.self c.args.shared.now c.loop-index.shared c.held_law.ensures c.loop-index.invariant c.end_one.new.self c.end_one.new.shared lt c.requires.now c.apart_law.ensures
    (on_ok c.end_one.result _ c.end_one.ensures.ok (sym c.is_err.ensures.value ∙ c.if-is_err.false))

pub break_now-requires : goal.break_now-requires
break_now-requires g c =
    let fails = on_err c.end_one.result _ c.end_one.ensures.err (sym c.is_err.ensures.value ∙ c.if-is_err.true) in
    fails_waits c.args.trigger.now c.loop-index.index c.args.self.now c.loop-index.self c.args.shared.now c.loop-index.shared c.held_law.ensures c.loop-index.invariant c.end_one.new.self c.end_one.new.shared c.requires.may.waits fails.rest

pub returns-then-is_err-clause-ends : goal.returns-then-is_err-clause-ends
returns-then-is_err-clause-ends g c =
    let lt : c.loop-index.index < length c.args.self.now.calls = omega (arith, c.loop-index-test.true, c.len-index-end.ensures, ap (λ (k : HeldConnection). length k.calls) c.self.view_is) in
    let fails = on_err c.end_one.result _ c.end_one.ensures.err (sym c.is_err.ensures.value ∙ c.if-is_err.true) in
    some_broke c.args.trigger.now c.loop-index.index c.args.self.now c.loop-index.self c.args.shared.now c.loop-index.shared c.held_law.ensures c.loop-index.invariant c.end_one.new.self c.end_one.new.shared lt c.requires.now c.apart_law.ensures fails c.break_now.new.self c.break_now.new.shared c.break_now.ensures.broken c.break_now.ensures.rest

pub returns-then-is_err-clause-rest : goal.returns-then-is_err-clause-rest
returns-then-is_err-clause-rest g c =
    let lt : c.loop-index.index < length c.args.self.now.calls = omega (arith, c.loop-index-test.true, c.len-index-end.ensures, ap (λ (k : HeldConnection). length k.calls) c.self.view_is) in
    let fails = on_err c.end_one.result _ c.end_one.ensures.err (sym c.is_err.ensures.value ∙ c.if-is_err.true) in
    some_broke_rest c.args.trigger.now c.loop-index.index c.args.self.now c.loop-index.self c.args.shared.now c.loop-index.shared c.held_law.ensures c.loop-index.invariant c.end_one.new.self c.end_one.new.shared lt c.requires.now c.apart_law.ensures fails c.break_now.new.self c.break_now.new.shared c.break_now.ensures.broken c.break_now.ensures.rest

pub returns-then-is_err-clause-begun : goal.returns-then-is_err-clause-begun
returns-then-is_err-clause-begun g c =
    let fails = on_err c.end_one.result _ c.end_one.ensures.err (sym c.is_err.ensures.value ∙ c.if-is_err.true) in
    c.break_now.ensures.begun ∙ fails.begun_is ∙ c.loop-index.invariant.begun_is

pub fill_all-requires : goal.fill_all-requires
fill_all-requires g c = some_own c.args.trigger.now c.loop-index.index c.args.self.now c.loop-index.self c.args.shared.now c.loop-index.shared c.held_law.ensures c.loop-index.invariant

pub returns-clause-ends : goal.returns-clause-ends
returns-clause-ends g c =
    let all : length c.args.self.now.calls ≤ c.loop-index.index = omega (arith, c.loop-index-test.false, c.len-index-end.ensures, ap (λ (k : HeldConnection). length k.calls) c.self.view_is) in
    some_all c.args.trigger.now c.loop-index.index c.args.self.now c.loop-index.self c.args.shared.now c.loop-index.shared c.held_law.ensures c.loop-index.invariant all c.fill_all.new.self c.fill_all.ensures

pub returns-clause-tied : goal.returns-clause-tied
returns-clause-tied g c =
    let all : length c.args.self.now.calls ≤ c.loop-index.index = omega (arith, c.loop-index-test.false, c.len-index-end.ensures, ap (λ (k : HeldConnection). length k.calls) c.self.view_is) in
    some_tied c.args.trigger.now c.loop-index.index c.args.self.now c.loop-index.self c.args.shared.now c.loop-index.shared c.held_law.ensures c.loop-index.invariant all c.fill_all.new.self c.fill_all.ensures

pub returns-clause-rest : goal.returns-clause-rest
returns-clause-rest g c =
    let all : length c.args.self.now.calls ≤ c.loop-index.index = omega (arith, c.loop-index-test.false, c.len-index-end.ensures, ap (λ (k : HeldConnection). length k.calls) c.self.view_is) in
    let r = some_rest c.args.trigger.now c.loop-index.index c.args.self.now c.loop-index.self c.args.shared.now c.loop-index.shared c.held_law.ensures c.loop-index.invariant all c.fill_all.new.self c.fill_all.ensures in
    record { plans_are = r.plans_are; moment_is = r.moment_is; jobs_are = r.jobs_are; waits = r.waits; others = r.others }
