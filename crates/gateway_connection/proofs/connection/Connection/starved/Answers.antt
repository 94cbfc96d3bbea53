use Rattle.gateway_connection.specs.lemmas.Names.{◌≡◌, ◌<◌, ◌∙◌, [], None, ap, arith, length, refl, sym, is_some, KeptValue, HeldConnection, back_kept, kept_at, unknown}
use Rattle.gateway_connection.proofs.HoldsLemmas.{here_is, set_size}
use Rattle.gateway_connection.proofs.LentLemmas.{rest_conn, rest_none}
use Rattle.gateway_connection.proofs.TakenLemmas.{late_tied, late_waits, none_live, starved_late, starved_lost}
use Rattle.gateway_connection.proofs.connection.Connection.starved.Goals as goal

pub returns-in_default-clause-takes : goal.returns-in_default-clause-takes
returns-in_default-clause-takes g c = unknown c.in_default.ensures c.unknown.ensures refl

pub returns-in_default-clause-rest : goal.returns-in_default-clause-rest
returns-in_default-clause-rest g c = rest_none c.args.self.now c.args.shared.now

pub lose-requires-clause-there : goal.lose-requires-clause-there
lose-requires-clause-there g c = c.in-Some.ensures.0.0

pub returns-then-is_live-clause-takes : goal.returns-then-is_live-clause-takes
returns-then-is_live-clause-takes g c =
    let items = ap (λ (k : HeldConnection). k.calls) c.self.view_is in
    let lt : c.in-Some.index < length c.self.inside.calls.items = (let within = c.in-Some.ensures.0.0 in omega (arith, within, ap length items)) in
    let was : c.index-call.result.now ≡ kept_at c.in-Some.index c.args.self.now.calls = here_is c.self.inside.calls.items c.args.self.now.calls c.in-Some.index c.index-call.result.now items lt c.index-call.ensures in
    starved_lost c.args.self.now c.args.shared.now c.args.request c.in-Some.index c.args.branch c.index-call.result.now c.seen-seen.result was c.in-Some.ensures.0 c.in-Some.ensures.1 c.seen-seen.ensures c.lose.new.self (ap (λ (x : KeptValue). is_some x.call.live) (sym was) ∙ sym c.is_live.ensures ∙ c.if-is_live.true) c.lose.ensures.lost

pub give_back-requires-clause-there : goal.give_back-requires-clause-there
give_back-requires-clause-there g c = c.in-Some.ensures.0.0

pub give_back-requires-clause-over : goal.give_back-requires-clause-over
give_back-requires-clause-over g c =
    let items = ap (λ (k : HeldConnection). k.calls) c.self.view_is in
    let lt : c.in-Some.index < length c.self.inside.calls.items = (let within = c.in-Some.ensures.0.0 in omega (arith, within, ap length items)) in
    let was : c.index-call.result.now ≡ kept_at c.in-Some.index c.args.self.now.calls = here_is c.self.inside.calls.items c.args.self.now.calls c.in-Some.index c.index-call.result.now items lt c.index-call.ensures in
    let dead : (kept_at c.in-Some.index c.args.self.now.calls).call.live ≡ None = none_live (kept_at c.in-Some.index c.args.self.now.calls).call.live (ap (λ (x : KeptValue). is_some x.call.live) (sym was) ∙ sym c.is_live.ensures ∙ c.if-is_live.false) in
    dead

pub forget-requires : goal.forget-requires
forget-requires g c =
    let within = c.in-Some.ensures.0.0 in
    omega (arith, within, ap (λ (k : HeldConnection). length k.calls) c.give_back.ensures, set_size c.args.self.now.calls c.in-Some.index (back_kept c.args.branch (kept_at c.in-Some.index c.args.self.now.calls)))

pub returns-clause-takes : goal.returns-clause-takes
returns-clause-takes g c =
    let items = ap (λ (k : HeldConnection). k.calls) c.self.view_is in
    let lt : c.in-Some.index < length c.self.inside.calls.items = (let within = c.in-Some.ensures.0.0 in omega (arith, within, ap length items)) in
    let was : c.index-call.result.now ≡ kept_at c.in-Some.index c.args.self.now.calls = here_is c.self.inside.calls.items c.args.self.now.calls c.in-Some.index c.index-call.result.now items lt c.index-call.ensures in
    let dead : (kept_at c.in-Some.index c.args.self.now.calls).call.live ≡ None = none_live (kept_at c.in-Some.index c.args.self.now.calls).call.live (ap (λ (x : KeptValue). is_some x.call.live) (sym was) ∙ sym c.is_live.ensures ∙ c.if-is_live.false) in
    starved_late c.args.self.now c.args.shared.now c.args.request c.in-Some.index c.args.branch c.index-call.result.now c.seen-seen.result was c.in-Some.ensures.0 c.in-Some.ensures.1 c.seen-seen.ensures c.give_back.new.self c.forget.new.self dead c.give_back.ensures c.held_law.ensures.apart c.forget.ensures

pub returns-clause-tied : goal.returns-clause-tied
returns-clause-tied g c =
    let items = ap (λ (k : HeldConnection). k.calls) c.self.view_is in
    let lt : c.in-Some.index < length c.self.inside.calls.items = (let within = c.in-Some.ensures.0.0 in omega (arith, within, ap length items)) in
    let was : c.index-call.result.now ≡ kept_at c.in-Some.index c.args.self.now.calls = here_is c.self.inside.calls.items c.args.self.now.calls c.in-Some.index c.index-call.result.now items lt c.index-call.ensures in
    let dead : (kept_at c.in-Some.index c.args.self.now.calls).call.live ≡ None = none_live (kept_at c.in-Some.index c.args.self.now.calls).call.live (ap (λ (x : KeptValue). is_some x.call.live) (sym was) ∙ sym c.is_live.ensures ∙ c.if-is_live.false) in
    late_tied c.args.self.now c.args.shared.now c.args.request c.in-Some.index c.args.branch c.index-call.result.now c.seen-seen.result was c.in-Some.ensures.0 c.in-Some.ensures.1 c.seen-seen.ensures c.give_back.new.self c.forget.new.self dead c.give_back.ensures c.held_law.ensures.apart c.forget.ensures c.args.shared.now.contexts c.requires.tied

pub returns-clause-rest : goal.returns-clause-rest
returns-clause-rest g c =
    let items = ap (λ (k : HeldConnection). k.calls) c.self.view_is in
    let lt : c.in-Some.index < length c.self.inside.calls.items = (let within = c.in-Some.ensures.0.0 in omega (arith, within, ap length items)) in
    let was : c.index-call.result.now ≡ kept_at c.in-Some.index c.args.self.now.calls = here_is c.self.inside.calls.items c.args.self.now.calls c.in-Some.index c.index-call.result.now items lt c.index-call.ensures in
    let dead : (kept_at c.in-Some.index c.args.self.now.calls).call.live ≡ None = none_live (kept_at c.in-Some.index c.args.self.now.calls).call.live (ap (λ (x : KeptValue). is_some x.call.live) (sym was) ∙ sym c.is_live.ensures ∙ c.if-is_live.false) in
    rest_conn [] c.args.self.now c.args.self.now c.forget.new.self c.args.shared.now c.args.shared.now (late_waits c.args.self.now c.args.shared.now c.args.request c.in-Some.index c.args.branch c.index-call.result.now c.seen-seen.result was c.in-Some.ensures.0 c.in-Some.ensures.1 c.seen-seen.ensures c.give_back.new.self c.forget.new.self dead c.give_back.ensures c.held_law.ensures.apart c.forget.ensures) (rest_none c.args.self.now c.args.shared.now)

pub lose-requires-clause-waits : goal.lose-requires-clause-waits
lose-requires-clause-waits g c = c.requires.waits

pub returns-in_default-clause-tied : goal.returns-in_default-clause-tied
returns-in_default-clause-tied g c = c.requires.tied

pub returns-then-is_live-clause-rest : goal.returns-then-is_live-clause-rest
returns-then-is_live-clause-rest g c = c.lose.ensures.rest

pub returns-then-is_live-clause-tied : goal.returns-then-is_live-clause-tied
returns-then-is_live-clause-tied g c = c.lose.ensures.tied
