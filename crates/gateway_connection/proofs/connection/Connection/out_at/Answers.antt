use Rattle.gateway_connection.specs.lemmas.Names.{◌<◌, ◌∙◌, ap, arith, length, sym, call_id, KeptValue, HeldConnection, has_out, call_missing}
use Rattle.gateway_connection.proofs.HoldsLemmas.{found_call, here_is}
use Rattle.gateway_connection.proofs.connection.Connection.out_at.Goals as goal

pub returns-in_default : goal.returns-in_default
returns-in_default c = ap (λ x. has_out x c.args.branch) (call_missing (call_id c.args.self.now.number c.args.request) c.args.self.now.calls c.in_default.ensures)

pub returns-then-not-is_out : goal.returns-then-not-is_out
returns-then-not-is_out c = ap (λ x. has_out x c.args.branch)
    (found_call (call_id c.args.self.now.number c.args.request) c.self.inside.calls.items c.args.self.now.calls c.in-Some.index c.index.result.now (ap (λ (k : HeldConnection). k.calls) c.self.view_is) c.in-Some.ensures c.index.ensures)
    ∙ sym c.is_out.ensures ∙ c.if-not-is_out.true

pub returns : goal.returns
returns c =
    let items = ap (λ (k : HeldConnection). k.calls) c.self.view_is in
    let lt : c.in-Some.index < length c.self.inside.calls.items = (let within = c.in-Some.ensures.0 in omega (arith, within, ap length items)) in
    let here = here_is c.self.inside.calls.items c.args.self.now.calls c.in-Some.index c.index.result.now items lt c.index.ensures in
    (c.in-Some.ensures, ap (λ (k : KeptValue). has_out k.call c.args.branch) (sym here) ∙ sym c.is_out.ensures ∙ c.if-not-is_out.false)
