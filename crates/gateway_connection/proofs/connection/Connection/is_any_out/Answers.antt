use Rattle.gateway_connection.specs.lemmas.Names.{◌≡◌, ◌<◌, ◌∙◌, Bool, ap, arith, false, length, sym, ⊎_elim, list_any, cases_eq, list_any_at, list_any_none, HeldConnection, KeptValue, kept_at, no_call}
use Rattle.gateway_connection.proofs.HoldsLemmas.{here_is, at_all}
use Rattle.gateway_connection.proofs.connection.Connection.is_any_out.Goals as goal

abbrev out_of : KeptValue → Bool
out_of k = list_any (λ b. b) k.call.out

pub returns-then-is_any_out : goal.returns-then-is_any_out
returns-then-is_any_out c =
    let items = ap (λ (k : HeldConnection). k.calls) c.self.view_is in
    let lt : c.loop-index.index < length c.self.inside.calls.items = omega (arith, c.loop-index-test.true, c.len-index-end.ensures) in
    let here = here_is c.self.inside.calls.items c.args.self.now.calls c.loop-index.index c.index.result.now items lt c.index.ensures in
    sym (list_any_at out_of c.args.self.now.calls c.loop-index.index no_call (omega (arith, lt, ap length items)) (ap out_of (sym here) ∙ sym c.is_any_out.ensures ∙ c.if-is_any_out.true))

pub loop-index-preserved : goal.loop-index-preserved
loop-index-preserved c = λ j less. ⊎_elim
    (λ (same : j ≡ c.loop-index.index).
    let items = ap (λ (k : HeldConnection). k.calls) c.self.view_is in
    let lt : c.loop-index.index < length c.self.inside.calls.items = omega (arith, c.loop-index-test.true, c.len-index-end.ensures) in
    let here = here_is c.self.inside.calls.items c.args.self.now.calls c.loop-index.index c.index.result.now items lt c.index.ensures in
    ap (λ n. out_of (kept_at n c.args.self.now.calls)) same ∙ ap out_of (sym here) ∙ sym c.is_any_out.ensures ∙ c.if-is_any_out.false)
    (λ (ne : j ≡ c.loop-index.index → ⊥). c.loop-index.invariant j (omega (arith, less, ne)))
    (cases_eq j c.loop-index.index)

pub returns : goal.returns
returns c = sym (list_any_none out_of c.args.self.now.calls (at_all (λ k. out_of k ≡ false) c.args.self.now.calls
    (λ j lt. c.loop-index.invariant j (omega (arith, lt, c.loop-index-test.false, c.len-index-end.ensures, ap (λ (k : HeldConnection). length k.calls) c.self.view_is)))))
