use Rattle.gateway_connection.specs.lemmas.Names.{[], Some, inl, ap, refl, sym, subst, ◌∙◌, gone, is_some, step_to, ReplyValue, option_map, arc_value, err_if, Arrives, Request, arriving_in, asking, is_full, next_held}
use Rattle.std.specs.Prelude.{IfOk}
use Rattle.gateway_model.specs.declared.entry.ReplyEntry.TheVariants.{Judged}
use Rattle.connect_codec.specs.Verdict.{verdict_of}
use Rattle.gateway_theory.specs.lemmas.EventLemmas.{no_call, timely}
use Rattle.gateway_connection.proofs.EnterLemmas.{asks_is, fails_same, judged_is}
use Rattle.gateway_connection.proofs.ResultLemmas.{none_ok}
use Rattle.gateway_connection.proofs.connection.Connection.arriving.Goals as goal

pub new-requires-clause-timely : goal.new-requires-clause-timely
new-requires-clause-timely g c =
    timely c.timeout_law.ensures c.args.request c.is_some.result c.in_ok-verdict.verdict c.in-Ask.timeout c.in-Ask.request_id c.in_ok-verdict.ensures.first_rule c.in-Ask.is

pub unreachable-requires : goal.unreachable-requires
unreachable-requires g c =
    no_call c.args.request c.is_some.result c.in_ok-verdict.verdict c.in-Ask.timeout c.in-Ask.request_id c.in_ok-verdict.ensures.first_rule c.in-Ask.is (c.is_some.ensures ∙ ap is_some c.in-None.is)

pub returns-in_err-verdict-clause-err : goal.returns-in_err-verdict-clause-err
returns-in_err-verdict-clause-err g c = err_if c.from_residual.result (fails_same c.args.self.now c.args.shared.now)

pub returns-in_err-asked-in-Some-clause-err : goal.returns-in_err-asked-in-Some-clause-err
returns-in_err-asked-in-Some-clause-err g c = err_if c.from_residual-in_err-asked-in-Some.result (fails_same c.args.self.now c.args.shared.now)

pub returns-in_err-reply-in_default-clause-err : goal.returns-in_err-reply-in_default-clause-err
returns-in_err-reply-in_default-clause-err g c = err_if c.from_residual-in_err-reply-in_default.result (fails_same c.args.self.now c.args.shared.now)

pub returns-in_ok-asked-in-Some-clause-ok : goal.returns-in_ok-asked-in-Some-clause-ok
returns-in_ok-asked-in-Some-clause-ok g c =
    let found = sym c.plan_named-plan.ensures ∙ ap (option_map (λ p. arc_value p.now)) c.in-Some.is in
    let asks = ap (verdict_of c.args.request) (sym (c.is_some.ensures ∙ ap is_some c.in-Some.is)) ∙ sym c.in_ok-verdict.ensures.first_rule ∙ c.in-Ask.is in
    subst (λ s. IfOk c.asking.result (λ arriving. Arrives arriving (next_held c.args.self.now) s c.args.shared.now c.asking.new.shared))
    (ap (asking (is_full c.args.self.now.slots) c.args.shared.now.moment c.args.shared.now.contexts.standing.drained (next_held c.args.self.now)) c.in_ok-asked-in-Some.ensures
    ∙ sym (ap (λ a. arriving_in c.args.shared.now.moment c.args.shared.now.contexts.standing.drained (Request c.args.request a) c.args.self.now)
    (asks_is c.args.shared.now.plans c.args.request (arc_value c.in-Some.plan.now) c.in-Ask.timeout c.in-Ask.request_id found asks)))
    c.asking.ensures.ok

pub returns-in_err-verdict-clause-ok : goal.returns-in_err-verdict-clause-ok
returns-in_err-verdict-clause-ok g c = none_ok _ _ c.from_residual.result c.from_residual.ensures.1

pub returns-in_err-asked-in-Some-clause-ok : goal.returns-in_err-asked-in-Some-clause-ok
returns-in_err-asked-in-Some-clause-ok g c = none_ok _ _ c.from_residual-in_err-asked-in-Some.result c.from_residual-in_err-asked-in-Some.ensures.1

pub returns-in_err-reply-in_default-clause-ok : goal.returns-in_err-reply-in_default-clause-ok
returns-in_err-reply-in_default-clause-ok g c = none_ok _ _ c.from_residual-in_err-reply-in_default.result c.from_residual-in_err-reply-in_default.ensures.1

pub returns-in_ok-reply-in_default-clause-err : goal.returns-in_ok-reply-in_default-clause-err
returns-in_ok-reply-in_default-clause-err g c = tt

pub returns-in_ok-reply-in_default-clause-ok : goal.returns-in_ok-reply-in_default-clause-ok
returns-in_ok-reply-in_default-clause-ok g c =
    let judged = judged_is c.plan_named-plan.result (λ p. arc_value p.now) c.args.shared.now.plans c.args.request c.in_ok-verdict.verdict c.is_some.result
    c.is_some.ensures c.plan_named-plan.ensures c.in_ok-verdict.ensures.first_rule c.in_default.not-Ask in
    record {
      comes = (
        ap (λ (r : ReplyValue). r.id) c.in_ok-reply-in_default.ensures ∙ c.next_id.ensures,
        ap (λ a. arriving_in c.args.shared.now.moment c.args.shared.now.contexts.standing.drained (Request c.args.request a) c.args.self.now) judged
            ∙ ap (λ last. step_to gone (Some (Judged c.in_ok-verdict.verdict last)) []) (sym c.closes-last.ensures)
            ∙ sym (ap (λ (r : ReplyValue). step_to gone (Some r.entry) []) c.in_ok-reply-in_default.ensures),
      );
      contexts = refl;
      hooks = λ other stock there. inl there;
      rest = refl;
    }

pub returns-in_ok-asked-in-Some-clause-err : goal.returns-in_ok-asked-in-Some-clause-err
returns-in_ok-asked-in-Some-clause-err g c = c.asking.ensures.err

pub new-requires-clause-start : goal.new-requires-clause-start
new-requires-clause-start g c = c.requires.may.early

pub asking-requires : goal.asking-requires
asking-requires g c = c.requires
