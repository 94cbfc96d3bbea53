use Rattle.gateway_connection.specs.lemmas.Names.{ap, sym, ◌∙◌, err_if, option_map, is_some, KeptValue, branch_started, passed_on, is_life, subst, arith}
use Rattle.gateway_replies.specs.Contexts.{finished}
use Rattle.gateway_connection.specs.KeptCall.{MayGo, live_of}
use Rattle.gateway_connection.proofs.KeptLemmas.{passed_last, passed_late, passed_next}
use Rattle.gateway_connection.proofs.ResultLemmas.{none_on}
use Rattle.gateway_connection.proofs.kept.Kept.pass_on.Goals as goal

pub returns-in_default-clause-ok : goal.returns-in_default-clause-ok
returns-in_default-clause-ok g c = sym (ap (λ o. passed_on c.args.moment c.args.branch o c.args.self.now c.args.contexts.now.standing) c.in_default.is-1)

pub returns-in_default-2-clause-ok : goal.returns-in_default-2-clause-ok
returns-in_default-2-clause-ok g c =
    passed_late c.args.moment c.args.branch c.args.outcome.now c.args.self.now c.args.contexts.now.standing
    (ap (λ (k : KeptValue). k.call.live) (sym c.self.view_is) ∙ ap (option_map (live_of c.self.inside.group.queue)) c.in_default.is-0)

pub returns-then-is_last_answer-clause-ok : goal.returns-then-is_last_answer-clause-ok
returns-then-is_last_answer-clause-ok g c =
    passed_last c.args.moment c.args.branch c.args.outcome.now c.in-Some-Answer.field-0-1 c.args.self.now (live_of c.self.inside.group.queue c.in-Some-Answer.live) c.args.contexts.now.standing c.in-Some-Answer.is-1
    (ap (λ (k : KeptValue). k.call.live) (sym c.self.view_is) ∙ ap (option_map (live_of c.self.inside.group.queue)) c.in-Some-Answer.is-0)
    (sym c.is_last_answer.ensures.last ∙ c.if-is_last_answer.true)

pub returns-in_err-start_branch-clause-ok : goal.returns-in_err-start_branch-clause-ok
returns-in_err-start_branch-clause-ok g c = none_on _ _ c.from_residual.result c.from_residual.ensures.1

pub returns-in_err-start_branch-clause-err : goal.returns-in_err-start_branch-clause-err
returns-in_err-start_branch-clause-err g c = err_if c.from_residual.result c.in_err-start_branch.ensures.err

pub returns-in_err-start_branch-clause-live : goal.returns-in_err-start_branch-clause-live
returns-in_err-start_branch-clause-live g c =
    err_if c.from_residual.result (ap (λ (k : KeptValue). is_some k.call.live) (sym c.self.view_is) ∙ ap (λ l. is_some (option_map (live_of c.self.inside.group.queue) l)) c.in-Some-Answer.is-0)

pub returns-clause-ok : goal.returns-clause-ok
returns-clause-ok g c =
    passed_next c.args.moment c.args.branch c.args.outcome.now c.in-Some-Answer.field-0-1 c.args.self.now (live_of c.self.inside.group.queue c.in-Some-Answer.live) c.next-next.result.0 c.next-next.result.1
    c.args.contexts.now.standing c.start_branch.new.contexts.standing c.finish.new.self.standing c.in-Some-Answer.is-1
    (ap (λ (k : KeptValue). k.call.live) (sym c.self.view_is) ∙ ap (option_map (live_of c.self.inside.group.queue)) c.in-Some-Answer.is-0)
    (sym c.is_last_answer.ensures.last ∙ c.if-is_last_answer.false) c.next-next.ensures.branch c.next-next.ensures.deadline
    (c.in_ok-start_branch.ensures.ok ∙ ap (λ (k : KeptValue). branch_started k.id c.next-next.result.0 c.next-next.result.1 c.args.contexts.now.standing) c.self.view_is)
    (c.finish.ensures.finished ∙ ap (λ (k : KeptValue). finished k.id c.args.branch c.start_branch.new.contexts.standing) c.self.view_is)

pub start_branch-requires-clause-known : goal.start_branch-requires-clause-known
start_branch-requires-clause-known g c =
    ap (λ (k : KeptValue). is_life k.id c.args.contexts.now.standing.calls) c.self.view_is
    ∙ c.requires.known (ap (λ (k : KeptValue). is_some k.call.live) (sym c.self.view_is) ∙ ap (λ l. is_some (option_map (live_of c.self.inside.group.queue) l)) c.in-Some-Answer.is-0)

pub start_branch-requires-clause-later : goal.start_branch-requires-clause-later
start_branch-requires-clause-later g c = c.next-next.ensures.later

pub next-next-requires-clause-few : goal.next-next-requires-clause-few
next-next-requires-clause-few g c =
    let going = subst (MayGo c.self.inside.id c.self.inside.out.items c.self.inside.group.queue) c.in-Some-Answer.is-0 c.self.invariant.live_is in
    let timed = going.timed in
    let few = c.is_last_answer.ensures.lawful.few in
    omega (arith, timed, few)
