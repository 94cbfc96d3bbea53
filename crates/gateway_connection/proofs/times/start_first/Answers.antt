use Rattle.gateway_connection.specs.lemmas.Names.{◌≡◌, ℕ, suc, ◌+◌, min, length, refl, sym, ap, ◌∙◌, arith, subst, arc_value, PlanRecord, branch_started, first_started, ArrivedCall, deadline_from, ContextsValue, KeepsOthers, is_life, first_ones}
use Rattle.gateway_connection.proofs.TimedLemmas.{first_known, first_others}
use Rattle.gateway_connection.proofs.ResultLemmas.{none_on}
use Rattle.gateway_connection.proofs.times.start_first.Goals as goal

pub loop-branch-init : goal.loop-branch-init
loop-branch-init g c = (refl, refl)

pub start_branch-requires-clause-known : goal.start_branch-requires-clause-known
start_branch-requires-clause-known g c =
    ap (λ (x : ContextsValue). is_life c.args.id.now x.calls) c.loop-branch.invariant.0
    ∙ first_known c.args.id.now c.args.moment c.args.asked.now.plan c.loop-branch.branch c.args.contexts.now.standing ∙ c.requires.known

pub returns-in_err-start_branch-clause-others : goal.returns-in_err-start_branch-clause-others
returns-in_err-start_branch-clause-others g c =
    subst (KeepsOthers c.args.id.now.conn c.args.contexts.now.standing) (sym (c.in_err-start_branch.ensures.err ∙ c.loop-branch.invariant.0))
    (first_others c.args.id.now c.args.moment c.args.asked.now.plan c.loop-branch.branch c.args.contexts.now.standing)

pub loop-branch-preserved : goal.loop-branch-preserved
loop-branch-preserved g c =
    let id = c.args.id.now in
    let plan : PlanRecord = c.args.asked.now.plan in
    let k : ℕ = c.loop-branch.branch in
    let deadline : c.deadline_of-deadline.result ≡ deadline_from c.args.moment plan k =
    c.deadline_of-deadline.ensures.deadline ∙ ap (λ (p : PlanRecord). deadline_from c.args.moment p k) (c.deref-in-loop-branch.ensures ∙ ap (λ (a : ArrivedCall). a.plan) c.asked.view_is) in (
      c.in_ok-start_branch.ensures.ok ∙ ap (λ d. branch_started id k d c.loop-branch.contexts.standing) deadline
          ∙ ap (branch_started id k (deadline_from c.args.moment plan k)) c.loop-branch.invariant.0
          ∙ ap (λ n. first_started id c.args.moment plan n c.args.contexts.now.standing) (let e : suc k ≡ k + 1 = omega arith in e),
      c.in_ok-start_branch.ensures.stocks ∙ c.loop-branch.invariant.1,
    )

pub returns-clause-ok : goal.returns-clause-ok
returns-clause-ok g c =
    let plan : PlanRecord = c.args.asked.now.plan in
    let view : arc_value c.asked.inside.plan ≡ plan = ap (λ (a : ArrivedCall). a.plan) c.asked.view_is in
    let all : length c.branches.result.now ≡ length plan.branches = ap length c.branches.ensures.branches ∙ ap (λ (p : PlanRecord). length p.branches) (c.deref.ensures ∙ view) in
    let limit : c.limit.result ≡ plan.limit = c.limit.ensures.limit ∙ ap (λ (p : PlanRecord). p.limit) (c.deref-2.ensures ∙ view) in
    let last : c.loop-branch.branch ≡ first_ones c.args.asked.now =
    omega (arith, c.loop-branch-test.false, c.loop-branch.auto.branch-end) ∙ c.min-first.ensures ∙ ap (λ n. min n c.limit.result) all ∙ ap (min (length plan.branches)) (limit ∙ omega arith) in
    c.loop-branch.invariant.0 ∙ ap (λ n. first_started c.args.id.now c.args.moment plan n c.args.contexts.now.standing) last

pub returns-clause-others : goal.returns-clause-others
returns-clause-others g c =
    subst (KeepsOthers c.args.id.now.conn c.args.contexts.now.standing) (sym c.loop-branch.invariant.0)
    (first_others c.args.id.now c.args.moment c.args.asked.now.plan c.loop-branch.branch c.args.contexts.now.standing)

pub returns-in_err-start_branch-clause-stocks : goal.returns-in_err-start_branch-clause-stocks
returns-in_err-start_branch-clause-stocks g c = c.in_err-start_branch.ensures.stocks ∙ c.loop-branch.invariant.1

pub returns-clause-stocks : goal.returns-clause-stocks
returns-clause-stocks g c = c.loop-branch.invariant.1

pub returns-in_err-start_branch-clause-ok : goal.returns-in_err-start_branch-clause-ok
returns-in_err-start_branch-clause-ok g c = none_on _ _ c.from_residual.result c.from_residual.ensures.1
