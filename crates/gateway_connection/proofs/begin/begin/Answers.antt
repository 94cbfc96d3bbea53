use Rattle.gateway_connection.specs.lemmas.Names.{◌≡◌, arith, ap, sym, ◌∙◌, length, min, subst, Some, arc_value, PlanRecord, IsKept, HasGone, live_value, ArrivedCall, deadline_from, map, range_with_len, [], None, refl}
use Rattle.gateway_connection.proofs.GroupLemmas.{begun_kept, is_begun, limit_set}
use Rattle.gateway_connection.proofs.ResultLemmas.{none_ok}
use Rattle.gateway_connection.proofs.begin.begin.Goals as goal

pub invariant_of-call : goal.invariant_of-call
invariant_of-call c =
    let a : ArrivedCall = c.args.asked in
    let asked : arc_value c.in_ok-asked.asked ≡ a = c.in_ok-asked.ensures.ok in
    let plan : arc_value c.in_ok-plan.plan ≡ a.plan = c.in_ok-plan.ensures ∙ ap (λ (x : ArrivedCall). x.plan) c.asked.view_is in
    let n : length c.branches-count.result.now ≡ length a.plan.branches =
    ap length c.branches-count.ensures.branches ∙ ap (λ (p : PlanRecord). length p.branches) (c.deref.ensures ∙ plan) in
    let limit : c.limit.result ≡ a.plan.limit = c.limit.ensures.limit ∙ ap (λ (p : PlanRecord). p.limit) (c.deref-2.ensures ∙ plan) in
    let times = c.in_ok-deadlines.ensures.items ∙ ap (λ (p : PlanRecord). map (deadline_from c.args.moment p) (range_with_len 0 c.min-started.result)) (c.deref-3.ensures ∙ plan) in
    let gone : HasGone c.args.id a (length c.branches-count.result.now) c.give.new.group c.in_ok-first.first.items =
    subst (λ m. HasGone c.args.id a m c.give.new.group c.in_ok-first.first.items) (sym n)
    (subst (λ (x : ArrivedCall). HasGone c.args.id x (length x.plan.branches) c.give.new.group c.in_ok-first.first.items) asked c.in_ok-first.ensures) in
    subst (λ (x : ArrivedCall). IsKept c.args.id c.in_ok-out.out.items c.give.new.group (Some (live_value x c.in_ok-events.events.items c.in_ok-deadlines.deadlines.items))) (sym asked)
    (begun_kept c.args.moment c.args.id a (length c.branches-count.result.now) c.min-started.result c.in_ok-out.out.items c.give.new.group c.in_ok-first.first.items c.in_ok-events.events.items c.in_ok-deadlines.deadlines.items n
    (c.min-started.ensures ∙ ap (λ k. min (length c.branches-count.result.now) k) limit) c.in_ok-out.ensures gone c.in_ok-events.ensures.items times)

pub returns : goal.returns
returns c =
    let a : ArrivedCall = c.args.asked in
    let asked : arc_value c.in_ok-asked.asked ≡ a = c.in_ok-asked.ensures.ok in
    let plan : arc_value c.in_ok-plan.plan ≡ a.plan = c.in_ok-plan.ensures ∙ ap (λ (x : ArrivedCall). x.plan) c.asked.view_is in
    let n : length c.branches-count.result.now ≡ length a.plan.branches =
    ap length c.branches-count.ensures.branches ∙ ap (λ (p : PlanRecord). length p.branches) (c.deref.ensures ∙ plan) in
    let limit : c.limit.result ≡ a.plan.limit = c.limit.ensures.limit ∙ ap (λ (p : PlanRecord). p.limit) (c.deref-2.ensures ∙ plan) in
    let times = c.in_ok-deadlines.ensures.items ∙ ap (λ (p : PlanRecord). map (deadline_from c.args.moment p) (range_with_len 0 c.min-started.result)) (c.deref-3.ensures ∙ plan) in
    let gone : HasGone c.args.id a (length c.branches-count.result.now) c.give.new.group c.in_ok-first.first.items =
    subst (λ m. HasGone c.args.id a m c.give.new.group c.in_ok-first.first.items) (sym n)
    (subst (λ (x : ArrivedCall). HasGone c.args.id x (length x.plan.branches) c.give.new.group c.in_ok-first.first.items) asked c.in_ok-first.ensures) in
    is_begun c.args.moment c.args.id a (arc_value c.in_ok-asked.asked) (length c.branches-count.result.now) c.min-started.result c.in_ok-out.out.items c.give.new.group c.in_ok-first.first.items c.in_ok-events.events.items c.in_ok-deadlines.deadlines.items
    asked n (c.min-started.ensures ∙ ap (λ k. min (length c.branches-count.result.now) k) limit) c.in_ok-out.ensures gone c.in_ok-events.ensures.items times

pub first_deadlines-requires-clause-few : goal.first_deadlines-requires-clause-few
first_deadlines-requires-clause-few c =
    omega (arith, c.min-started.ensures, ap length c.branches-count.ensures.branches, ap (λ (p : PlanRecord). length p.branches) (c.deref.ensures ∙ sym c.deref-3.ensures))

pub invariant_of-live : goal.invariant_of-live
invariant_of-live c =
    let plan = c.in_ok-plan.ensures ∙ ap (λ (x : ArrivedCall). x.plan) (c.asked.view_is ∙ sym c.in_ok-asked.ensures.ok) in
    let some = c.branches-count.ensures.lawful.some in
    let view = ap (λ (p : PlanRecord). length p.branches) c.deref.ensures in (
      plan,
      omega (arith, some, view, ap length c.in_ok-events.ensures.items),
      omega (arith, c.in_ok-events.ensures.capacity, ap length c.branches-count.ensures.branches, view),
      omega (arith, c.in_ok-deadlines.ensures.room, ap (λ (p : PlanRecord). length p.branches) c.deref-3.ensures),
    )

pub give-requires : goal.give-requires
give-requires c =
    let plan = c.in_ok-plan.ensures ∙ ap (λ (x : ArrivedCall). x.plan) (c.asked.view_is ∙ sym c.in_ok-asked.ensures.ok) in
    limit_set c.args.id (arc_value c.in_ok-asked.asked) (record { active = 0; limit = 4294967295; queue = []; first_error = None }) c.new-group.result c.set_limit.new.self c.limit-2.result c.set_limit.result
    c.new-group.ensures.empty refl refl refl c.set_limit.ensures.idle c.set_limit.ensures.ok (c.limit-2.ensures.limit ∙ ap (λ (p : PlanRecord). p.limit) (c.deref-4.ensures ∙ plan))

pub returns-in_err-plan : goal.returns-in_err-plan
returns-in_err-plan c = none_ok _ _ c.from_residual.result c.from_residual.ensures.1

pub returns-in_err-asked : goal.returns-in_err-asked
returns-in_err-asked c = none_ok _ _ c.from_residual-in_err-asked.result c.from_residual-in_err-asked.ensures.1

pub returns-in_err-events : goal.returns-in_err-events
returns-in_err-events c = none_ok _ _ c.from_residual-in_err-events.result c.from_residual-in_err-events.ensures.1

pub returns-in_err-deadlines : goal.returns-in_err-deadlines
returns-in_err-deadlines c = none_ok _ _ c.from_residual-in_err-deadlines.result c.from_residual-in_err-deadlines.ensures.1

pub returns-in_err-out : goal.returns-in_err-out
returns-in_err-out c = none_ok _ _ c.from_residual-in_err-out.result c.from_residual-in_err-out.ensures.1

pub returns-in_err-first : goal.returns-in_err-first
returns-in_err-first c = none_ok _ _ c.from_residual-in_err-first.result c.from_residual-in_err-first.ensures.1
