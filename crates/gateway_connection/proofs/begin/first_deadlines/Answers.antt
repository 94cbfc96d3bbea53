use Rattle.gateway_connection.specs.lemmas.Names.{◌++◌, [], ◌∷◌, map, length, sym, ap, ◌∙◌, arith, deadline_from, map-range_with_len_more, range_with_len, ◌≡◌}
use Rattle.gateway_connection.proofs.ResultLemmas.{none_ok}
use Rattle.gateway_connection.proofs.begin.first_deadlines.Goals as goal

pub loop-branch-init : goal.loop-branch-init
loop-branch-init c = (
  c.in_ok-deadlines.ensures.items,
  ap length c.in_ok-deadlines.ensures.items,
  omega (arith, c.in_ok-deadlines.ensures.capacity, ap length c.branches.ensures.branches),
)

pub push_reserved-requires : goal.push_reserved-requires
push_reserved-requires c = omega (arith, c.loop-branch-test.true, c.requires.few, c.loop-branch.invariant.1, c.loop-branch.invariant.2)

pub loop-branch-preserved : goal.loop-branch-preserved
loop-branch-preserved c = (
  c.push_reserved.ensures.items ∙ ap (λ xs. xs ++ c.deadline_of.result ∷ []) c.loop-branch.invariant.0
      ∙ ap (λ d. map (deadline_from c.args.moment c.args.plan.now) (range_with_len 0 c.loop-branch.branch) ++ d ∷ []) c.deadline_of.ensures.deadline
      ∙ sym (map-range_with_len_more (deadline_from c.args.moment c.args.plan.now) 0 c.loop-branch.branch c.loop-branch.branch (omega arith)),
  omega (arith, c.push_reserved.ensures.len, c.loop-branch.invariant.1),
  omega (arith, c.push_reserved.ensures.capacity, c.loop-branch.invariant.2),
)

pub returns-in_err-deadlines-clause-items : goal.returns-in_err-deadlines-clause-items
returns-in_err-deadlines-clause-items c = none_ok _ _ c.from_residual.result c.from_residual.ensures.1

pub returns-in_err-deadlines-clause-room : goal.returns-in_err-deadlines-clause-room
returns-in_err-deadlines-clause-room c = none_ok _ _ c.from_residual.result c.from_residual.ensures.1

pub returns-clause-items : goal.returns-clause-items
returns-clause-items c =
    let all : c.loop-branch.branch ≡ c.args.first = omega arith in
    c.loop-branch.invariant.0 ∙ ap (λ n. map (deadline_from c.args.moment c.args.plan.now) (range_with_len 0 n)) all

pub returns-clause-room : goal.returns-clause-room
returns-clause-room c = c.loop-branch.invariant.2
