use Rattle.gateway_connection.specs.lemmas.Names.{◌≡◌, ◌≤◌, map, length, deadline_from, range_with_len}
use Rattle.std.specs.Vec.{vec_capacity}
use Rattle.gateway_connection.proofs.begin.first_deadlines.Given as goal

abbrev pub invariant-loop-branch : goal.invariant-loop-branch
invariant-loop-branch l = (l.deadlines.items ≡ map (deadline_from l.moment l.plan) (range_with_len 0 l.branch))
    × (length l.deadlines.items ≡ l.branch) × (length l.plan.branches ≤ vec_capacity l.deadlines)
