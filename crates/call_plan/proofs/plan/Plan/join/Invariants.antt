use Rattle.std.proofs.Common.{◌≡◌}
use Rattle.call_plan.proofs.Joining.{joined_to}
use Rattle.call_plan.proofs.plan.Plan.join.Given as goal

-- the members of the branches so far, with commas between
abbrev pub invariant-loop-place : goal.invariant-loop-place
invariant-loop-place l = l.joined ≡ joined_to l.self.branches l.answers l.place
