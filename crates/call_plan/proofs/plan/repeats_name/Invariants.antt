use Rattle.std.proofs.Common.{◌≡◌, drop}
use Rattle.call_plan.specs.Plan.{names, has_repeat}
use Rattle.call_plan.proofs.plan.repeats_name.Given as goal

abbrev pub invariant-loop-place : goal.invariant-loop-place
invariant-loop-place l = has_repeat (names l.branches) ≡ has_repeat (names (drop l.place l.branches))
