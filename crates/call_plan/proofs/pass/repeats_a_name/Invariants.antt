use Rattle.std.proofs.Common.{◌≡◌, drop}
use Rattle.call_plan.specs.Pass.{has_same_name}
use Rattle.call_plan.proofs.pass.repeats_a_name.Given as goal

abbrev pub invariant-loop-place : goal.invariant-loop-place
invariant-loop-place l = has_same_name l.names ≡ has_same_name (drop l.place l.names)
