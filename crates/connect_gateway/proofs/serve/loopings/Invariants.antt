use Rattle.std.proofs.Common.{ℕ, List, length}
use Rattle.connect_gateway.specs.Looping.{AreOfFile, ServeFile}
use Rattle.connect_gateway.proofs.serve.loopings.Given as goal

-- the plans that are left are the file's, and the loops that were made serve those
abbrev pub invariant-loop-last : goal.invariant-loop-last
invariant-loop-last g l = (file : List ℕ) → AreOfFile file l.initial.plans.items → AreOfFile file l.plans.items × ServeFile file l.loopings.items

abbrev pub decreases-loop-last : goal.decreases-loop-last
decreases-loop-last g l = length l.plans.items
