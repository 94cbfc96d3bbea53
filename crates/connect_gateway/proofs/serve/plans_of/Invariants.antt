use Rattle.connect_gateway.specs.Looping.{AreOfFile}
use Rattle.connect_gateway.proofs.serve.plans_of.Given as goal

-- those that were made are the file's
abbrev pub invariant-loop-worker : goal.invariant-loop-worker
invariant-loop-worker l = AreOfFile l.file l.plans.items
