use Rattle.std.proofs.Common.{◌≡◌, ◌++◌, take}
use Rattle.admin.specs.Names.{branches_named}
use Rattle.admin.proofs.names.add_branches.Given as goal

-- the branches so far
abbrev pub invariant-loop-place : goal.invariant-loop-place
invariant-loop-place l = l.branches.items ≡ l.fn.branches.items ++ take l.place (branches_named l.plan)
