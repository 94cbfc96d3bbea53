use Rattle.std.proofs.Common.{◌≡◌, take}
use Rattle.admin.specs.Names.{branches_at}
use Rattle.admin.proofs.names.ServedNames.of.Given as goal

-- the branches of the plans so far
abbrev pub invariant-loop-path : goal.invariant-loop-path
invariant-loop-path l = l.branches.items ≡ branches_at l.fn.plans (take l.path-index l.path-items)
