-- The branches of a plan.
use Rattle.std.specs.Prelude.{ℕ, [], None, slice_index_or}
use Rattle.call_plan.specs.declared.branch.Branch.{Branch}
use Rattle.call_plan.specs.Plan.{PlanRecord}

-- the branch of that number; no branch has empty texts
abbrev pub branch_at : PlanRecord → ℕ → Branch
branch_at plan i = slice_index_or plan.branches i (record { name = []; address = []; path = []; timeout_ms = None; pass = [] })
