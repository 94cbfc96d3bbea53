-- The names by which what is served is counted, and under which place.
use Rattle.std.specs.Prelude.{ℕ, suc, List, [], ◌∷◌, flat_map, position, ◌==◌, ◌&&◌, bytes_eq, length, unwrap_or, Option, option_and_then}
use Rattle.std.specs.Option.{option_map_or}
use Rattle.call_plan.specs.declared.branch.Branch.{Branch}
use Rattle.call_plan.specs.Plan.{PlanRecord}
use Rattle.call_plan.specs.Plans.{plan_at}
use Rattle.access_log.specs.Line.{path_told}
use Rattle.gateway_model.specs.declared.entry.ReplyEntry.{ReplyEntry}
use Rattle.admin.specs.declared.names.BranchName.{BranchName}

-- branches of the plan with that path, of which the first has that number
abbrev pub named_from : List ℕ → ℕ → List Branch → List BranchName
named_from path n [] = []
named_from path n (b ∷ bs) = record { plan = path; number = n; name = b.name } ∷ named_from path (suc n) bs

-- the branches of a plan
abbrev pub branches_named : PlanRecord → List BranchName
branches_named plan = named_from plan.path 0 plan.branches

-- the branches of the plans with these paths
abbrev pub branches_at : List PlanRecord → List (List ℕ) → List BranchName
branches_at plans paths = flat_map (λ path. option_map_or branches_named (plan_at path plans) []) paths

-- the place of the plan with that path
abbrev pub place_of_plan : List ℕ → List (List ℕ) → Option ℕ
place_of_plan path paths = position (λ other. bytes_eq other path) paths

-- the place of the plan of the reply's call, or the one behind all plans
abbrev pub place_of_reply : ReplyEntry → List (List ℕ) → ℕ
place_of_reply entry paths = unwrap_or (option_and_then (λ path. place_of_plan path paths) (path_told entry)) (length paths)

-- the place of the branch with that number of the plan with that path
abbrev pub place_of_branch : List ℕ → ℕ → List BranchName → Option ℕ
place_of_branch path number branches =
    position (λ branch. (branch.number == number) && bytes_eq branch.plan path) branches
