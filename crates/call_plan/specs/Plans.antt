-- Several plans: which one a path names, and why another is not taken.
use Rattle.std.specs.Prelude.{◌≡◌, ℕ, ◌≤◌, List, map, length, All, find, bytes_eq, nat_le, false, if◌then◌else◌, Option, Some, None, is_some}
use Rattle.call_plan.specs.declared.error.PlanError.{PlanError}
use Rattle.call_plan.specs.declared.error.PlanError.TheVariants.{RepeatedPath, TooManyPlans}
use Rattle.call_plan.specs.Plan.{PlanRecord, IsLawful, has_repeat}

-- the plan of that path, or none
abbrev pub plan_at : List ℕ → List PlanRecord → Option PlanRecord
plan_at path plans = find (λ p. bytes_eq p.path path) plans

-- Why a lawful plan is not taken: one of its path is there, or 256 plans are.
unfoldable pub insert_fault : List PlanRecord → PlanRecord → Option PlanError
insert_fault plans p =
    if is_some (plan_at p.path plans) then Some RepeatedPath else (if nat_le 256 (length plans) then Some TooManyPlans else None)

-- Plans that exist are lawful, at most 256, and no two have one path.
pub record AreLawful (plans : List PlanRecord) : Type 0 where
  pub lawful : All IsLawful plans
  pub few : length plans ≤ 256
  pub distinct : has_repeat (map (λ p. p.path) plans) ≡ false
