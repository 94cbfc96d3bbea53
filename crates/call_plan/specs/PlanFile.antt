-- A plan file: a JSON array of plans, as `serde_json` reads it.
use Rattle.std.specs.Prelude.{◌≡◌, ◌≢◌, ℕ, MatchResult, List, [], ◌∷◌, ◌++◌, codes, nat_le, if◌then◌else◌, Option, Some, None, option_map, option_and_then, Result, Ok, Err}
use Rattle.std.specs.Option.{option_map_or, option_or}
use Rattle.serde_json.specs.Data.{Data, Items, no_items, item}
use Rattle.serde_json.specs.Find.{get, as_number, as_u64, as_array, as_str}
use Rattle.json_values.specs.Json.{json_of, text_at}
use Rattle.http_pieces.specs.declared.largest.TheConstants.{MAX_DECIMAL}
use Rattle.call_plan.specs.declared.branch.Branch.{Branch}
use Rattle.call_plan.specs.declared.error.PlanError.{PlanError}
use Rattle.call_plan.specs.declared.error.PlanError.TheVariants.{Memory, NotAPlan}
use Rattle.call_plan.specs.Plan.{PlanRecord, plan_fault}
use Rattle.call_plan.specs.Plans.{insert_fault}

-- ---- the shape: each key there, each value of its kind, each number in its range

-- the entries of the array at a key of an object
unfoldable pub array_at : List ℕ → Data → Option Items
array_at key d = option_and_then as_array (get key d)

-- n, if it is at most the greatest
abbrev pub at_most : ℕ → ℕ → Option ℕ
at_most greatest n = if nat_le n greatest then Some n else None

-- A whole number from 0 to the greatest. It is written in digits alone: that is what `serde_json` keeps as an unsigned
-- number, and it keeps `-0`, `1.0`, `1e2` and what is 2^64 or more as numbers of another kind.
unfoldable pub whole_number : ℕ → Data → Option ℕ
whole_number greatest d = option_and_then (at_most greatest) (option_and_then as_u64 (as_number d))

-- the limit of a plan, from 0 to 4,294,967,295
unfoldable pub limit_of : Data → Option ℕ
limit_of d = option_and_then (whole_number 4294967295) (get (codes "limit") d)

-- the timeout of a plan, from 0 to 9,999,999,999, or none where the key is absent
unfoldable pub timeout_of : Data → Option (Option ℕ)
timeout_of d = option_map_or (λ ms. option_map Some (whole_number MAX_DECIMAL ms)) (get (codes "timeout_ms") d) (Some None)

-- what each of the entries is, if each is something
abbrev pub each_of : {A : Type 0} → (Data → Option A) → Items → Option (List A)
each_of f no_items = Some []
each_of f (item d ds) = option_and_then (λ x. option_map (λ xs. x ∷ xs) (each_of f ds)) (f d)

-- n, if it is at least the least
abbrev pub at_least : ℕ → ℕ → Option ℕ
at_least least n = if nat_le least n then Some n else None

-- the timeout of a branch, from 1 to 9,999,999,999, or none where the key is absent
unfoldable pub branch_timeout_of : Data → Option (Option ℕ)
branch_timeout_of d =
    option_map_or (λ ms. option_map Some (option_and_then (at_least 1) (whole_number MAX_DECIMAL ms))) (get (codes "timeout_ms") d) (Some None)

-- the texts of an array
unfoldable pub texts_of : Data → Option (List (List ℕ))
texts_of d = option_and_then (each_of as_str) (as_array d)

-- the names of the fields that a branch passes on, or none where the key is absent
unfoldable pub pass_of : Data → Option (List (List ℕ))
pass_of d = option_map_or texts_of (get (codes "pass") d) (Some [])

-- a branch is an object with the texts `name`, `address` and `path`, and `timeout_ms` and `pass` if they are there
unfoldable pub branch_of : Data → Option Branch
branch_of d =
    option_and_then (λ name. option_and_then (λ address. option_and_then (λ path. option_and_then (λ timeout. option_map (λ pass.
    record { name = name; address = address; path = path; timeout_ms = timeout; pass = pass })
    (pass_of d)) (branch_timeout_of d)) (text_at (codes "path") d)) (text_at (codes "address") d)) (text_at (codes "name") d)

-- the branches of the array at `branches`
unfoldable pub branches_of : Data → Option (List Branch)
branches_of d = option_and_then (each_of branch_of) (array_at (codes "branches") d)

-- a plan is an object with `path`, `limit`, `branches`, and `timeout_ms` if it is there
unfoldable pub plan_of : Data → Option PlanRecord
plan_of d =
    option_and_then (λ path. option_and_then (λ limit. option_and_then (λ timeout. option_map (λ branches.
    record { path = path; limit = limit; timeout = timeout; branches = branches })
    (branches_of d)) (timeout_of d)) (limit_of d)) (text_at (codes "path") d)

-- the plans of an array
unfoldable pub entries_of : Data → Option (List PlanRecord)
entries_of d = option_and_then (each_of plan_of) (as_array d)

-- What a call read is what the shape has, and `NotAPlan` is answered where it has nothing. Only want of memory is left
-- open.
abbrev pub Reads : {A B : Type 0} → (B → A) → Option A → Result B PlanError → Type 0
Reads value shape result = MatchResult result (λ b. shape ≡ Some (value b)) (λ e. e ≢ Memory → (e ≡ NotAPlan) × (shape ≡ None))

-- ---- the plans, taken one by one

-- the fault, or else the result
abbrev pub fault_or : {A : Type 0} → Option PlanError → Result A PlanError → Result A PlanError
fault_or None result = result
fault_or (Some e) result = Err e

-- The plans after those that were taken: each is judged by itself and then against those before it, and the first
-- fault is the answer.
abbrev pub take_plans : List PlanRecord → List PlanRecord → Result (List PlanRecord) PlanError
take_plans taken [] = Ok taken
take_plans taken (p ∷ ps) = fault_or (option_or (plan_fault p) (insert_fault taken p)) (take_plans (taken ++ p ∷ []) ps)

-- The plans of a JSON value: its whole shape is judged before any plan is taken.
unfoldable pub plans_of : Data → Result (List PlanRecord) PlanError
plans_of d = option_map_or (take_plans []) (entries_of d) (Err NotAPlan)

-- The plans of a plan file.
unfoldable pub plans_in : List ℕ → Result (List PlanRecord) PlanError
plans_in text = option_map_or plans_of (json_of text) (Err NotAPlan)
