-- A plan as contracts see it, when it is lawful, why it is refused, and the text that joins its answers.
use Rattle.std.specs.Prelude.{◌≡◌, ℕ, ◌<◌, ◌≤◌, List, [], ◌∷◌, ◌++◌, map, zip, length, codes, Bool, true, false, not, ◌&&◌, ◌||◌, ◌==◌, nat_lt, nat_le, if◌then◌else◌, IsTrue, bytes_eq, slice_get, Option, Some, None, option_and_then}
use Rattle.std.specs.List.{list_all, list_any, join_with_byte}
use Rattle.http_pieces.specs.declared.largest.TheConstants.{MAX_DECIMAL}
use Rattle.call_plan.specs.declared.branch.Branch.{Branch}
use Rattle.call_plan.specs.declared.error.PlanError.{PlanError}
use Rattle.call_plan.specs.declared.error.PlanError.TheVariants.{NotAPlan, BadName, NoBranch, TooManyBranches, ZeroLimit, RepeatedName}
use Rattle.call_plan.specs.Pass.{may_pass}
use Rattle.call_plan.specs.Rules.{is_name, is_address, is_path}

-- What a plan says: its path, how many branches may be out at a time, the milliseconds that a call may take, and its
-- branches in declared order. Texts are lists of their bytes.
pub record PlanRecord : Type 0 where
  pub path : List ℕ
  pub limit : ℕ
  pub timeout : Option ℕ
  pub branches : List Branch

-- a timeout is at most the milliseconds that `Connect-Timeout-Ms` can say, 9,999,999,999, or absent
abbrev pub is_timeout : Option ℕ → Bool
is_timeout None = true
is_timeout (Some ms) = nat_le ms MAX_DECIMAL

-- the branch goes to a lawful address and path
abbrev pub has_target : Branch → Bool
has_target b = is_address b.address && is_path b.path

-- a branch's timeout is one of the milliseconds from 1 to 9,999,999,999, or absent
abbrev pub is_branch_timeout : Option ℕ → Bool
is_branch_timeout None = true
is_branch_timeout (Some ms) = nat_le 1 ms && nat_le ms MAX_DECIMAL

-- the branch's timeout is in its range
abbrev pub has_time : Branch → Bool
has_time b = is_branch_timeout b.timeout_ms

-- fields of the names that the branch has may be passed on
abbrev pub has_pass : Branch → Bool
has_pass b = may_pass b.pass

-- the paths, the addresses and the names of fields are lawful, and the timeouts are in their ranges
abbrev pub is_well_formed : List ℕ → Option ℕ → List Branch → Bool
is_well_formed path timeout branches =
    is_path path && is_timeout timeout && list_all has_target branches && list_all has_time branches && list_all has_pass branches

-- the timeout of the branch of that number, in milliseconds
abbrev pub time_of : PlanRecord → ℕ → Option ℕ
time_of p i = option_and_then (λ (b : Branch). b.timeout_ms) (slice_get p.branches i)

-- the branch's name is lawful
abbrev pub has_name : Branch → Bool
has_name b = is_name b.name

-- the branches' names, in declared order
abbrev pub names : List Branch → List (List ℕ)
names branches = map (λ b. b.name) branches

-- some text stands twice
abbrev pub has_repeat : List (List ℕ) → Bool
has_repeat [] = false
has_repeat (x ∷ xs) = list_any (bytes_eq x) xs || has_repeat xs

-- Why a plan is refused: the first that applies, or nothing.
unfoldable pub plan_fault : PlanRecord → Option PlanError
plan_fault p =
    if not (is_well_formed p.path p.timeout p.branches) then Some NotAPlan
    else (if not (list_all has_name p.branches) then Some BadName
    else (if length p.branches == 0 then Some NoBranch
    else (if nat_lt 16 (length p.branches) then Some TooManyBranches
    else (if p.limit == 0 then Some ZeroLimit
    else (if has_repeat (names p.branches) then Some RepeatedName
    else None)))))

-- A plan that exists is lawful.
pub record IsLawful (p : PlanRecord) : Type 0 where
  pub well_formed : IsTrue (is_well_formed p.path p.timeout p.branches)
  pub named : IsTrue (list_all has_name p.branches)
  pub some : 0 < length p.branches
  pub few : length p.branches ≤ 16
  pub limited : 0 < p.limit
  pub distinct : has_repeat (names p.branches) ≡ false

-- `"name":` and the answer's own bytes
abbrev pub member_text : List ℕ → List ℕ → List ℕ
member_text name answer = codes "\"" ++ name ++ codes "\":" ++ answer

-- a member for each branch, in declared order
abbrev pub member_texts : List Branch → List (List ℕ) → List (List ℕ)
member_texts branches answers = map (λ m. member_text m.0.name m.1) (zip branches answers)

-- the byte `,`
abbrev pub comma : ℕ
comma = 44

-- Join: `{`, the members with commas between, `}`.
unfoldable pub join_text : List Branch → List (List ℕ) → List ℕ
join_text branches answers = codes "{" ++ join_with_byte comma (member_texts branches answers) ++ codes "}"
