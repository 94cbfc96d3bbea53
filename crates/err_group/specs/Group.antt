-- *Group*: what a group of tasks is after any list of operations (Go package `errgroup`). That a task waits in a queue, where Go makes its
-- caller wait, is this project's choice. Lists of operations stand newest first.
use Rattle.std.specs.Prelude.{◌≡◌, ℕ, suc, ◌-◌, List, [], ◌∷◌, ◌++◌, length, drop, slice_get, Bool, true, false, ◌==◌, nat_lt, if◌then◌else◌, Option, unwrap_or, Result, option_to_list}
use Rattle.std.specs.Result.{result_err}
use Rattle.err_group.specs.GroupState.{GroupState, is_idle, has_room}

-- What may change a group, with what it is given.
pub data Operation (T E : Type 0) : Type 0 where
  SetLimit : Option ℕ → Operation T E
  TryGo : Operation T E
  Go : T → Operation T E
  Done : Result (Unit {0}) E → Operation T E
  ClearQueue : Operation T E

-- Operations, newest first, each with whether it took effect: whether a limit was set, a task started at once, a finish counted.
abbrev pub Past : Type 0 → Type 0 → Type 0
Past T E = List (Operation T E × Bool)

-- how many may be active where no limit is set (this project's; the most that a `u32` says)
abbrev pub no_limit : ℕ
no_limit = 4294967295

-- the limit that was set last (Go `SetLimit`)
abbrev pub limit_of : {T E : Type 0} → Past T E → ℕ
limit_of [] = no_limit
limit_of ((SetLimit limit, true) ∷ past) = unwrap_or limit no_limit
limit_of ((o, effect) ∷ past) = limit_of past

-- what `go` queued and neither a finish started nor `clear_queue` removed, in order
abbrev pub queue_of : {T E : Type 0} → Past T E → List T
queue_of [] = []
queue_of ((Go task, false) ∷ past) = queue_of past ++ task ∷ []
queue_of ((Done outcome, true) ∷ past) = drop 1 (queue_of past)
queue_of ((ClearQueue, effect) ∷ past) = []
queue_of ((o, effect) ∷ past) = queue_of past

-- how many tasks started: at once (Go `TryGo`, `Go`), or from the queue at a finish
abbrev pub starts_of : {T E : Type 0} → Past T E → ℕ
starts_of [] = 0
starts_of ((TryGo, true) ∷ past) = suc (starts_of past)
starts_of ((Go task, true) ∷ past) = suc (starts_of past)
starts_of ((Done outcome, true) ∷ past) = if length (queue_of past) == 0 then starts_of past else suc (starts_of past)
starts_of ((o, effect) ∷ past) = starts_of past

-- how many finishes counted
abbrev pub finishes_of : {T E : Type 0} → Past T E → ℕ
finishes_of [] = 0
finishes_of ((Done outcome, true) ∷ past) = suc (finishes_of past)
finishes_of ((o, effect) ∷ past) = finishes_of past

-- the errors of the finishes that counted, in order
abbrev pub errors_of : {T E : Type 0} → Past T E → List E
errors_of [] = []
errors_of ((Done outcome, true) ∷ past) = errors_of past ++ option_to_list (result_err outcome)
errors_of ((o, effect) ∷ past) = errors_of past

-- The group of a past: active is starts less finishes, and the first error is the first among the finishes that counted (Go `Wait`).
unfoldable pub group_of : {T E : Type 0} → Past T E → GroupState T E
group_of past = record {
  active = starts_of past - finishes_of past;
  limit = limit_of past;
  queue = queue_of past;
  first_error = slice_get (errors_of past) 0;
}

-- Whether an operation takes effect: a limit is set while nothing is active or queued, a task starts where there is room (Go `TryGo`), and a
-- finish counts while something is active.
abbrev pub takes_effect : {T E : Type 0} → Operation T E → GroupState T E → Bool
takes_effect (SetLimit limit) g = is_idle g
takes_effect TryGo g = has_room g
takes_effect (Go task) g = has_room g
takes_effect (Done outcome) g = nat_lt 0 g.active
takes_effect ClearQueue g = true

-- the past that these operations make
abbrev pub past_of : {T E : Type 0} → List (Operation T E) → Past T E
past_of [] = []
past_of (o ∷ operations) = (o, takes_effect o (group_of (past_of operations))) ∷ past_of operations

-- the group after these operations
abbrev pub after : {T E : Type 0} → List (Operation T E) → GroupState T E
after operations = group_of (past_of operations)

-- The group is what these operations make of a new one.
abbrev pub StandsFor : {T E : Type 0} → GroupState T E → List (Operation T E) → Type 0
StandsFor g operations = g ≡ after operations

-- It stands for some list of operations.
pub record IsReached {T E : Type 0} (g : GroupState T E) : Type 0 where
  pub operations : List (Operation T E)
  pub stands : StandsFor g operations
