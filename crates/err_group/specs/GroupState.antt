-- A group of tasks as contracts see it, what it answers, and what a finish makes of it.
use Rattle.std.specs.Prelude.{◌≡◌, ℕ, ◌-◌, List, length, drop, slice_get, Bool, true, false, not, ◌&&◌, ◌==◌, nat_lt, if◌then◌else◌, Option, None, is_some, Result, is_err}
use Rattle.std.specs.Option.{option_or, option_copied}
use Rattle.std.specs.Result.{result_err}
use Rattle.err_group.specs.declared.freed.Freed.{Freed}
use Rattle.err_group.specs.declared.waited.Waited.{Waited}
use Rattle.err_group.specs.declared.waited.Waited.TheVariants.{Running, Finished}

-- How many tasks are active, how many may be, which ones wait (the one that came first stands first), and the first error.
pub record GroupState (T E : Type 0) : Type 0 where
  pub active : ℕ
  pub limit : ℕ
  pub queue : List T
  pub first_error : Option E

-- nothing is active or queued
abbrev pub is_idle : {T E : Type 0} → GroupState T E → Bool
is_idle g = (g.active == 0) && (length g.queue == 0)

-- fewer are active than may be
abbrev pub has_room : {T E : Type 0} → GroupState T E → Bool
has_room g = nat_lt g.active g.limit

-- What `wait` tells of a group: that it runs while something is active or queued, else that it has finished, with its first error.
abbrev pub TellsEnd : {T E : Type 0} → GroupState T E → Waited E → Type 0
TellsEnd g Running = is_idle g ≡ false
TellsEnd g (Finished error) = (is_idle g ≡ true) × (option_copied error ≡ g.first_error)

-- What `done` answers: the queue's first, to be started, and whether this is the group's first error. With nothing active, neither.
abbrev pub freed_by : {T E : Type 0} → Result (Unit {0}) E → GroupState T E → Freed T
freed_by outcome g =
    if g.active == 0 then record { next = None; first = false }
    else record { next = slice_get g.queue 0; first = is_err outcome && not (is_some g.first_error) }

-- A task that was active has finished: one is active less, or the queue's first in its place, and an error is kept if it is the first.
pub record Finishes {T E : Type 0} (old new : GroupState T E) (outcome : Result (Unit {0}) E) : Type 0 where
  pub active : new.active ≡ (if length old.queue == 0 then old.active - 1 else old.active)
  pub limit : new.limit ≡ old.limit
  pub queue : new.queue ≡ drop 1 old.queue
  pub first_error : new.first_error ≡ option_or old.first_error (result_err outcome)
