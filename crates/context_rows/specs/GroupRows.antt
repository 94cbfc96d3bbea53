-- The worked row's operations, newest first: tasks 10, 11 and 12, errors 70 and 80.
use Rattle.std.specs.Prelude.{ℕ, List, [], ◌∷◌, None, Some, Ok, Err}
use Rattle.err_group.specs.Group.{Operation, SetLimit, TryGo, Go, Done}

-- limit 2, and as many tasks
abbrev pub two_active : List (Operation ℕ ℕ)
two_active = Go 11 ∷ Go 10 ∷ SetLimit (Some 2) ∷ []

-- a third waits; another finds no room, and the limit can't be lifted
abbrev pub third_waits : List (Operation ℕ ℕ)
third_waits = SetLimit None ∷ TryGo ∷ Go 12 ∷ two_active

-- one finishes well, and two with errors
abbrev pub all_finished : List (Operation ℕ ℕ)
all_finished = Done (Err 80) ∷ Done (Err 70) ∷ Done (Ok tt) ∷ third_waits

-- with limit 0 a task waits, nothing can finish, and the limit can't be lifted
abbrev pub never_starts : List (Operation ℕ ℕ)
never_starts = SetLimit None ∷ Done (Err 70) ∷ TryGo ∷ Go 10 ∷ SetLimit (Some 0) ∷ []
