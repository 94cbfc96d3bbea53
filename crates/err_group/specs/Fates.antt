-- What becomes of the tasks that wait in a group's queue.
use Rattle.std.specs.Prelude.{List, [], ◌∷◌, ◌++◌, map, take, true, false}
use Rattle.err_group.specs.Group.{Go, Done, ClearQueue, Past, queue_of}

-- A task that waited was started by a finish, or removed by `clear_queue`.
pub data Fate (T : Type 0) : Type 0 where
  Started : T → Fate T
  Removed : T → Fate T

abbrev pub task_of : {T : Type 0} → Fate T → T
task_of (Started task) = task
task_of (Removed task) = task

-- the tasks that `go` queued, in order
abbrev pub queued_of : {T E : Type 0} → Past T E → List T
queued_of [] = []
queued_of ((Go task, false) ∷ past) = queued_of past ++ task ∷ []
queued_of ((o, effect) ∷ past) = queued_of past

-- what became of them, in the order in which they left the queue
abbrev pub fates_of : {T E : Type 0} → Past T E → List (Fate T)
fates_of [] = []
fates_of ((Done outcome, true) ∷ past) = fates_of past ++ map Started (take 1 (queue_of past))
fates_of ((ClearQueue, effect) ∷ past) = fates_of past ++ map Removed (queue_of past)
fates_of ((o, effect) ∷ past) = fates_of past
