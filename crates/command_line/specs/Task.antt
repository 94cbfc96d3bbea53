-- What the words of the command line ask for.
use Rattle.std.specs.Prelude.{◌≤◌, ⊤, ℕ, List, [], codes, Option, None, Some, IfSome}
use Rattle.command_line.specs.declared.task.Admin.{Admin}
use Rattle.command_line.specs.declared.task.Log.{Log}
use Rattle.command_line.specs.declared.task.Log.TheVariants.{Off, Failures, All}
use Rattle.command_line.specs.declared.task.Task.{Task}
use Rattle.command_line.specs.declared.task.Task.TheVariants.{Replay, Serve, Check, Version}
use Rattle.script_replay.specs.declared.fault.Fault.{Fault}
use Rattle.script_replay.specs.declared.fault.Fault.TheVariants.{Memory, Words}

-- the seconds of its drain are in their ranges
abbrev pub AreShort : Admin → Type 0
AreShort admin = (admin.drain_after ≤ 3600) × (admin.grace ≤ 3600)

-- so are those for which a connection is kept
abbrev pub IsKeeping : ℕ → Type 0
IsKeeping seconds = (1 ≤ seconds) × (seconds ≤ 3600)

-- its numbers are in their ranges
abbrev pub IsInRange : Task → Type 0
IsInRange Replay = ⊤
IsInRange (Check _) = ⊤
IsInRange Version = ⊤
IsInRange (Serve service) =
    ((1 ≤ service.workers) × (service.workers ≤ 64)) × IfSome service.connections (λ count. (1 ≤ count) × (count ≤ 1000000))
    × IfSome service.admin AreShort × IfSome service.keep IsKeeping

-- the word of `--log`: none where it is not given, an empty one where it stands alone
abbrev pub word_of_log : Log → Option (List ℕ)
word_of_log Off = None
word_of_log Failures = Some []
word_of_log All = Some (codes "all")

-- the faults that reading the words may give
abbrev pub IsOfWords : Fault → Type 0
IsOfWords Words = ⊤
IsOfWords Memory = ⊤
IsOfWords _ = ⊥
