-- What a worker does with the jobs that it takes, and what an exchange over ends that wait writes and reads.
use Rattle.std.specs.Prelude.{◌≡◌, ℕ, ◌≤◌, ⊤, Bool, true, false, List, [], ◌∷◌, ◌++◌, length, Option, Some, None, Result, Ok, Err, MatchBool}
use Rattle.std.specs.List.{AllZip}
use Rattle.std.specs.Io.KnownBytes.{Appends, Consumes}
use Rattle.http_pieces.specs.declared.reply.HttpReply.{HttpReply}
use Rattle.connect_codec.specs.declared.answer.Outcome.{Outcome}
use Rattle.gateway_theory.specs.Task.{HandedJob}
use Rattle.branch_exchange.specs.Exchange.{BeginsWithReply}
use Rattle.http_pieces.specs.declared.framing.Framing.TheVariants as framing
use Rattle.branch_exchange.specs.Outcomes.{outcome_of_asked}
use Rattle.branch_exchange.specs.declared.asked.Asked.{Asked}
use Rattle.branch_exchange.specs.declared.asked.Asked.TheVariants.{Lost}
use Rattle.backend_pool.specs.declared.working.DeskRecord.{DeskRecord}

-- ---- what is recorded of a job

-- the answer is one that the backend gives for the job; a job that is not wanted is not asked, and counts as lost
abbrev pub ComesOf : (HandedJob → Asked → Type 0) → HandedJob → Asked → Type 0
ComesOf gives job asked = MatchBool job.wanted (gives job asked) (asked ≡ Lost)

-- the outcome is that of such an answer; there is none where no memory was found for one
abbrev pub IsOutcomeOf : (HandedJob → Asked → Type 0) → HandedJob → Option Outcome → Type 0
IsOutcomeOf gives job None = ⊤
IsOutcomeOf gives job (Some outcome) = (asked : Asked) × ComesOf gives job asked × (outcome_of_asked asked ≡ Some outcome)

-- the record has the job's call and branch, and such an outcome
pub record IsRecordOf (gives : HandedJob → Asked → Type 0) (job : HandedJob) (entry : DeskRecord) : Type 0 where
  pub call_is : entry.call ≡ job.job.call
  pub branch_is : entry.branch ≡ job.job.branch
  pub outcome_is : IsOutcomeOf gives job entry.outcome

abbrev pub desk_record : HandedJob → Option Outcome → DeskRecord
desk_record job outcome = record { call = job.job.call; branch = job.job.branch; outcome = outcome }

-- ---- desks

-- what a desk in memory tells: the jobs that wait at it, and what was recorded, in order
pub record Told : Type 0 where
  pub waiting : List HandedJob
  pub records : List DeskRecord

-- the first job that waits is given, or nothing changes
abbrev pub NextTells : Option Told → Option Told → Option HandedJob → Type 0
NextTells None new job = ⊤
NextTells (Some old) None job = ⊥
NextTells (Some old) (Some new) None = new ≡ old
NextTells (Some old) (Some new) (Some job) = (old.waiting ≡ job ∷ new.waiting) × (new.records ≡ old.records)

-- the outcome is recorded behind what was, or nothing changes
abbrev pub RecordTells : Option Told → Option Told → HandedJob → Option Outcome → Bool → Type 0
RecordTells None new job outcome result = ⊤
RecordTells (Some old) None job outcome result = ⊥
RecordTells (Some old) (Some new) job outcome true = (new.waiting ≡ old.waiting) × (new.records ≡ old.records ++ desk_record job outcome ∷ [])
RecordTells (Some old) (Some new) job outcome false = new ≡ old

-- ---- the work

-- these jobs were taken, in order, and for each of them one record was made, in order, but for so many of the last ones
pub record Works (gives : HandedJob → Asked → Type 0) (most : ℕ) (old new : Told) : Type 0 where
  pub jobs : List HandedJob
  pub last : List HandedJob
  pub written : List DeskRecord
  pub took : old.waiting ≡ (jobs ++ last) ++ new.waiting
  pub wrote : new.records ≡ old.records ++ written
  pub each : AllZip (IsRecordOf gives) jobs written
  pub few : length last ≤ most

-- the same of a desk that tells its records
abbrev pub WorksAt : (HandedJob → Asked → Type 0) → ℕ → Option Told → Option Told → Type 0
WorksAt gives most None new = ⊤
WorksAt gives most (Some old) None = ⊥
WorksAt gives most (Some old) (Some new) = Works gives most old new

-- how many jobs were taken and not recorded, by whether all were recorded
abbrev pub unrecorded : Bool → ℕ
unrecorded true = 0
unrecorded false = 1

-- how many results of a worker's jobs were not counted, by how it ended
abbrev pub uncounted : {E : Type 0} → Result ⊤ E → ℕ
uncounted (Ok done) = 0
uncounted (Err full) = 1

-- ---- an exchange

-- known bytes grew by the first of what was left
abbrev pub SendsOn : Option (List ℕ) → Option (List ℕ) → List ℕ → List ℕ → Type 0
SendsOn old new left rest = (sent : List ℕ) × Appends old new sent × (left ≡ sent ++ rest)

-- bytes were read that begin with this reply
abbrev pub ReadsReply : Option (List ℕ) → Option (List ℕ) → HttpReply → Type 0
ReadsReply old new reply = (bytes : List ℕ) × Consumes old new bytes × BeginsWithReply framing.Fixed bytes reply
