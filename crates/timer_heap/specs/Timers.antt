-- Timers over the list of operations, newest first. Times are milliseconds.
use Rattle.std.specs.Prelude.{◌≡◌, ℕ, ◌+◌, ◌^◌, ◌<◌, ◌≤◌, List, All, [], ◌∷◌, ◌++◌, filter, Bool, not, ◌==◌, nat_le, if◌then◌else◌, Option, Some, None, option_map, length, max}
use Rattle.std.specs.List.{list_any}
use Rattle.std.specs.Int.Digits.{digits_of}
use Rattle.timer_heap.specs.declared.error.SetError.{SetError}
use Rattle.timer_heap.specs.declared.error.SetError.TheVariants.{Waiting, Exhausted}

-- A timer that waits: the moment from which on it is due, and the id that it was set under.
pub record Timer : Type 0 where
  pub at : ℕ
  pub id : ℕ

-- What changes the timers: one is set, due from `at` on; the one of an id is stopped; the first that is due is popped. A
-- refused `set` is none of these.
pub data TimerOp : Type 0 where
  Set : (at id : ℕ) → TimerOp
  Stop : (id : ℕ) → TimerOp
  PopDue : (now : ℕ) → TimerOp

-- a timer of that id is among these
abbrev pub is_set : ℕ → List Timer → Bool
is_set id entries = list_any (λ e. e.id == id) entries

-- these without the timer of that id
abbrev pub without : ℕ → List Timer → List Timer
without id entries = filter (λ e. not (e.id == id)) entries

-- the one with the lesser time, and of equal times the first
abbrev pub earlier : Timer → Option Timer → Timer
earlier e None = e
earlier e (Some later) = if nat_le e.at later.at then e else later

-- the least by its time, and of equal times the one that was set first
abbrev pub earliest : List Timer → Option Timer
earliest [] = None
earliest (e ∷ es) = Some (earlier e (earliest es))

-- the entry, if its time is not above the moment
abbrev pub if_due : ℕ → Option Timer → Option Timer
if_due now None = None
if_due now (Some e) = if nat_le e.at now then Some e else None

-- what a pop at that moment takes out
abbrev pub popped : ℕ → List Timer → Option Timer
popped now entries = if_due now (earliest entries)

-- It stands among these and is due. Those that were set before it are later, and none of the others is sooner.
pub record IsFirstDue (now : ℕ) (entries : List Timer) (e : Timer) : Type 0 where
  pub before : List Timer
  pub after : List Timer
  pub stands : entries ≡ before ++ e ∷ after
  pub due : e.at ≤ now
  pub before_later : All (λ d. e.at < d.at) before
  pub after_no_sooner : All (λ d. e.at ≤ d.at) after

-- these without an entry that was taken out
abbrev pub left_by : Option Timer → List Timer → List Timer
left_by None entries = entries
left_by (Some e) entries = without e.id entries

-- the least time
abbrev pub next_time : List Timer → Option ℕ
next_time entries = option_map (λ e. e.at) (earliest entries)

-- The timers that wait, in the order of setting: they were set, and since then neither stopped nor popped.
abbrev pub waiting : List TimerOp → List Timer
waiting [] = []
waiting (Set at id ∷ past) = waiting past ++ record { at = at; id = id } ∷ []
waiting (Stop id ∷ past) = without id (waiting past)
waiting (PopDue now ∷ past) = left_by (popped now (waiting past)) (waiting past)

-- how many timers were ever set
abbrev pub sets : List TimerOp → ℕ
sets [] = 0
sets (Set at id ∷ past) = sets past + 1
sets (Stop id ∷ past) = sets past
sets (PopDue now ∷ past) = sets past

-- those that wait, in the order of setting, and how many were ever set
pub record Timing : Type 0 where
  pub entries : List Timer
  pub sets : ℕ

-- what contracts see of timers: the same, and how many exchanges the last call made
pub record Counted : Type 0 where
  pub entries : List Timer
  pub sets : ℕ
  pub moves : ℕ

-- all but the exchanges
abbrev pub timing : Counted → Timing
timing t = record { entries = t.entries; sets = t.sets }

-- The timers stand for the operations: those wait that the operations left waiting, and as many were set.
pub record StandsFor (t : Counted) (past : List TimerOp) : Type 0 where
  pub waiting_is : t.entries ≡ waiting past
  pub sets_is : t.sets ≡ sets past

-- why a timer of that id is not set, but for want of memory
unfoldable pub set_fault : ℕ → Counted → Option SetError
set_fault id t = if is_set id t.entries then Some Waiting else (if nat_le (2 ^ 62) t.sets then Some Exhausted else None)

-- how many digits a number has in base two
unfoldable pub binary_digits : ℕ → ℕ
binary_digits n = length (digits_of 2 n)

-- A call that changed what waits made at most as many exchanges as the greater of the counts of timers, before it and
-- after it, has binary digits. Any other call made none.
abbrev pub MovesWithin : Bool → Counted → Counted → Type 0
MovesWithin changed old new = new.moves ≤ (if changed then binary_digits (max (length old.entries) (length new.entries)) else 0)
