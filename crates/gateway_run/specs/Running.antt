-- What a run of a list of events comes to.
use Rattle.std.specs.Prelude.{◌≡◌, ℕ, ◌<◌, true, false, if◌then◌else◌, List, [], filter, length, slice_index_or}
use Rattle.call_plan.specs.Plan.{PlanRecord}
use Rattle.gateway_model.specs.Events.{Before, IsOpened, IsRising, Occurs}
use Rattle.gateway_model.specs.Job.{JobValue}
use Rattle.gateway_model.specs.Past.{marked}
use Rattle.gateway_model.specs.Queue.{queued}
use Rattle.gateway_model.specs.Starts.{Placed, occurrences}
use Rattle.gateway_model.specs.declared.event.Event.{Event}
use Rattle.gateway_model.specs.declared.run.Start.{Start}
use Rattle.gateway_model.specs.Run.{IsLived, is_listed, starts_of, is_start_of}
use Rattle.gateway_model.specs.Events.{is_opening}

-- how many stocks of hooks it takes
abbrev pub openings_at : Event → ℕ
openings_at event = if is_opening event then 1 else 0

-- what a run of these events, newest first, comes to: each field is a clause of `run`
pub record IsRun (plans : List PlanRecord) (es : Before) (opened : List ℕ) (queued_bytes : List (List ℕ)) (begun : List Start) (asked : List JobValue) (broken : List ℕ) : Type 0 where
  pub opened_are : IsOpened opened es
  pub queued_are : (occurred : List Placed) → Occurs plans opened es occurred → (c : ℕ) → c < length opened → is_listed c broken ≡ false
      → slice_index_or queued_bytes c [] ≡ queued c (marked (occurrences occurred))
  pub starts_are : (occurred : List Placed) → Occurs plans opened es occurred → (c : ℕ) → is_listed c broken ≡ false
      → filter (is_start_of c) begun ≡ filter (is_start_of c) (starts_of occurred)
  pub lived : (occurred : List Placed) → Occurs plans opened es occurred → (lived : List Placed) × IsLived opened queued_bytes begun asked broken es occurred lived
  pub one_each : length queued_bytes ≡ length opened
  pub known : (c : ℕ) → is_listed c broken ≡ true → c < length opened
  pub rising : IsRising broken
