-- What a run takes down as it goes, and how it stands for the events so far.
use Rattle.std.specs.Prelude.{◌≡◌, ℕ, ◌<◌, ◌≤◌, Bool, true, false, ◌||◌, if◌then◌else◌, ◌==◌, List, [], ◌++◌, length, map, slice_index_or, slice_set}
use Rattle.gateway_model.specs.declared.entry.ReplyEntry.{ReplyEntry}
use Rattle.gateway_model.specs.Breaks.{by_events}
use Rattle.gateway_model.specs.Events.{Before, IsOpened, Occurs}
use Rattle.gateway_theory.specs.Gateway.{is_broken_conn, is_open_conn, jobs_of, untaken_of, with_jobs}
use Rattle.gateway_theory.specs.Values.{GatewayValue}
use Rattle.gateway_model.specs.Job.{JobValue}
use Rattle.gateway_model.specs.Past.{is_broken, marked}
use Rattle.gateway_model.specs.Queue.{queued_entries}
use Rattle.gateway_theory.specs.Served.{Lives, Served}
use Rattle.gateway_theory.specs.Serving.{TakesOnly}
use Rattle.gateway_model.specs.Starts.{Placed, occurrences, starts}
use Rattle.gateway_theory.specs.Starting.{StartedJob, job_started}
use Rattle.gateway_model.specs.declared.run.Start.{Start}
use Rattle.gateway_model.specs.Run.{bytes_of, run_start}
use Rattle.gateway_model.specs.History.{History, history_of, after_jobs}

-- the start of a job's branch at the event of that place
abbrev pub start_at : ℕ → JobValue → Start
start_at place job = run_start (place, job)

pub record LogValue : Type 0 where
  -- the places of the openings that succeeded
  pub opened : List ℕ
  -- what was taken for each connection, and whether it was broken as it was looked at last
  pub queued : List (List ℕ)
  pub broke : List Bool
  -- what started, and the jobs that were taken, one for each start
  pub starts : List Start
  pub jobs : List JobValue

abbrev pub log_value : List ℕ → List (List ℕ) → List Bool → List Start → List JobValue → LogValue
log_value opened queued broke starts jobs = record { opened = opened; queued = queued; broke = broke; starts = starts; jobs = jobs }

abbrev pub queue_at : ℕ → LogValue → List ℕ
queue_at c log = slice_index_or log.queued c []

abbrev pub flag_at : ℕ → LogValue → Bool
flag_at c log = slice_index_or log.broke c false

-- ---- what is taken

-- these replies of the connection were taken, and nothing else changed
pub record TookReplies (n : ℕ) (entries : List ReplyEntry) (v w : GatewayValue) : Type 0 where
  pub only : TakesOnly n v w
  pub untaken_are : untaken_of n v ≡ entries ++ untaken_of n w
  pub later : History → ℕ → List ReplyEntry
  pub later_is : (h : History) (c : ℕ) → later h c ≡ (if c == n then h.taken c ++ entries else h.taken c)
  pub served : (h : History) → Served v h → Served w (record h { taken = later h })
  pub lives : (h : History) (lived : List Placed) → Lives v h lived → Lives w (record h { taken = later h }) lived

-- the log, in which this stands behind what was queued for the connection, and whether it is broken
abbrev pub log_with : ℕ → List ℕ → Bool → LogValue → LogValue
log_with n bytes broken log = record log { queued = slice_set log.queued n (queue_at n log ++ bytes); broke = slice_set log.broke n (flag_at n log || broken) }

-- what is queued for a connection was taken, if it was opened
pub data Collects (n : ℕ) (v w : GatewayValue) (log later : LogValue) : Type 0 where
  absent : length log.queued ≤ n → w ≡ v → later ≡ log → Collects n v w log later
  gathers : n < length log.queued → TookReplies n (untaken_of n v) v w → later ≡ log_with n (bytes_of (untaken_of n v)) (is_broken_conn n v) log → Collects n v w log later

-- all jobs were taken
pub record StartsAll (place : ℕ) (v w : GatewayValue) (log later : LogValue) : Type 0 where
  pub rest : w ≡ with_jobs [] v
  pub served : (h : History) → Served v h → Served w (after_jobs (jobs_of v) h)
  pub lives : (h : History) (lived : List Placed) → Lives v h lived → Lives w (after_jobs (jobs_of v) h) lived
  pub log_is : later ≡ record log { starts = log.starts ++ map (start_at place) (jobs_of v); jobs = log.jobs ++ jobs_of v }

-- ---- how it stands for the events

-- of a connection that was closed: whether it broke, and what was queued for it
pub record ClosedSo (c : ℕ) (log : LogValue) (taken : ℕ → List ReplyEntry) (lived : List Placed) : Type 0 where
  pub broken_is : flag_at c log ≡ is_broken c (marked (occurrences lived))
  pub queue_is : taken c ≡ queued_entries c (marked (occurrences lived))

-- what was lived, where that occurred, and these replies were taken and these jobs started
pub record HasLived (v : GatewayValue) (log : LogValue) (es : Before) (taken : ℕ → List ReplyEntry) (started : List StartedJob) (occurred : List Placed) : Type 0 where
  pub lived : List Placed
  pub same : by_events lived ≡ occurred
  pub lives : Lives v (history_of log.opened es taken (map job_started started)) lived
  pub starts_lived : started ≡ starts lived
  pub shut : (c : ℕ) → c < v.opened → is_open_conn c v ≡ false → ClosedSo c log taken lived

-- how far a run is after these events, newest first, where what is queued was taken for those of the open connections of which this is so
pub record HasRun (gathered : ℕ → Bool) (v : GatewayValue) (log : LogValue) (es : Before) : Type 0 where
  pub taken : ℕ → List ReplyEntry
  pub started : List StartedJob
  pub served : Served v (history_of log.opened es taken (map job_started started))
  pub no_jobs : jobs_of v ≡ []
  pub opened_are : IsOpened log.opened es
  pub opened_size : length log.opened ≡ v.opened
  pub queued_size : length log.queued ≡ v.opened
  pub broke_size : length log.broke ≡ v.opened
  pub starts_are : log.starts ≡ map run_start started
  pub jobs_are : log.jobs ≡ map job_started started
  pub queued_are : (c : ℕ) → queue_at c log ≡ bytes_of (taken c)
  pub unflagged : (c : ℕ) → gathered c ≡ false → is_open_conn c v ≡ true → flag_at c log ≡ false
  pub flagged : (c : ℕ) → gathered c ≡ true → is_open_conn c v ≡ true → flag_at c log ≡ is_broken_conn c v
  pub none_left : (c : ℕ) → gathered c ≡ true → untaken_of c v ≡ []
  pub has_lived : (occurred : List Placed) → Occurs v.plans log.opened es occurred → HasLived v log es taken started occurred
