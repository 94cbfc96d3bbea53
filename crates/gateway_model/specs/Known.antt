-- What whoever holds the lock knows of the gateway, whatever events brought it there.
use Rattle.std.specs.Prelude.{◌≡◌, ℕ, ◌≤◌, Bool, true, false, ◌&&◌, not, ◌==◌, List, ◌++◌, length, if◌then◌else◌, Option, None, Some, option_map}
use Rattle.gateway_model.specs.declared.entry.ReplyEntry.{ReplyEntry}
use Rattle.gateway_model.specs.declared.id.CallId.{CallId}
use Rattle.gateway_model.specs.CallRecord.{CallRecord}
use Rattle.gateway_model.specs.Ahead.{BringsNoMore, are_answered, ends_calls, least_deadline}
use Rattle.gateway_model.specs.Breaks.{BreakAsTheyMay, InOrder, by_events}
use Rattle.gateway_model.specs.Events.{connections, is_open}
use Rattle.gateway_model.specs.Job.{JobValue}
use Rattle.gateway_model.specs.Past.{ArrivedCall, Past, branch_deadlines, call, can_be_decided, is_broken, marked, outs}
use Rattle.gateway_model.specs.Queue.{own_events, queued_entries, record_of}
use Rattle.gateway_model.specs.Record.{is_decided, is_lawful}
use Rattle.gateway_model.specs.Starts.{Placed, jobs, occurrences}
use Rattle.gateway_model.specs.History.{History}

-- what is seen of the gateway
pub record Shown : Type 0 where
  -- whether a connection is open, and whether it is open and broken
  pub is_open : ℕ → Bool
  pub is_broken : ℕ → Bool
  -- the replies of a connection that can be taken, in order
  pub untaken : ℕ → List ReplyEntry
  -- the jobs that wait, in order
  pub waiting : List JobValue
  -- how many branches of a call are out
  pub outs : CallId → ℕ
  -- the record so far of a call that can be decided
  pub recorded : CallId → Option CallRecord
  -- whether each request of a connection has its reply, and whether it brings no more requests or replies: both hold of one that is not open
  pub is_idle : ℕ → Bool
  pub is_ended : ℕ → Bool
  -- the least deadline of the calls that can be decided and of their branches that are out, and whether a moment that comes next decides a call
  pub deadline : Option ℕ
  pub ends_calls : ℕ → Bool

-- the connection is open, and is not broken
abbrev pub is_whole : ℕ → Shown → Bool
is_whole c s = s.is_open c && not (s.is_broken c)

-- the job is of a call of that connection
abbrev pub is_of : ℕ → JobValue → Bool
is_of c j = j.call.conn == c

-- the record so far of the call, while it can be decided
abbrev pub record_now : CallId → Past → Option CallRecord
record_now id past = if can_be_decided id past then option_map (λ a. record_of a (branch_deadlines id past) (own_events id past)) (call id past) else None

-- after all that came, by which this occurred
pub record IsKnown (s : Shown) (h : History) (occurred : List Placed) : Type 0 where
  -- what occurred, each at its event, and where connections broke
  pub lived : List Placed
  pub same : by_events lived ≡ occurred
  pub in_order : InOrder (length h.events) lived
  pub breaks : BreakAsTheyMay h.opened h.events lived
  -- the connections that are open are those of the events, and those that broke are broken
  pub open_are : (c : ℕ) → s.is_open c ≡ is_open h.opened c h.events
  pub broken_are : (c : ℕ) → s.is_open c ≡ true → s.is_broken c ≡ is_broken c (marked (occurrences lived))
  -- the replies of an open connection, taken or not, are its queue; the jobs, taken or waiting, are all that started, in order
  pub queue_is : (c : ℕ) → s.is_open c ≡ true → h.taken c ++ s.untaken c ≡ queued_entries c (marked (occurrences lived))
  pub jobs_are : h.handed ++ s.waiting ≡ jobs (marked (occurrences lived))
  -- the branches that are out are those of the definitions, and so are the records of the calls that can be decided: each is lawful, and not decided
  pub outs_are : (id : CallId) → s.outs id ≡ outs id (marked (occurrences lived))
  pub records_are : (id : CallId) → s.recorded id ≡ record_now id (marked (occurrences lived))
  pub records : (id : CallId) (r : CallRecord) → s.recorded id ≡ Some r → (is_lawful r ≡ true) × (is_decided r ≡ false)
  -- an open connection is idle where its requests are answered; it has ended where it broke, or where it is idle and its stream brings no more
  pub idle_are : (c : ℕ) → s.is_open c ≡ true → s.is_idle c ≡ are_answered c (marked (occurrences lived))
  pub ended_are : (c : ℕ) → is_whole c s ≡ true → (over : Bool) × BringsNoMore h.opened c h.events over × (s.is_ended c ≡ (over && s.is_idle c))
  pub idle_gone : (c : ℕ) → s.is_open c ≡ false → s.is_idle c ≡ true
  pub ended_gone : (c : ℕ) → is_whole c s ≡ false → s.is_ended c ≡ true
  -- the deadline is the least of the definitions, and a moment decides a call where they say so
  pub deadline_is : s.deadline ≡ least_deadline (connections h.opened h.events) (marked (occurrences lived))
  pub ends_are : (m : ℕ) → s.ends_calls m ≡ ends_calls (connections h.opened h.events) m (marked (occurrences lived))
  -- no call, of whatever connection, has more branches out than its limit
  pub limit : (id : CallId) (a : ArrivedCall) → call id (marked (occurrences occurred)) ≡ Some a → s.outs id ≤ a.plan.limit
