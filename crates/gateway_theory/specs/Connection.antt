-- A connection as a value of its own: what an occurrence makes of it, and what it stands for.
use Rattle.std.specs.Prelude.{◌≡◌, ⊤, ℕ, suc, ◌+◌, max, Bool, false, ◌&&◌, ◌||◌, not, if◌then◌else◌, ◌==◌, List, [], ◌∷◌, ◌++◌, length, map, Option, Some}
use Rattle.std.specs.Option.{option_or}
use Rattle.gateway_model.specs.declared.entry.ReplyEntry.{ReplyEntry}
use Rattle.gateway_model.specs.Job.{JobValue}
use Rattle.gateway_model.specs.Occurrence.{Break, Closing, Comes, Coming, Occurrence, Result}
use Rattle.gateway_model.specs.Own.{is_visible, own}
use Rattle.gateway_model.specs.Past.{Past, arrivals, breaks, call_id, is_broken, is_drain, is_drained, marked, is_shut, moment_of, now}
use Rattle.gateway_model.specs.Queue.{entry}
use Rattle.gateway_model.specs.Starts.{jobs}
use Rattle.gateway_theory.specs.Begins.{arrive}
use Rattle.gateway_theory.specs.LiveStands.{CallStands}
use Rattle.gateway_theory.specs.Conn.{is_full, slot_at}
use Rattle.gateway_theory.specs.Step.{Step}
use Rattle.gateway_theory.specs.Values.{gone, ConnectionValue}
use Rattle.gateway_theory.specs.Step as one_call

-- what is the same for all connections: the moment, and whether the gateway was drained
pub record Now : Type 0 where
  pub moment : ℕ
  pub drained : Bool

abbrev pub now_of : ℕ → Bool → Now
now_of moment drained = record { moment = moment; drained = drained }

-- at an occurrence
abbrev pub now_after : Occurrence → Now → Now
now_after o n = now_of (max n.moment (moment_of o)) (is_drain o || n.drained)

-- no call of it can be decided any more
abbrev pub is_shut_value : ConnectionValue → Bool
is_shut_value v = v.closed || v.broken

-- the number of its next request
abbrev pub next : ConnectionValue → ℕ
next v = v.taken + length v.slots

-- ---- what an occurrence makes of it

-- a connection, and the jobs that start
pub record Stepped : Type 0 where
  pub conn : ConnectionValue
  pub jobs : List JobValue

abbrev pub stepped : ConnectionValue → List JobValue → Stepped
stepped conn jobs = record { conn = conn; jobs = jobs }

-- what comes as its next request
abbrev pub arriving : Now → Coming → ConnectionValue → Step
arriving n x v = arrive n.moment n.drained (is_full v.slots) (call_id v.number (next v)) x

-- a request more, of which this was made
abbrev pub entered : Step → ConnectionValue → ConnectionValue
entered s v = record v { slots = v.slots ++ s.reply ∷ []; calls = λ k. if next v == k then s.call else v.calls k }

-- what an occurrence at which nothing comes makes of the call of that request
abbrev pub call_step : Now → Occurrence → ConnectionValue → ℕ → Step
call_step n o v k = one_call.step n.moment (call_id v.number k) o (v.calls k)

-- the slots of the requests from that number on, each filled by its reply, unless it is
abbrev pub filled : (ℕ → Option ReplyEntry) → ℕ → List (Option ReplyEntry) → List (Option ReplyEntry)
filled reply k [] = []
filled reply k (s ∷ slots) = option_or s (reply k) ∷ filled reply (suc k) slots

-- it closes that connection
abbrev pub closes : ℕ → Occurrence → Bool
closes conn (Closing c) = c == conn
closes conn _ = false

-- each of its calls makes its step
abbrev pub went : Now → Occurrence → ConnectionValue → ConnectionValue
went n o v = record v {
  slots = if closes v.number o then [] else filled (λ k. (call_step n o v k).reply) v.taken v.slots;
  calls = λ k. (call_step n o v k).call;
  broken = not (closes v.number o) && ((breaks v.number o && not v.closed) || v.broken);
  closed = closes v.number o || v.closed;
}

-- the jobs that a result starts
abbrev pub started_by : Now → Occurrence → ConnectionValue → List JobValue
started_by n (Result of i outcome) v = (call_step n (Result of i outcome) v of.request).jobs
started_by n o v = []

-- what an occurrence that is visible to it makes of it: on one that is broken nothing comes
abbrev pub step : Now → Occurrence → ConnectionValue → Stepped
step n (Comes c x) v = if v.broken then stepped v [] else stepped (entered (arriving n x v) v) (arriving n x v).jobs
step n o v = stepped (went n o v) (started_by n o v)

-- something comes on it only as long as it is not closed
abbrev pub MayCome : Occurrence → ConnectionValue → Type 0
MayCome (Comes c x) v = c ≡ v.number → v.broken ≡ false → v.closed ≡ false
MayCome o v = ⊤

-- all connections after an occurrence: those to which it is visible make their step
abbrev pub all_after : Now → Occurrence → (ℕ → ConnectionValue) → ℕ → ConnectionValue
all_after n o conns c = if is_visible c o then (step n o (conns c)).conn else conns c

-- the jobs that start at it
abbrev pub all_started : Now → Occurrence → (ℕ → ConnectionValue) → List JobValue
all_started n (Comes c x) conns = (step n (Comes c x) (conns c)).jobs
all_started n (Result of i outcome) conns = (step n (Result of i outcome) (conns of.conn)).jobs
all_started n o conns = []

-- ---- what is taken of it, and what is not kept any more

-- the first reply was taken, and these slots are left
abbrev pub reply_taken : List (Option ReplyEntry) → ConnectionValue → ConnectionValue
reply_taken rest v = record v { taken = v.taken + 1; slots = rest }

-- the call of that request is not kept any more
abbrev pub forgets : ℕ → ConnectionValue → ConnectionValue
forgets k v = record v { calls = λ j. if j == k then gone else v.calls j }

-- ---- what it stands for

-- it is so now, after what has occurred, newest first
pub record NowStands (n : Now) (os : List Occurrence) : Type 0 where
  pub moment_is : n.moment ≡ now (marked os)
  pub drained_is : n.drained ≡ is_drained (marked os)

-- all slots of a connection: each has its request's entry, once that is decided
pub record SlotsStand (c : ℕ) (slots : List (Option ReplyEntry)) (past : Past) : Type 0 where
  pub size_is : length slots ≡ arrivals c past
  pub each : (k : ℕ) → slot_at k slots ≡ entry (call_id c k) past

-- those break, the last first
abbrev pub breaks_of : List ℕ → List Occurrence
breaks_of cs = map Break cs

-- the connection after what has occurred of it, where these replies were taken: its slots, until it is closed, and its calls are those of the
-- definitions
pub record ConnectionStands (v : ConnectionValue) (taken : List ReplyEntry) (os : List Occurrence) : Type 0 where
  pub taken_is : v.closed ≡ false → v.taken ≡ length taken
  pub slots_stand : v.closed ≡ false → SlotsStand v.number (map Some taken ++ v.slots) (marked os)
  pub calls : (k : ℕ) → CallStands (call_id v.number k) (v.calls k) (marked os)
  pub broken_is : v.broken ≡ (not v.closed && is_broken v.number (marked os))
  pub shut_is : is_shut_value v ≡ is_shut v.number (marked os)

-- ---- all connections

-- the gateway, of which this is the connection of each number, after all that has occurred, where these replies and jobs were taken and these wait
pub record AllStand (n : Now) (conns : ℕ → ConnectionValue) (taken : ℕ → List ReplyEntry) (handed waiting : List JobValue) (os : List Occurrence) : Type 0 where
  pub now : NowStands n os
  pub numbers : (c : ℕ) → (conns c).number ≡ c
  pub each : (c : ℕ) → ConnectionStands (conns c) (taken c) (own c os)
  pub jobs_are : handed ++ waiting ≡ jobs (marked os)
