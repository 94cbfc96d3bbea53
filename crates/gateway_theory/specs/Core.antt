-- All connections with their streams, and what they stand for by the events.
use Rattle.std.specs.Prelude.{◌≡◌, ℕ, ◌+◌, ◌<◌, ◌≤◌, ◌&&◌, Bool, true, false, not, List, [], ◌∷◌, ◌++◌, nat_lt, length, map, reverse}
use Rattle.http_pieces.specs.Reader.{HasRead, ReaderValue, Reading, Stopped, Waiting}
use Rattle.http_pieces.specs.Request.{HttpRequest}
use Rattle.http_pieces.specs.Requests.{Requests, StreamEnd}
use Rattle.call_plan.specs.Plan.{PlanRecord}
use Rattle.gateway_model.specs.declared.event.Event.{Event}
use Rattle.gateway_model.specs.declared.event.Event.TheVariants.{Piece}
use Rattle.gateway_model.specs.Breaks.{BreakAsTheyMay, InOrder, by_events}
use Rattle.gateway_model.specs.Events.{Before, Gains, Occurs, OccursAt, connections, hung_up, is_open, stream, succeeds}
use Rattle.gateway_model.specs.History.{History}
use Rattle.gateway_model.specs.Job.{JobValue}
use Rattle.gateway_model.specs.Known.{Shown}
use Rattle.gateway_model.specs.Occurrence.{Coming, Occurrence}
use Rattle.gateway_model.specs.Own.{without_breaks}
use Rattle.gateway_model.specs.Starts.{Placed, occurrences}
use Rattle.gateway_theory.specs.Arrivals.{calls_arrived}
use Rattle.gateway_theory.specs.Connection.{AllStand, Now, next}
use Rattle.gateway_theory.specs.Values.{ConnectionValue, StreamValue, is_open_value, shown_of}

-- a refusal counts as a request
abbrev pub refusals : Reading → ℕ
refusals (Stopped r) = 1
refusals _ = 0

abbrev pub is_waiting : Reading → Bool
is_waiting (Waiting q) = true
is_waiting _ = false

-- a stream that goes on: its text was read, and what it brought has come on its connection
pub record HasCome (v : ConnectionValue) (reader : ReaderValue) (text : List ℕ) : Type 0 where
  pub given : List HttpRequest
  pub reads : HasRead reader text given
  pub settled : is_waiting reader.reading ≡ false
  pub came : next v ≡ length given + refusals reader.reading

-- pieces of the stream of an open connection are taken
abbrev pub is_heard : ConnectionValue → StreamValue → Bool
is_heard v s = not v.broken && not s.hung_up

-- a connection and its stream after these events, newest first, of which the openings at those places succeeded: so many
pub record StreamStands (opened : List ℕ) (events : Before) (count c : ℕ) (v : ConnectionValue) (s : StreamValue) : Type 0 where
  -- on one that was not opened yet nothing came, and it is not closed
  pub unopened : nat_lt c count ≡ false → (next v ≡ 0) × (v.closed ≡ false)
  pub open_is : is_open opened c events ≡ is_open_value count c v
  -- of one that is broken nobody asks any more whether its peer hung up
  pub hung_is : is_open_value count c v ≡ true → v.broken ≡ false → s.hung_up ≡ hung_up opened c events
  -- of one whose pieces are taken the text was read, and what it brought has come
  pub has_come : is_open_value count c v ≡ true → is_heard v s ≡ true → HasCome v s.reader (stream opened c events)

-- all of them
pub record HasStreams (opened : List ℕ) (events : Before) (count : ℕ) (conns : ℕ → ConnectionValue) (streams : ℕ → StreamValue) : Type 0 where
  pub below : (place : ℕ) → succeeds opened place ≡ true → place < length events
  pub count_is : connections opened events ≡ count
  pub each : (c : ℕ) → StreamStands opened events count c (conns c) (streams c)

-- ---- the gateway

pub record CoreValue : Type 0 where
  pub plans : List PlanRecord
  pub now : Now
  pub conns : ℕ → ConnectionValue
  pub streams : ℕ → StreamValue
  -- how many were opened, how many calls were begun, and the jobs that wait
  pub opened : ℕ
  pub begun : ℕ
  pub waiting : List JobValue

abbrev pub shown : CoreValue → Shown
shown v = shown_of v.now.moment v.opened v.conns v.streams v.waiting

abbrev pub HasConns : CoreValue → List ℕ → Before → Type 0
HasConns v opened events = HasStreams opened events v.opened v.conns v.streams

-- these occurrences, at the event of that place
abbrev pub at_place : ℕ → List Occurrence → List Placed
at_place place os = map (λ o. (place, o)) os

-- one event more, where the openings at these places succeeded
abbrev pub then_came : List ℕ → Event → History → History
then_came opened e h = record h { opened = opened; events = e ∷ h.events }

-- the gateway after all that came, where this was lived: what occurred by the events, and breaks of connections among it
pub record Lives (v : CoreValue) (h : History) (lived : List Placed) : Type 0 where
  pub occurs : Occurs v.plans h.opened h.events (by_events lived)
  pub in_order : InOrder (length h.events) lived
  pub breaks : BreakAsTheyMay h.opened h.events lived
  pub conns : HasConns v h.opened h.events
  pub stands : AllStand v.now v.conns h.taken h.handed v.waiting (occurrences lived)
  pub begun_is : v.begun ≤ calls_arrived (occurrences lived)

-- the gateway after all that came: whatever occurred by the events, connections broke among it so that it stands for that
pub record Served (v : CoreValue) (h : History) : Type 0 where
  pub conns : HasConns v h.opened h.events
  pub stands : (occurred : List Placed) → Occurs v.plans h.opened h.events occurred → (lived : List Placed) × (by_events lived ≡ occurred) × Lives v h lived

-- one event adds what occurs at it, perhaps with breaks, to what was lived, and changes nothing before it
pub record Adds (opened : List ℕ) (e : Event) (h : History) (v w : CoreValue) : Type 0 where
  pub plans_are : w.plans ≡ v.plans
  pub conns : HasConns v h.opened h.events → HasConns w opened (e ∷ h.events)
  pub lives : (lived : List Placed) → Lives v h lived → (os : List Occurrence) → OccursAt v.plans opened e h.events os
      → (newer : List Occurrence) × (without_breaks newer ≡ reverse os) × Lives w (then_came opened e h) (at_place (length h.events) newer ++ lived)

-- the text has a list of requests, which is there
abbrev pub IsKnown : List ℕ → Type 0
IsKnown text = (given : List HttpRequest) × (ending : StreamEnd) × Requests 0 text given ending

-- the gateway after the first bytes of one event more, a piece of that connection's stream, and the one before them
pub record FedUpTo (n : ℕ) (fed : List ℕ) (h : History) (v w : CoreValue) : Type 0 where
  pub before : HasConns v h.opened h.events
  pub adds : Adds h.opened (Piece n fed) h v w
  pub known : (rest : List ℕ) (gained : List Coming) → Gains v.plans (stream h.opened n h.events) (stream h.opened n h.events ++ (fed ++ rest)) gained
      → IsKnown (stream h.opened n h.events ++ fed)
