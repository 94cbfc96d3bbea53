-- What a step answers, and what a run takes down of it.
use Rattle.std.specs.Prelude.{◌≡◌, ◌≤◌, ⊤, ℕ, Bool, true, false, List, [], ◌∷◌, ◌++◌, length, Result, Ok, Err}
use Rattle.connect_codec.specs.declared.answer.Outcome.{Outcome}
use Rattle.gateway_model.specs.declared.id.CallId.{CallId}
use Rattle.gateway_model.specs.Past.{call_id}
use Rattle.gateway_theory.specs.Served.{Adds}
use Rattle.gateway_model.specs.declared.event.Event.{Event}
use Rattle.gateway_model.specs.declared.event.Event.TheVariants.{Opening, Piece, HangUp, Moment, BranchResult, Drain, Closing}
use Rattle.gateway_model.specs.declared.seen.Seen.{Seen}
use Rattle.gateway_model.specs.History.{History}
use Rattle.gateway_theory.specs.Told.{BeginsWithin, TellsTook}
use Rattle.gateway_theory.specs.declared.fault.OpenError.{OpenError}
use Rattle.gateway_theory.specs.Refused.{RefusesOpening}
use Rattle.gateway_theory.specs.declared.fault.StepFault.{StepFault}
use Rattle.gateway_theory.specs.declared.fault.StepFault.TheVariants.{Exhausted, Gone, Memory}
use Rattle.gateway_theory.specs.Gateway.{is_broken_conn}
use Rattle.gateway_theory.specs.Values.{GatewayValue}
use Rattle.gateway_theory.specs.Serving.{Breaks, NotListening}
use Rattle.gateway_theory.specs.Held.{most_begun}
use Rattle.gateway_run.specs.Log.{Collects, LogValue, log_value}
use Rattle.gateway_run.specs.declared.stepping.Stepped.{Stepped}
use Rattle.gateway_run.specs.declared.stepping.Stepped.TheVariants.{Broke, Done, Fault, NotOpened, Opened, Saw}

-- the places of the openings that succeeded, after an event at that place that came to this
abbrev pub opened_by : {H : Type 0} → Stepped H → ℕ → List ℕ → List ℕ
opened_by (Opened conn) place opened = opened ++ place ∷ []
opened_by _ place opened = opened

-- what has come, with this event more, which came to that
abbrev pub after_step : {H : Type 0} → Stepped H → Event → History → History
after_step stepped e h = record h { opened = opened_by stepped (length h.events) h.opened; events = e ∷ h.events }

-- how a result was seen, where the event was one
abbrev pub seen_in : {H : Type 0} → Stepped H → List Seen
seen_in (Saw took) = took.seen ∷ []
seen_in _ = []

-- the log with room for the connection that was opened, if one was
abbrev pub log_after : {H : Type 0} → Stepped H → ℕ → LogValue → LogValue
log_after (Opened conn) place log = log_value (log.opened ++ place ∷ []) (log.queued ++ [] ∷ []) (log.broke ++ false ∷ []) log.starts log.jobs
log_after _ place log = log

-- what is queued for a connection was taken before it closes
abbrev pub CollectsFor : Event → GatewayValue → GatewayValue → LogValue → LogValue → Type 0
CollectsFor (Closing n) v w log later = Collects n v w log later
CollectsFor _ v w log later = (w ≡ v) × (later ≡ log)

-- ---- what a step comes to

-- an opening
abbrev pub opening_of : {H : Type 0} → Result ℕ (List H × OpenError) → Stepped H
opening_of (Ok conn) = Opened conn
opening_of (Err refused) = NotOpened refused.0 refused.1

-- a step of one connection
abbrev pub done_of : {H : Type 0} → Result ⊤ StepFault → Stepped H
done_of (Ok all) = Done
done_of (Err fault) = Fault fault

-- a step of all connections, in which one broke or none did
abbrev pub taken_of : {H : Type 0} → Bool → Stepped H
taken_of true = Broke
taken_of false = Done

-- ---- what a step tells

-- a connection was opened, or none was and nothing changed, for the first reason that applies
abbrev pub TellsOpening : {H : Type 0} → Stepped H → GatewayValue → GatewayValue → Type 0
TellsOpening (Opened conn) v w = conn ≡ v.opened
TellsOpening (NotOpened hooks error) v w = (w ≡ v) × RefusesOpening error v
TellsOpening _ v w = ⊥

-- a step of a connection of which nothing is taken any more changes nothing, and is told so exactly there; want of memory, and of numbers
-- for calls, is told exactly where the connection broke
abbrev pub TellsConn : {H : Type 0} → ℕ → Stepped H → GatewayValue → GatewayValue → Type 0
TellsConn conn Done v w = (is_broken_conn conn w ≡ false) × (NotListening conn v → ⊥)
TellsConn conn (Fault Gone) v w = NotListening conn v × (w ≡ v)
TellsConn conn (Fault Exhausted) v w = (is_broken_conn conn w ≡ true) × (most_begun ≤ w.begun) × (NotListening conn v → ⊥)
TellsConn conn (Fault Memory) v w = (is_broken_conn conn w ≡ true) × (NotListening conn v → ⊥)
TellsConn conn _ v w = ⊥

-- that a connection broke is told exactly where one did
abbrev pub TellsBreaks : {H : Type 0} → Stepped H → GatewayValue → GatewayValue → Type 0
TellsBreaks Done v w = Breaks v w false
TellsBreaks Broke v w = Breaks v w true
TellsBreaks _ v w = ⊥

-- how a result was seen is told, and that a connection broke by it
abbrev pub TellsResult : {H : Type 0} → CallId → ℕ → Outcome → Stepped H → GatewayValue → GatewayValue → Type 0
TellsResult id branch outcome (Saw took) v w = TellsTook id branch took v w
TellsResult id branch outcome _ v w = ⊥

abbrev pub Tells : {H : Type 0} → Event → Stepped H → GatewayValue → GatewayValue → Type 0
Tells Opening stepped v w = TellsOpening stepped v w
Tells (Piece conn bytes) stepped v w = TellsConn conn stepped v w × (stepped ≡ Fault Exhausted → BeginsWithin conn bytes v)
Tells (HangUp conn) stepped v w = TellsConn conn stepped v w × (stepped ≡ Fault Exhausted → ⊥)
Tells (Moment m) stepped v w = TellsBreaks stepped v w
Tells (BranchResult conn request branch outcome) stepped v w = TellsResult (call_id conn request) branch outcome stepped v w
Tells Drain stepped v w = TellsBreaks stepped v w
Tells (Closing conn) stepped v w = stepped ≡ Done

-- what the step of this event adds to what was lived
abbrev pub AddsStep : {H : Type 0} → Stepped H → Event → GatewayValue → GatewayValue → Type 0
AddsStep stepped e v w = (h : History) → Adds (opened_by stepped (length h.events) h.opened) e h v w
