-- Calls that end at a moment, a hang-up or the drain: each is given up as its reply is made, or its connection breaks; then the
-- replies go into their slots.
use Rattle.std.specs.Prelude.{◌≡◌, ℕ, ◌<◌, Bool, true, false, if◌then◌else◌, ◌==◌, List, [], ◌∷◌, length, Option, None, Some}
use Rattle.std.specs.Option.{option_or}
use Rattle.gateway_model.specs.declared.entry.ReplyEntry.{ReplyEntry}
use Rattle.gateway_model.specs.declared.id.CallId.{CallId}
use Rattle.gateway_model.specs.declared.call_event.CallEvent.{CallEvent}
use Rattle.gateway_model.specs.declared.call_event.CallEvent.TheVariants.{HungUp as HungUpNow, Drained as DrainedNow}
use Rattle.gateway_theory.specs.declared.trigger.Trigger.{Trigger}
use Rattle.gateway_theory.specs.declared.trigger.Trigger.TheVariants.{Reached, HungUp, Drained}
use Rattle.gateway_model.specs.Past.{ArrivedCall, due_by, is_call}
use Rattle.gateway_theory.specs.Step.{Step, kept, ended_by}
use Rattle.gateway_theory.specs.Values.{CallState, Live, call_state, deadlines_in, KeptValue}
use Rattle.gateway_theory.specs.Replies.{ReplyValue}
use Rattle.gateway_theory.specs.Store.{kept_at, given_up}

-- the event by which this ends a call of which the branches that are out have these deadlines
abbrev pub caused : Trigger → CallId → ArrivedCall → List (Option ℕ) → Option CallEvent
caused (Reached moment) id a outs = due_by moment a.deadline outs
caused (HungUp conn) id a outs = if conn == id.conn then Some HungUpNow else None
caused Drained id a outs = Some DrainedNow

abbrev pub ended_if : Trigger → CallId → List Bool → Option Live → Step
ended_if trigger id out None = kept (call_state out None)
ended_if trigger id out (Some l) = ended_by (caused trigger id l.asked (deadlines_in out l.deadlines)) l out

-- what it makes of a call
abbrev pub ended_call : Trigger → CallId → CallState → Step
ended_call trigger id c = ended_if trigger id c.out c.live

-- a call that this has ended, if it does
abbrev pub ended_kept : Trigger → KeptValue → KeptValue
ended_kept trigger k = record { id = k.id; call = (ended_call trigger k.id k.call).call }

-- ---- all calls

-- a call whose connection broke is given up; another is ended
abbrev pub kept_after : Trigger → Bool → KeptValue → KeptValue
kept_after trigger true k = given_up k
kept_after trigger false k = ended_kept trigger k

-- no two calls have one id
abbrev pub AreApart : List KeptValue → Type 0
AreApart calls = (i j : ℕ) → i < j → j < length calls → is_call (kept_at i calls).id (kept_at j calls).id ≡ false

-- ---- one after the other, as the code ends them

-- of these replies the one to that call
abbrev pub reply_for : CallId → List ReplyValue → Option ReplyEntry
reply_for id [] = None
reply_for id (r ∷ made) = option_or (reply_for id made) (if is_call r.id id then Some r.entry else None)

-- ---- as occurrences
