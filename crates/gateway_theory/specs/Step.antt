-- What is kept of a call, and what an occurrence makes of it.
use Rattle.std.specs.Prelude.{ℕ, ◌+◌, ◌^◌, min, max, Bool, true, false, ◌&&◌, if◌then◌else◌, ◌==◌, List, [], ◌∷◌, ◌++◌, length, Option, None, Some, slice_set, slice_index_or}
use Rattle.connect_codec.specs.declared.answer.Outcome.{Outcome}
use Rattle.connect_codec.specs.declared.answer.Outcome.TheVariants.{Answer, Fail}
use Rattle.gateway_model.specs.declared.id.CallId.{CallId}
use Rattle.gateway_model.specs.Job.{JobValue}
use Rattle.gateway_theory.specs.Task.{job_at}
use Rattle.gateway_theory.specs.Values.{TaskValue, Live, CallState, call_state, deadlines_in, moment_after}
use Rattle.gateway_model.specs.Occurrence.{Occurrence, HangUp, Moment, Result, Drain, Closing, Break}
use Rattle.gateway_model.specs.declared.call_event.CallEvent.{CallEvent}
use Rattle.gateway_model.specs.declared.call_event.CallEvent.TheVariants.{Answer as Answered, Failed, HungUp, Drained}
use Rattle.gateway_model.specs.Past.{ArrivedCall, deadline_from, due_by, is_call}
use Rattle.gateway_model.specs.declared.entry.ReplyEntry.{ReplyEntry}
use Rattle.gateway_model.specs.declared.entry.ReplyEntry.TheVariants.{Call as Calling}
use Rattle.gateway_model.specs.Queue.{record_of}

abbrev pub has_out : CallState → ℕ → Bool
has_out c i = slice_index_or c.out i false

-- what an occurrence makes of a call: the call after it, the entry by which it is decided, and the jobs that start
pub record Step : Type 0 where
  pub call : CallState
  pub reply : Option ReplyEntry
  pub jobs : List JobValue

abbrev pub step_to : CallState → Option ReplyEntry → List JobValue → Step
step_to call reply jobs = record { call = call; reply = reply; jobs = jobs }

abbrev pub kept : CallState → Step
kept c = step_to c None []

-- the entry of the call, where this event decides it and its branches that have started have these deadlines
abbrev pub entry_as : List (Option ℕ) → CallEvent → Live → ReplyEntry
entry_as deadlines e l = Calling (record_of l.asked deadlines (l.events ++ e ∷ []))

-- the entry of the call, where this event decides it and starts no branch
abbrev pub entry_with : CallEvent → Live → ReplyEntry
entry_with e l = entry_as l.deadlines e l

-- the event ends the call
abbrev pub ended : CallEvent → Live → List Bool → Step
ended e l out = step_to (call_state out None) (Some (entry_with e l)) []

-- the first of the branches that wait: its job, which starts at this moment; the others; and its branch out
abbrev pub first_of : ℕ → List TaskValue → List JobValue
first_of moment [] = []
first_of moment (t ∷ ts) = job_at moment t ∷ []

abbrev pub rest_of : List TaskValue → List TaskValue
rest_of [] = []
rest_of (t ∷ ts) = ts

abbrev pub next_out : List TaskValue → List Bool → List Bool
next_out [] out = out
next_out (t ∷ ts) out = slice_set out t.branch true

-- all other branches have answered
abbrev pub is_last_answer : Live → Bool
is_last_answer l = length l.events + 1 == length l.asked.plan.branches

-- the deadline of the first of the branches that wait, if it starts at this moment
abbrev pub deadlines_next : ℕ → List TaskValue → List (Option ℕ)
deadlines_next moment [] = []
deadlines_next moment (t ∷ ts) = deadline_from moment t.asked.plan t.branch ∷ []

-- the deadlines of the branches that have started, once the first of those that wait has
abbrev pub deadlines_then : ℕ → Live → List (Option ℕ)
deadlines_then moment l = l.deadlines ++ deadlines_next moment l.waiting

abbrev pub with_event : ℕ → CallEvent → Live → Live
with_event moment e l = record { asked = l.asked; events = l.events ++ e ∷ []; deadlines = deadlines_then moment l; waiting = rest_of l.waiting }

-- a counted result of a branch, which is no longer out: an answer starts the next branch
abbrev pub counted : ℕ → ℕ → Outcome → Live → List Bool → Step
counted moment i (Fail error) l out = ended (Failed i error) l out
counted moment i (Answer body) l out =
    step_to
    (call_state (next_out l.waiting out) (if is_last_answer l then None else Some (with_event moment (Answered i body) l)))
    (if is_last_answer l then Some (entry_as (deadlines_then moment l) (Answered i body) l) else None)
    (first_of moment l.waiting)

-- a result of a branch that was out
abbrev pub result_on : ℕ → ℕ → Outcome → List Bool → Option Live → Step
result_on moment i outcome out None = kept (call_state out None)
result_on moment i outcome out (Some l) = counted moment i outcome l out

-- what ends a call at a moment, a hang-up or the drain, where the branches that are out have these deadlines
abbrev pub ending : ℕ → CallId → Occurrence → ArrivedCall → List (Option ℕ) → Option CallEvent
ending moment id (Moment m) a outs = due_by (moment_after moment m) a.deadline outs
ending moment id (HangUp conn) a outs = if conn == id.conn then Some HungUp else None
ending moment id Drain a outs = Some Drained
ending moment id o a outs = None

abbrev pub ended_by : Option CallEvent → Live → List Bool → Step
ended_by None l out = kept (call_state out (Some l))
ended_by (Some e) l out = ended e l out

abbrev pub ended_live : ℕ → CallId → Occurrence → List Bool → Option Live → Step
ended_live moment id o out None = kept (call_state out None)
ended_live moment id o out (Some l) = ended_by (ending moment id o l.asked (deadlines_in out l.deadlines)) l out

-- what an occurrence makes of the call of that id
abbrev pub step : ℕ → CallId → Occurrence → CallState → Step
step moment id (Result of i outcome) c = if is_call of id && has_out c i then result_on moment i outcome (slice_set c.out i false) c.live else kept c
step moment id (Closing conn) c = if conn == id.conn then kept (call_state c.out None) else kept c
step moment id (Break conn) c = if conn == id.conn then kept (call_state c.out None) else kept c
step moment id o c = ended_live moment id o c.out c.live
