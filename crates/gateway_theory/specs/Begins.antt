-- What comes on a stream: what it is answered by at once, or the call that it begins.
use Rattle.std.specs.Prelude.{ℕ, ◌+◌, min, Bool, if◌then◌else◌, nat_lt, List, [], map, length, Option, None, Some}
use Rattle.std.specs.List.{range_with_len}
use Rattle.http_pieces.specs.Request.{closes}
use Rattle.gateway_model.specs.declared.id.CallId.{CallId}
use Rattle.gateway_model.specs.Arrival.{Judged, Asks}
use Rattle.gateway_model.specs.Job.{JobValue, job_of}
use Rattle.gateway_model.specs.Occurrence.{Coming, Request, Refused}
use Rattle.gateway_model.specs.declared.call_event.CallEvent.{CallEvent}
use Rattle.gateway_model.specs.declared.call_event.CallEvent.TheVariants.{Expired, Drained}
use Rattle.gateway_model.specs.Past.{ArrivedCall, asked_by, deadline_from, is_due}
use Rattle.gateway_model.specs.declared.entry.ReplyEntry.TheVariants.{Refused as Refusing, Judged as Judging, Crowded as Crowding}
use Rattle.gateway_theory.specs.Step.{Step, step_to, ended}
use Rattle.gateway_theory.specs.Values.{Live, call_state, gone}
use Rattle.gateway_theory.specs.LiveStands.{tasks_from}

-- a call as it begins, none of whose branches has started
abbrev pub new_live : CallId → ArrivedCall → Live
new_live id a = record { asked = a; events = []; deadlines = []; waiting = tasks_from 0 id a }

-- how many branches start at once
abbrev pub first_ones : ArrivedCall → ℕ
first_ones a = min (length a.plan.branches) (a.plan.limit + 0)

-- the deadlines of those, where they start at this moment
abbrev pub first_deadlines : ℕ → ArrivedCall → List (Option ℕ)
first_deadlines moment a = map (deadline_from moment a.plan) (range_with_len 0 (first_ones a))

abbrev pub begun_live : ℕ → CallId → ArrivedCall → Live
begun_live moment id a = record { asked = a; events = []; deadlines = first_deadlines moment a; waiting = tasks_from (first_ones a) id a }

abbrev pub first_jobs : ℕ → CallId → ArrivedCall → List JobValue
first_jobs moment id a = map (λ i. job_of id i a moment) (range_with_len 0 (first_ones a))

abbrev pub first_out : ArrivedCall → List Bool
first_out a = map (λ i. nat_lt i (first_ones a)) (range_with_len 0 (length a.plan.branches))

-- what ends a call as it arrives
abbrev pub ends_first : ℕ → Bool → ArrivedCall → Option CallEvent
ends_first moment drained a = if drained then Some Drained else (if is_due moment a.deadline then Some (Expired moment) else None)

abbrev pub begins : ℕ → Option CallEvent → CallId → ArrivedCall → Step
begins moment (Some e) id a = ended e (new_live id a) []
begins moment None id a = step_to (call_state (first_out a) (Some (begun_live moment id a))) None (first_jobs moment id a)

-- a call, if it is one
abbrev pub begins_if : ℕ → Bool → CallId → Option ArrivedCall → Step
begins_if moment drained id None = step_to gone None []
begins_if moment drained id (Some a) = begins moment (ends_first moment drained a) id a

-- what comes as that request
abbrev pub arrive : ℕ → Bool → Bool → CallId → Coming → Step
arrive moment drained crowded id (Refused r) = step_to gone (Some (Refusing r)) []
arrive moment drained crowded id (Request q (Judged v)) = step_to gone (Some (Judging v (closes q))) []
arrive moment drained crowded id (Request q (Asks plan timeout rid)) =
    if crowded then step_to gone (Some (Crowding (closes q))) []
    else begins_if moment drained id (asked_by moment (Request q (Asks plan timeout rid)))
