-- What has occurred, newest first, and what it means. No state is kept here: each word looks at the whole past.
use Rattle.std.specs.Prelude.{ℕ, zero, suc, ◌+◌, ◌^◌, min, max, Bool, true, false, ◌&&◌, ◌||◌, not, if◌then◌else◌, ◌==◌, nat_lt, nat_le, is_none, is_some, List, [], ◌∷◌, map, length, reverse, Option, None, Some, option_map, option_and_then}
use Rattle.std.specs.Option.{option_or, option_map_or}
use Rattle.std.specs.List.{range_with_len}
use Rattle.http_pieces.specs.Request.{HttpRequest}
use Rattle.connect_codec.specs.declared.answer.Outcome.{Outcome}
use Rattle.connect_codec.specs.declared.answer.Outcome.TheVariants.{Answer, Fail}
use Rattle.call_plan.specs.Plan.{PlanRecord, time_of}
use Rattle.gateway_model.specs.declared.call_event.CallEvent.{CallEvent}
use Rattle.gateway_model.specs.declared.call_event.CallEvent.TheVariants.{Failed, Expired, BranchExpired, HungUp, Drained}
use Rattle.gateway_model.specs.declared.call_event.CallEvent.TheVariants as event
use Rattle.gateway_model.specs.declared.id.CallId.{CallId}
use Rattle.gateway_model.specs.declared.seen.Seen.{Seen}
use Rattle.gateway_model.specs.declared.seen.Seen.TheVariants.{Counted, Late, Unknown}
use Rattle.gateway_model.specs.Arrival.{Asks}
use Rattle.gateway_model.specs.Occurrence.{Occurrence, Comes, HangUp, Moment, Result, Drain, Closing, Break, Coming, Request}

-- one occurrence, whether it is a result that counted, and whether it is a request that asked for one call too many
pub record Mark : Type 0 where
  pub what : Occurrence
  pub counted : Bool
  pub crowded : Bool

-- what has occurred, newest first
abbrev pub Past : Type 0
Past = List Mark

-- ---- moments, drain, closings, breaks

-- the moment that is handed in, cut at 2^62
abbrev pub moment_of : Occurrence → ℕ
moment_of (Moment m) = min m (2 ^ 62)
moment_of _ = 0

-- the current moment: the greatest one handed in, or 0 (this project's choice, so that the clock never goes back)
abbrev pub now : Past → ℕ
now [] = 0
now (m ∷ past) = max (now past) (moment_of m.what)

abbrev pub is_drain : Occurrence → Bool
is_drain Drain = true
is_drain _ = false

-- the gateway was drained
abbrev pub is_drained : Past → Bool
is_drained [] = false
is_drained (m ∷ past) = is_drain m.what || is_drained past

-- want of memory breaks the connection
abbrev pub breaks : ℕ → Occurrence → Bool
breaks conn (Break c) = c == conn
breaks conn _ = false

-- it broke
abbrev pub is_broken : ℕ → Past → Bool
is_broken conn [] = false
is_broken conn (m ∷ past) = breaks conn m.what || is_broken conn past

-- the connection is closed, or breaks: its calls can't be decided any more
abbrev pub shuts : ℕ → Occurrence → Bool
shuts conn (Closing c) = c == conn
shuts conn (Break c) = c == conn
shuts conn _ = false

-- it was closed, or broke
abbrev pub is_shut : ℕ → Past → Bool
is_shut conn [] = false
is_shut conn (m ∷ past) = shuts conn m.what || is_shut conn past

-- ---- requests, and the calls that they ask for

-- what comes on the connection's stream at this occurrence: if it is broken, nothing
abbrev pub coming_on : ℕ → Occurrence → Bool → Option Coming
coming_on conn (Comes c e) broken = if (c == conn) && not broken then Some e else None
coming_on conn _ broken = None

-- how many requests came on the connection's stream; a refusal counts as one
abbrev pub arrivals : ℕ → Past → ℕ
arrivals conn [] = 0
arrivals conn (m ∷ past) = if is_some (coming_on conn m.what (is_broken conn past)) then suc (arrivals conn past) else arrivals conn past

-- what comes as request number `id.request` of its connection, if it comes now
abbrev pub coming_now : CallId → Mark → Past → Option Coming
coming_now id m past = if arrivals id.conn past == id.request then coming_on id.conn m.what (is_broken id.conn past) else None

-- a call: a request for a plan, which was not crowded out
pub record ArrivedCall : Type 0 where
  pub plan : PlanRecord
  pub request : HttpRequest
  -- the id that its request names, to be passed on (the field `X-Request-Id`)
  pub request_id : Option (List ℕ)
  -- the moment of its arrival
  pub start : ℕ
  -- the moment at which it expires, if it ever does
  pub deadline : Option ℕ

-- the smaller of two timeouts, of which either may be absent
abbrev pub smaller : Option ℕ → Option ℕ → Option ℕ
smaller None t = t
smaller (Some s) None = Some s
smaller (Some s) (Some t) = Some (min s t)

-- the call of the plan that a request begins when it comes at this moment: its deadline is the smaller of the request's timeout and
-- the plan's after the moment (Connect protocol, `Connect-Timeout-Ms`; Go `context.WithDeadline`)
abbrev pub asked_of : ℕ → HttpRequest → PlanRecord → Option ℕ → Option (List ℕ) → ArrivedCall
asked_of moment q plan timeout id = record {
  plan = plan;
  request = q;
  request_id = id;
  start = moment;
  deadline = option_map (λ t. moment + t) (smaller timeout plan.timeout);
}

-- the call that comes at this moment, if what comes asks for one
abbrev pub asked_by : ℕ → Coming → Option ArrivedCall
asked_by moment (Request q (Asks plan timeout id)) = Some (asked_of moment q plan timeout id)
asked_by moment _ = None

-- the call that this occurrence begins under that id, if it does
abbrev pub asked_now : CallId → Mark → Past → Option ArrivedCall
asked_now id m past = if m.crowded then None else option_and_then (asked_by (now past)) (coming_now id m past)

-- the call of that id, if it has arrived
abbrev pub call : CallId → Past → Option ArrivedCall
call id [] = None
call id (m ∷ past) = option_or (call id past) (asked_now id m past)

-- the deadline is not above the moment
abbrev pub is_due : ℕ → Option ℕ → Bool
is_due moment deadline = option_map_or (λ d. nat_le d moment) deadline false

-- what decides a call as it arrives: the drain, and else its deadline
abbrev pub ends_at_arrival : Past → ArrivedCall → Option CallEvent
ends_at_arrival past c = if is_drained past then Some Drained else (if is_due (now past) c.deadline then Some (Expired (now past)) else None)

abbrev pub is_call : CallId → CallId → Bool
is_call a b = (a.conn == b.conn) && (a.request == b.request)

-- ---- branches

abbrev pub is_answer_to : CallId → Occurrence → Bool
is_answer_to id (Result of i (Answer body)) = is_call of id
is_answer_to id _ = false

-- how many answers of the call counted
abbrev pub answers : CallId → Past → ℕ
answers id [] = 0
answers id (m ∷ past) = if m.counted && is_answer_to id m.what then suc (answers id past) else answers id past

-- the call has arrived, and was not decided as it arrived
abbrev pub began : CallId → Past → Bool
began id [] = false
began id (m ∷ past) = began id past || option_map_or (λ c. is_none (ends_at_arrival past c)) (asked_now id m past) false

-- how many branches of the call have started: those below its limit, and one more for each answer that counted (Go
-- `errgroup.SetLimit`)
abbrev pub started : CallId → Past → ℕ
started id past =
    if began id past then option_map_or (λ c. min (length c.plan.branches) (c.plan.limit + answers id past)) (call id past) 0 else 0

abbrev pub is_result_of : CallId → ℕ → Occurrence → Bool
is_result_of id i (Result of j outcome) = is_call of id && (j == i)
is_result_of id i _ = false

-- the branch has started, and no result of it has come since
abbrev pub is_out : CallId → ℕ → Past → Bool
is_out id i [] = false
is_out id i (m ∷ past) =
    if nat_lt i (started id past)
    then is_out id i past && not (is_result_of id i m.what)
    else nat_lt i (started id (m ∷ past))

-- ---- deadlines of branches

-- the deadline of the branch, if it starts at this moment and has a timeout (Go `context.WithTimeout`)
abbrev pub deadline_from : ℕ → PlanRecord → ℕ → Option ℕ
deadline_from moment plan i = option_map (λ t. moment + t) (time_of plan i)

-- the moment at which the branch started
abbrev pub started_when : CallId → ℕ → Past → ℕ
started_when id i [] = 0
started_when id i (m ∷ past) = if nat_lt i (started id past) then started_when id i past else now past

-- the deadlines of the branches that have started, in declared order
abbrev pub branch_deadlines : CallId → Past → List (Option ℕ)
branch_deadlines id past = option_map_or (λ c. map (λ i. deadline_from (started_when id i past) c.plan i) (range_with_len 0 (started id past))) (call id past) []

-- the deadlines of all branches of the call while they are out: one that answered has none any more, one that has not started none yet
abbrev pub deadlines_out : CallId → PlanRecord → Past → List (Option ℕ)
deadlines_out id plan past =
    map (λ i. option_and_then (λ t. if is_out id i past then Some (started_when id i past + t) else None) (time_of plan i)) (range_with_len 0 (length plan.branches))

-- the least of these moments
abbrev pub least_of : List (Option ℕ) → Option ℕ
least_of [] = None
least_of (d ∷ ds) = smaller d (least_of ds)

-- it is that moment
abbrev pub is_at : ℕ → Option ℕ → Bool
is_at at deadline = option_map_or (λ d. d == at) deadline false

-- the place of the first of these that is that moment, counted from k
abbrev pub first_at : ℕ → ℕ → List (Option ℕ) → ℕ
first_at at k [] = k
first_at at k (d ∷ ds) = if is_at at d then k else first_at at (suc k) ds

-- what a moment brings that has reached one of these deadlines, the call's and its branches': the least decides, of equal ones the call's, and then
-- that of the branch declared first
abbrev pub expiry : ℕ → Option ℕ → List (Option ℕ) → CallEvent
expiry moment deadline outs =
    option_map_or (λ at. if is_at at deadline then Expired moment else BranchExpired (first_at at 0 outs) moment) (smaller deadline (least_of outs)) (Expired moment)

-- what a moment brings, if it has reached one of them
abbrev pub due_by : ℕ → Option ℕ → List (Option ℕ) → Option CallEvent
due_by moment deadline outs = if is_due moment (smaller deadline (least_of outs)) then Some (expiry moment deadline outs) else None

-- ---- what happens to a call

abbrev pub of_branch : ℕ → Outcome → CallEvent
of_branch i (Answer body) = event.Answer i body
of_branch i (Fail error) = Failed i error

-- the event that this is of a call which arrived before and is undecided: a result that counted, the call's deadline reached or that of a branch that
-- is out, the hang-up of its connection, or the drain
abbrev pub event_by : CallId → ArrivedCall → Occurrence → Bool → Past → Option CallEvent
event_by id c (Result of i outcome) counted past = if counted && is_call of id then Some (of_branch i outcome) else None
event_by id c (Moment m) counted past = due_by (max (now past) (min m (2 ^ 62))) c.deadline (deadlines_out id c.plan past)
event_by id c (HangUp conn) counted past = if conn == id.conn then Some HungUp else None
event_by id c Drain counted past = Some Drained
event_by id c _ counted past = None

-- the call's own event at this occurrence: it may arrive ended, and else events come after its arrival; none comes once its
-- connection is closed or broken
abbrev pub own_event : CallId → Mark → Past → Option CallEvent
own_event id m past =
    if is_shut id.conn past then None
    else option_map_or (λ c. event_by id c m.what m.counted past) (call id past) (option_and_then (ends_at_arrival past) (asked_now id m past))

-- how many branches the call has
abbrev pub branches : CallId → Past → ℕ
branches id past = option_map_or (λ c. length c.plan.branches) (call id past) 0

-- each event decides its call, but for an answer that leaves others open (Go `errgroup.Wait`)
abbrev pub decides : ℕ → ℕ → CallEvent → Bool
decides answered n (event.Answer i body) = answered + 1 == n
decides answered n _ = true

-- the event that decides the call at this occurrence, if nothing did before
abbrev pub deciding : CallId → Mark → Past → Option CallEvent
deciding id m past = option_and_then (λ e. if decides (answers id past) (branches id past) e then Some e else None) (own_event id m past)

-- the event that decided the call: the first one that did
abbrev pub decided : CallId → Past → Option CallEvent
decided id [] = None
decided id (m ∷ past) = option_or (decided id past) (deciding id m past)

-- how many of the numbers below n have the property
abbrev pub count_below : ℕ → (ℕ → Bool) → ℕ
count_below zero p = 0
count_below (suc n) p = if p n then suc (count_below n p) else count_below n p

-- how many branches of the call are out
abbrev pub outs : CallId → Past → ℕ
outs id past = count_below (branches id past) (λ i. is_out id i past)

-- the call can still be decided
abbrev pub can_be_decided : CallId → Past → Bool
can_be_decided id past = is_none (decided id past) && not (is_shut id.conn past)

-- how a result of that branch is seen
abbrev pub how_seen : CallId → ℕ → Past → Seen
how_seen id i past = if is_out id i past then (if can_be_decided id past then Counted else Late) else Unknown

-- ---- the list of what occurs

-- the occurrence is a result that counts
abbrev pub counts : Occurrence → Past → Bool
counts (Result id i outcome) past = is_out id i past && can_be_decided id past
counts _ past = false

-- the call has arrived and is undecided
abbrev pub is_undecided : CallId → Past → Bool
is_undecided id past = is_some (call id past) && is_none (decided id past)

abbrev pub call_id : ℕ → ℕ → CallId
call_id conn request = record { conn = conn; request = request }

-- how many calls of the connection are undecided
abbrev pub undecided_calls : ℕ → Past → ℕ
undecided_calls conn past = count_below (arrivals conn past) (λ k. is_undecided (call_id conn k) past)

-- a connection may have so many undecided calls (this project's choice)
abbrev pub most_calls : ℕ
most_calls = 8

-- the occurrence is a request that asks for one call too many
abbrev pub crowds : Occurrence → Past → Bool
crowds (Comes conn (Request q (Asks plan timeout id))) past = nat_le most_calls (undecided_calls conn past)
crowds _ past = false

-- an occurrence after that past
abbrev pub mark_of : Past → Occurrence → Mark
mark_of past o = record { what = o; counted = counts o past; crowded = crowds o past }

-- the past after these occurrences, newest first
abbrev pub marked : List Occurrence → Past
marked [] = []
marked (o ∷ os) = mark_of (marked os) o ∷ marked os

-- the past after these occurrences, in the order in which they came
abbrev pub past_of : List Occurrence → Past
past_of os = marked (reverse os)
