-- What a request is answered by, and the bytes that are queued for a connection.
use Rattle.std.specs.Prelude.{◌≡◌, ℕ, Bool, true, false, if◌then◌else◌, is_some, List, [], ◌∷◌, ◌++◌, map, flat_map, length, option_to_list, Option, None, Some, option_map, option_and_then}
use Rattle.std.specs.List.{range_with_len}
use Rattle.std.specs.Option.{option_or, option_map_or}
use Rattle.http_pieces.specs.Request.{closes}
use Rattle.connect_codec.specs.Reply.{success_reply, error_reply}
use Rattle.call_plan.specs.Plan.{join_text}
use Rattle.gateway_model.specs.declared.entry.ReplyEntry.{ReplyEntry}
use Rattle.gateway_model.specs.declared.entry.ReplyEntry.TheVariants as reply_entry
use Rattle.gateway_model.specs.declared.call_event.CallEvent.{CallEvent}
use Rattle.gateway_model.specs.declared.id.CallId.{CallId}
use Rattle.gateway_model.specs.declared.reply_bytes.ReplyBytes.{ReplyBytes}
use Rattle.gateway_model.specs.Arrival.{Judged, Asks, refusal_reply, verdict_reply}
use Rattle.gateway_model.specs.CallRecord.{CallRecord, answers_in, last_event}
use Rattle.gateway_model.specs.Errors.{crowded_error, error_of}
use Rattle.gateway_model.specs.Reply.{reply_of}
use Rattle.gateway_model.specs.Occurrence.{Coming, Request, Refused}
use Rattle.gateway_model.specs.Past.{Past, ArrivedCall, call, call_id, own_event, decided, branch_deadlines, coming_now, arrivals}

-- ---- the record of a call

-- the call's own events in their order, by the one that decides it
abbrev pub own_events : CallId → Past → List CallEvent
own_events id [] = []
own_events id (m ∷ past) =
    if is_some (decided id past) then own_events id past
    else own_events id past ++ option_to_list (own_event id m past)

-- the deadlines of the branches that have started, up to the event that decides the call: what starts at it, and an answer behind it, change nothing
abbrev pub record_deadlines : CallId → Past → List (Option ℕ)
record_deadlines id [] = []
record_deadlines id (m ∷ past) = if is_some (decided id past) then record_deadlines id past else branch_deadlines id (m ∷ past)

abbrev pub record_of : ArrivedCall → List (Option ℕ) → List CallEvent → CallRecord
record_of c deadlines events =
    record { plan = c.plan; start = c.start; deadline = c.deadline; last = closes c.request; branch_deadlines = deadlines; events = events }

-- ---- the reply to a call

-- the reply to a decided call: the error of its last event, or else the answers among its events joined, in declared order
abbrev pub call_reply : CallRecord → ReplyBytes
call_reply r =
    option_map_or (λ error. reply_of (error_reply error r.last) r.last)
    (option_and_then (error_of r.plan) (last_event r.events))
    (reply_of (success_reply (join_text r.plan.branches (answers_in (length r.plan.branches) r.events)) r.last) r.last)

-- ---- what a request is answered by

-- the reply to a request
abbrev pub answer_of : ReplyEntry → ReplyBytes
answer_of (reply_entry.Refused r) = refusal_reply r
answer_of (reply_entry.Judged v last) = verdict_reply v last
answer_of (reply_entry.Crowded last) = reply_of (error_reply crowded_error last) last
answer_of (reply_entry.Call r) = call_reply r

-- what came as that request, and whether it was crowded out
abbrev pub came : CallId → Past → Option (Coming × Bool)
came id [] = None
came id (m ∷ past) = option_or (came id past) (option_map (λ e. (e, m.crowded)) (coming_now id m past))

-- the entry of a call, once it is decided
abbrev pub call_entry : CallId → Past → Option ReplyEntry
call_entry id past =
    if is_some (decided id past) then option_map (λ c. reply_entry.Call (record_of c (record_deadlines id past) (own_events id past))) (call id past) else None

-- the entry of what came: a refusal, a verdict and a call too many have theirs at once
abbrev pub entry_by : CallId → Past → Coming × Bool → Option ReplyEntry
entry_by id past (Refused r, crowded) = Some (reply_entry.Refused r)
entry_by id past (Request q (Judged v), crowded) = Some (reply_entry.Judged v (closes q))
entry_by id past (Request q (Asks plan timeout request_id), true) = Some (reply_entry.Crowded (closes q))
entry_by id past (Request q (Asks plan timeout request_id), false) = call_entry id past

-- what the request of that connection and number is answered by, once it is decided
abbrev pub entry : CallId → Past → Option ReplyEntry
entry id past = option_and_then (entry_by id past) (came id past)

-- ---- what is queued

-- the first ones, up to the first that is not there
abbrev pub front : {A : Type 0} → List (Option A) → List A
front (Some a ∷ rest) = a ∷ front rest
front _ = []

-- the arrivals of a connection's requests in order, up to the first that is undecided
abbrev pub queued_entries : ℕ → Past → List ReplyEntry
queued_entries conn past = front (map (λ k. entry (call_id conn k) past) (range_with_len 0 (arrivals conn past)))

-- the bytes queued for a connection: the replies to them, one behind another
abbrev pub queued : ℕ → Past → List ℕ
queued conn past = flat_map (λ reply. reply.bytes) (map answer_of (queued_entries conn past))

-- the one list begins the other
abbrev pub IsPrefixOf : {A : Type 0} → List A → List A → Type 0
IsPrefixOf xs ys = (rest : List _) × (ys ≡ xs ++ rest)
