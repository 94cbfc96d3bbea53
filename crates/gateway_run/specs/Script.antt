-- A script of a run: a JSON object of plans and events, as `serde_json` reads it.
use Rattle.std.specs.Prelude.{◌≡◌, ◌≢◌, ℕ, suc, List, [], ◌∷◌, Bool, true, false, ◌&&◌, ◌==◌, nat_le, if◌then◌else◌, codes, Option, None, Some, is_some, option_map, option_and_then, Result, Ok, Err}
use Rattle.std.specs.Option.{option_map_or}
use Rattle.std.specs.Str.{bytes_eq}
use Rattle.serde_json.specs.Data.{Data, Items, no_items, item}
use Rattle.serde_json.specs.Events.{items_len}
use Rattle.serde_json.specs.Find.{get, at, as_null, as_str, as_array}
use Rattle.http_pieces.specs.declared.reply.HttpReply.{HttpReply}
use Rattle.connect_codec.specs.Outcome.{outcome_of}
use Rattle.call_plan.specs.Plan.{PlanRecord}
use Rattle.json_values.specs.Json.{json_of}
use Rattle.call_plan.specs.PlanFile.{whole_number, plans_of}
use Rattle.call_plan.specs.declared.error.PlanError.{PlanError}
use Rattle.call_plan.specs.declared.error.PlanError.TheVariants as plan
use Rattle.gateway_model.specs.declared.event.Event.{Event}
use Rattle.gateway_model.specs.declared.event.Event.TheVariants.{Opening, Piece, HangUp, Moment, BranchResult, Drain, Closing}
use Rattle.gateway_run.specs.declared.fault.ScriptError.{ScriptError}
use Rattle.gateway_run.specs.declared.fault.ScriptError.TheVariants.{Memory, NotAScript, Plans, BadEvent}

-- Why a script is refused whose plans are: want of memory stays that, and each other fault is `Plans`.
pub record IsOfPlans (fault : PlanError) (e : ScriptError) : Type 0 where
  pub memory : fault ≡ plan.Memory → e ≡ Memory
  pub plans : fault ≢ plan.Memory → e ≡ Plans fault

-- ---- the elements of an event, an array

-- whether a value is an array of so many elements
unfoldable pub has_length : ℕ → Data → Bool
has_length n d = option_map_or (λ ds. items_len ds == n) (as_array d) false

-- the text at a place of an array
unfoldable pub text_at : ℕ → Data → Option (List ℕ)
text_at place d = option_and_then as_str (at place d)

-- the whole number at a place of an array, from 0 to the greatest, in digits alone
unfoldable pub number_at : ℕ → ℕ → Data → Option ℕ
number_at greatest place d = option_and_then (whole_number greatest) (at place d)

-- the number of a connection or a request, or the moment, at a place, from 0 to 2^64 - 1
abbrev pub serial_at : ℕ → Data → Option ℕ
serial_at = number_at 18446744073709551615

-- the number of a branch at a place, from 0 to 4,294,967,295
abbrev pub branch_at : ℕ → Data → Option ℕ
branch_at = number_at 4294967295

-- n, if it is the status of a final response (RFC 9110, section 15)
abbrev pub at_least_200 : ℕ → Option ℕ
at_least_200 n = if nat_le 200 n then Some n else None

-- the status at a place, from 200 to 999
unfoldable pub status_at : ℕ → Data → Option ℕ
status_at place d = option_and_then at_least_200 (number_at 999 place d)

-- a content type is a text, or null for none
abbrev pub content_type_of : Data → Option (Option (List ℕ))
content_type_of d = if is_some (as_null d) then Some None else option_map Some (as_str d)

-- the content type at a place
unfoldable pub content_type_at : ℕ → Data → Option (Option (List ℕ))
content_type_at place d = option_and_then content_type_of (at place d)

-- ---- the events

-- `["piece",c,text]`: the UTF-8 bytes of the text come on connection c
unfoldable pub piece_of : Data → Option Event
piece_of d = option_and_then (λ conn. option_map (λ text. Piece conn text) (text_at 2 d)) (serial_at 1 d)

-- `[word,c,k,branch,..]`: that branch of request k on connection c ends with that reply, or with none
unfoldable pub branch_result_of : Option HttpReply → Data → Option Event
branch_result_of reply d =
    option_and_then (λ conn. option_and_then (λ request. option_map (λ branch.
    BranchResult conn request branch (outcome_of reply))
    (branch_at 3 d)) (serial_at 2 d)) (serial_at 1 d)

-- `[word,c,k,branch,status,type,body]`: the reply
unfoldable pub reply_of : Data → Option HttpReply
reply_of d =
    option_and_then (λ status. option_and_then (λ content_type. option_map (λ body.
    record { status = status; content_type = content_type; closes = false; body = body })
    (text_at 6 d)) (content_type_at 5 d)) (status_at 4 d)

-- `["result",c,k,branch,status,type,body]`: a branch ends with that reply
unfoldable pub result_of : Data → Option Event
result_of d = option_and_then (λ reply. branch_result_of (Some reply) d) (reply_of d)

-- whether a value is an array of so many elements, of which the first is that word
unfoldable pub has_form : List ℕ → ℕ → Data → Bool
has_form word n d = has_length n d && option_map_or (λ first. bytes_eq first word) (text_at 0 d) false

-- The event that an array stands for. The form is told by the first word and by the number of elements.
unfoldable pub event_of : Data → Option Event
event_of d =
    if has_form (codes "open") 1 d then Some Opening else
    (if has_form (codes "piece") 3 d then piece_of d else
    (if has_form (codes "hangup") 2 d then option_map HangUp (serial_at 1 d) else
    (if has_form (codes "moment") 2 d then option_map Moment (serial_at 1 d) else
    (if has_form (codes "result") 7 d then result_of d else
    (if has_form (codes "lost") 4 d then branch_result_of None d else
    (if has_form (codes "drain") 1 d then Some Drain else
    (if has_form (codes "close") 2 d then option_map Closing (serial_at 1 d) else None)))))))

-- the entries with that event before them
abbrev pub then_events : Event → Result (List Event) ScriptError → Result (List Event) ScriptError
then_events e (Ok es) = Ok (e ∷ es)
then_events e (Err fault) = Err fault

-- the events of the entries, of which the first stands at that place; the first that is no event is the fault
abbrev pub events_from : ℕ → Items → Result (List Event) ScriptError
events_from place no_items = Ok []
events_from place (item d ds) =
    option_map_or (λ e. then_events e (events_from (suc place) ds)) (event_of d) (Err (BadEvent place))

-- ---- the script

-- whether each entry is an array
abbrev pub are_arrays : Items → Bool
are_arrays no_items = true
are_arrays (item d ds) = is_some (as_array d) && are_arrays ds

-- entries, if each is an array
abbrev pub if_arrays : Items → Option Items
if_arrays ds = if are_arrays ds then Some ds else None

-- the array of arrays at `events`
unfoldable pub entries_of : Data → Option Items
entries_of d = option_and_then if_arrays (option_and_then as_array (get (codes "events") d))

-- d, if it is an array
abbrev pub if_array : Data → Option Data
if_array d = if is_some (as_array d) then Some d else None

-- the array at `plans`
unfoldable pub plan_list_of : Data → Option Data
plan_list_of d = option_and_then if_array (get (codes "plans") d)

-- the plans and the events, or the fault of the events
abbrev pub with_events : List PlanRecord → Result (List Event) ScriptError
    → Result (List PlanRecord × List Event) ScriptError
with_events plans (Ok events) = Ok (plans, events)
with_events plans (Err fault) = Err fault

-- what the entries come to once the plans are judged: the plans' fault stands before that of an event
abbrev pub with_plans : Result (List PlanRecord) PlanError → Items → Result (List PlanRecord × List Event) ScriptError
with_plans (Ok plans) entries = with_events plans (events_from 0 entries)
with_plans (Err fault) entries = Err (Plans fault)

-- The plans and events of a JSON value. Its shape is judged first, then the plans, then the events.
unfoldable pub script_of : Data → Result (List PlanRecord × List Event) ScriptError
script_of d =
    option_map_or
    (λ plans. option_map_or (λ entries. with_plans (plans_of plans) entries) (entries_of d) (Err NotAScript))
    (plan_list_of d) (Err NotAScript)

-- The plans and events of a script's text.
unfoldable pub script_in : List ℕ → Result (List PlanRecord × List Event) ScriptError
script_in text = option_map_or script_of (json_of text) (Err NotAScript)
