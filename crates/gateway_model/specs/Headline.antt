-- What the headline says of the requests of a connection, and of the answers to them.
use Rattle.std.specs.Prelude.{◌≡◌, ℕ, suc, ◌<◌, true, if◌then◌else◌, nat_lt, is_some, List, [], ◌∷◌, ◌++◌, length, map, reverse, Some, None, option_to_list}
use Rattle.http_pieces.specs.Request.{HttpRequest}
use Rattle.http_pieces.specs.Requests.{StreamEnd, Open}
use Rattle.connect_codec.specs.Reply.{success_reply, error_reply}
use Rattle.connect_codec.specs.declared.answer.Outcome.TheVariants.{Answer}
use Rattle.error_document.specs.declared.document.RpcError.{RpcError}
use Rattle.call_plan.specs.Plan.{PlanRecord, join_text}
use Rattle.gateway_model.specs.declared.entry.ReplyEntry.TheVariants as reply_entry
use Rattle.gateway_model.specs.declared.call_event.CallEvent.{CallEvent}
use Rattle.gateway_model.specs.declared.id.CallId.{CallId}
use Rattle.gateway_model.specs.CallRecord.{CallRecord, answer_of_branch, answers_in, last_event}
use Rattle.gateway_model.specs.Errors.{error_of}
use Rattle.gateway_model.specs.Events.{refusal_gained, requests_gained}
use Rattle.gateway_model.specs.Decided.{IsDecidedAt}
use Rattle.gateway_model.specs.Occurrence.{Coming, Occurrence, Result}
use Rattle.gateway_model.specs.Past.{ArrivedCall, Past, call, counts, coming_on, is_broken, marked}
use Rattle.gateway_model.specs.Queue.{answer_of, own_events, record_deadlines, record_of}
use Rattle.gateway_model.specs.Starts.{Placed, occurrences}

-- the past by what occurred
abbrev pub past_by : List Placed → Past
past_by placed = marked (occurrences placed)

-- ---- requests

-- what came on the connection's stream, in order
abbrev pub came_on : ℕ → List Occurrence → List Coming
came_on conn [] = []
came_on conn (o ∷ os) = came_on conn os ++ option_to_list (coming_on conn o (is_broken conn (marked os)))

-- the requests of a stream with what each comes to, and its refusal, if it ends with one
abbrev pub brought_by : List PlanRecord → List HttpRequest → StreamEnd → List Coming
brought_by plans given ending = requests_gained plans given ++ refusal_gained (Open []) ending

-- ---- places

-- the places of the openings, where one more event stands at place n
abbrev pub shifted_by : ℕ → List ℕ → List ℕ
shifted_by n opened = map (λ t. if nat_lt n t then suc t else t) opened

-- ---- the answer to a call

-- each branch of the call has its answer
abbrev pub AllAnswered : CallRecord → Type 0
AllAnswered r = (i : ℕ) → i < length r.plan.branches → is_some (answer_of_branch i r.events) ≡ true

-- the bytes answer a call that this event decided: the answers of all its branches joined, or the event's error
pub data AnswersCall (r : CallRecord) (e : CallEvent) (bytes : List ℕ) : Type 0 where
  joined : error_of r.plan e ≡ None → AllAnswered r
      → bytes ≡ success_reply (join_text r.plan.branches (answers_in (length r.plan.branches) r.events)) r.last → AnswersCall r e bytes
  failed : (error : RpcError) → error_of r.plan e ≡ Some error → bytes ≡ error_reply error r.last → AnswersCall r e bytes

-- the record is that of a call which was asked for, with its own events by the first that decides it: the one of the least place
pub record IsAnswered (id : CallId) (r : CallRecord) (occurred : List Occurrence) : Type 0 where
  pub asked : ArrivedCall
  pub call_is : call id (marked occurred) ≡ Some asked
  pub record_is : r ≡ record_of asked (record_deadlines id (marked occurred)) (own_events id (marked occurred))
  pub place : ℕ
  pub event : CallEvent
  pub first : IsDecidedAt id (reverse occurred) place event
  pub last_is : last_event r.events ≡ Some event
  pub answer : AnswersCall r event (answer_of (reply_entry.Call r)).bytes

-- the branch ended with that answer, which counted
pub record HasAnswered (id : CallId) (branch : ℕ) (body : List ℕ) (occurred : List Occurrence) : Type 0 where
  pub later : List Occurrence
  pub before : List Occurrence
  pub occurred_is : occurred ≡ later ++ Result id branch (Answer body) ∷ before
  pub counted : counts (Result id branch (Answer body)) (marked before) ≡ true
