-- Worked rows: what occurs in each.
use Rattle.std.specs.Prelude.{ℕ, zero, suc, Bool, false, ◌&&◌, option_and_then, List, [], ◌∷◌, ◌++◌, map, replicate, reverse, length, codes, Option, None, Some}
use Rattle.std.specs.List.{enumerate_from}
use Rattle.error_document.specs.Documents.{error_text, plain_error}
use Rattle.error_document.specs.declared.code.Code.{Code}
use Rattle.error_document.specs.declared.document.RpcError.{RpcError}
use Rattle.http_pieces.specs.declared.reply.HttpReply.{HttpReply}
use Rattle.http_pieces.specs.declared.refusal.Refusal.{Refusal}
use Rattle.http_pieces.specs.declared.version.Version.{Version}
use Rattle.http_pieces.specs.declared.version.Version.TheVariants.{V10, V11}
use Rattle.http_pieces.specs.Fields.{NamedValue}
use Rattle.http_pieces.specs.Request.{HttpRequest}
use Rattle.connect_codec.specs.Reply.{success_reply, error_reply}
use Rattle.connect_codec.specs.Message.{message_bytes}
use Rattle.connect_codec.specs.Outcome.{outcome_of}
use Rattle.connect_codec.specs.declared.answer.Outcome.{Outcome}
use Rattle.connect_codec.specs.declared.answer.Outcome.TheVariants.{Answer, Fail}
use Rattle.connect_codec.specs.declared.verdict.Verdict.TheVariants.{Bare}
use Rattle.call_plan.specs.Plan.{PlanRecord}
use Rattle.gateway_model.specs.Arrival.{Arrival, Judged, Asks, arrival_of}
use Rattle.gateway_model.specs.declared.reply_bytes.ReplyBytes.{ReplyBytes}
use Rattle.gateway_model.specs.Reply.{reply_of}
use Rattle.gateway_model.specs.Occurrence.{Occurrence, Opening, Comes, Moment, Result, Request, Refused}
use Rattle.gateway_model.specs.declared.entry.ReplyEntry.{ReplyEntry}
use Rattle.gateway_model.specs.declared.entry.ReplyEntry.TheVariants.{Call}
use Rattle.gateway_model.specs.declared.call_event.CallEvent.{CallEvent}
use Rattle.gateway_model.specs.Branch.{branch_at}
use Rattle.gateway_model.specs.CallRecord.{CallRecord}
use Rattle.gateway_model.specs.Job.{JobValue}
use Rattle.connect_codec.specs.Passed.{passed}
use Rattle.gateway_model.specs.declared.id.CallId.{CallId}
use Rattle.gateway_model.specs.Past.{call_id, past_of}
use Rattle.gateway_model.specs.Queue.{entry, queued}
use Rattle.gateway_model.specs.Record.{is_lawful, is_decided}
use Rattle.std.specs.Option.{option_map_or}
use Rattle.gateway_model.specs.Starts.{starts}
use Rattle.gateway_theory.specs.Starting.{StartedJob, start}

-- the record of a call
abbrev pub record_with : PlanRecord → ℕ → Option ℕ → Bool → List (Option ℕ) → List CallEvent → CallRecord
record_with plan start deadline last branch_deadlines events =
    record { plan = plan; start = start; deadline = deadline; last = last; branch_deadlines = branch_deadlines; events = events }

-- the job of a branch, with this deadline and so much left of its time
abbrev pub job_with : CallId → ℕ → PlanRecord → HttpRequest → Option (List ℕ) → Option ℕ → Option ℕ → JobValue
job_with call i plan request request_id deadline remaining = record {
  call = call;
  branch = i;
  plan_path = plan.path;
  branch_name = (branch_at plan i).name;
  address = (branch_at plan i).address;
  path = (branch_at plan i).path;
  body = request.body;
  request_id = request_id;
  passed = passed (branch_at plan i).pass request.fields;
  deadline = deadline;
  remaining = remaining;
}

-- what starts, where each occurrence is an event of its own
abbrev pub row_starts : List Occurrence → List StartedJob
row_starts os = starts (reverse (enumerate_from 0 os))

-- ---- the plans

abbrev pub ping : PlanRecord
ping = record {
  path = codes "/acme.v1.Ping/Ping";
  limit = 1;
  timeout = None;
  branches = record { name = codes "pong"; address = codes "127.0.0.1:9001"; path = codes "/acme.v1.Pong/Pong"; timeout_ms = None; pass = [] } ∷ [];
}

abbrev pub quote : PlanRecord
quote = record {
  path = codes "/acme.v1.Trip/Quote";
  limit = 2;
  timeout = Some 5000;
  branches =
      record { name = codes "flight"; address = codes "127.0.0.1:9002"; path = codes "/acme.v1.Flight/Find"; timeout_ms = None; pass = [] }
      ∷ record { name = codes "hotel"; address = codes "127.0.0.1:9003"; path = codes "/acme.v1.Hotel/Find"; timeout_ms = None; pass = [] }
      ∷ record { name = codes "car"; address = codes "127.0.0.1:9004"; path = codes "/acme.v1.Car/Find"; timeout_ms = None; pass = [] } ∷ [];
}

-- the same with a timeout for each branch, if it has one
abbrev pub timed : PlanRecord → Option ℕ → Option ℕ → Option ℕ → PlanRecord
timed plan flight hotel car = record plan {
  branches =
      record { name = codes "flight"; address = codes "127.0.0.1:9002"; path = codes "/acme.v1.Flight/Find"; timeout_ms = flight; pass = [] }
      ∷ record { name = codes "hotel"; address = codes "127.0.0.1:9003"; path = codes "/acme.v1.Hotel/Find"; timeout_ms = hotel; pass = [] }
      ∷ record { name = codes "car"; address = codes "127.0.0.1:9004"; path = codes "/acme.v1.Car/Find"; timeout_ms = car; pass = [] } ∷ [];
}

abbrev pub quote_timed : Option ℕ → Option ℕ → Option ℕ → PlanRecord
quote_timed = timed quote

-- the same, where flight is sent two fields of a call's request, and car one
abbrev pub quote_passing : PlanRecord
quote_passing = record quote {
  branches =
      record { name = codes "flight"; address = codes "127.0.0.1:9002"; path = codes "/acme.v1.Flight/Find"; timeout_ms = None; pass = codes "authorization" ∷ codes "X-Tenant" ∷ [] }
      ∷ record { name = codes "hotel"; address = codes "127.0.0.1:9003"; path = codes "/acme.v1.Hotel/Find"; timeout_ms = None; pass = [] }
      ∷ record { name = codes "car"; address = codes "127.0.0.1:9004"; path = codes "/acme.v1.Car/Find"; timeout_ms = None; pass = codes "authorization" ∷ [] } ∷ [];
}

-- ---- requests

-- request number k, for that path
abbrev pub request_for : List ℕ → ℕ → HttpRequest
request_for path k = record {
  method = codes "POST";
  target = path;
  version = V11;
  fields = (codes "Host", codes "g") ∷ (codes "Content-Type", codes "application/json") ∷ (codes "Content-Length", codes "2") ∷ [];
  body = codes "{}";
  number = k;
}

-- request number k is no call: its method is not `POST`
abbrev pub get_request : ℕ → HttpRequest
get_request k = record (request_for ping.path k) { method = codes "GET"; fields = (codes "Host", codes "g") ∷ []; body = [] }

-- the first request, for Ping, with these fields behind `Host` and this body
abbrev pub ping_with : List NamedValue → List ℕ → HttpRequest
ping_with fields body = record (request_for ping.path 0) { fields = (codes "Host", codes "g") ∷ fields; body = body }

-- the same with that content type
abbrev pub ping_of_type : List ℕ → HttpRequest
ping_of_type value = ping_with ((codes "Content-Type", value) ∷ (codes "Content-Length", codes "2") ∷ []) (codes "{}")

-- the same with one more field
abbrev pub ping_adding : List ℕ → List ℕ → HttpRequest
ping_adding name value =
    ping_with ((name, value) ∷ (codes "Content-Type", codes "application/json") ∷ (codes "Content-Length", codes "2") ∷ []) (codes "{}")

-- the same with that length and that body
abbrev pub ping_of_length : List ℕ → List ℕ → HttpRequest
ping_of_length size body = ping_with ((codes "Content-Type", codes "application/json") ∷ (codes "Content-Length", size) ∷ []) body

-- the same with no body
abbrev pub ping_empty : HttpRequest
ping_empty = ping_of_length (codes "0") []

-- the same with so many more fields
abbrev pub ping_crowded : ℕ → HttpRequest
ping_crowded n =
    ping_with (replicate n (codes "X-A", codes "b") ++ (codes "Content-Type", codes "application/json") ∷ (codes "Content-Length", codes "2") ∷ []) (codes "{}")

-- the same with one more field, of so many bytes
abbrev pub ping_filled : ℕ → HttpRequest
ping_filled n = ping_adding (codes "X-A") (replicate n 97)

-- the same, asking for the close of its connection
abbrev pub ping_closing : HttpRequest
ping_closing = ping_adding (codes "Connection") (codes "close")

-- the same in HTTP/1.0, with no `Host`
abbrev pub ping_old : HttpRequest
ping_old = record (request_for ping.path 0) {
  version = V10;
  fields = (codes "Content-Type", codes "application/json") ∷ (codes "Content-Length", codes "2") ∷ [];
}

-- the same in HTTP/1.1, with no `Host`
abbrev pub ping_hostless : HttpRequest
ping_hostless = record ping_old { version = V11 }

-- ---- their bytes

-- how a request line ends
abbrev pub version_text : Version → List ℕ
version_text V10 = codes " HTTP/1.0"
version_text V11 = codes " HTTP/1.1"

-- the bytes of a request's head
abbrev pub head_text : HttpRequest → List ℕ
head_text q = message_bytes (q.method ++ codes " " ++ q.target ++ version_text q.version) q.fields []

-- the bytes of a request
abbrev pub text_of : HttpRequest → List ℕ
text_of q = head_text q ++ q.body

-- ---- what occurs on a connection

-- request number k of that connection asks for a call of the plan, with that timeout and that request id
abbrev pub asks_on : ℕ → PlanRecord → Option ℕ → Option (List ℕ) → ℕ → Occurrence
asks_on conn plan timeout id k = Comes conn (Request (request_for plan.path k) (Asks plan timeout id))

-- request number k of connection 0 asks for a call of the plan, with these fields behind `Host`
abbrev pub asks_with : PlanRecord → List NamedValue → ℕ → Occurrence
asks_with plan fields k = Comes 0 (Request (record (request_for plan.path k) { fields = (codes "Host", codes "g") ∷ fields }) (Asks plan None None))

-- the fields that the jobs pass on, job by job
abbrev pub passed_by : List Occurrence → List (List NamedValue)
passed_by os = map (λ s. s.1.passed) (row_starts os)

-- ---- what occurs on connection 0

-- the branch of that request's call on connection 0 starts at that place, at moment 0, with all of its plan's time left
abbrev pub starts_then : PlanRecord → ℕ → ℕ → ℕ → StartedJob
starts_then plan place request branch = start place (job_with (call_id 0 request) branch plan (request_for plan.path request) None plan.timeout plan.timeout)

-- the branch of the first call on connection 0 starts at that place, with this deadline and so much left
abbrev pub starts_with : PlanRecord → ℕ → ℕ → Option ℕ → Option ℕ → StartedJob
starts_with plan place branch deadline left = start place (job_with (call_id 0 0) branch plan (request_for plan.path 0) None deadline left)

-- request number k asks for a call of the plan, with that timeout
abbrev pub asks : PlanRecord → Option ℕ → ℕ → Occurrence
asks plan timeout k = asks_on 0 plan timeout None k

-- what a request comes to, where Ping and Quote are the plans
abbrev pub arrives : HttpRequest → Arrival
arrives q = arrival_of (ping ∷ quote ∷ []) q

-- the request comes, where they are
abbrev pub comes : HttpRequest → Occurrence
comes q = Comes 0 (Request q (arrives q))

-- request number k comes, and is no call
abbrev pub gets : ℕ → Occurrence
gets k = Comes 0 (Request (get_request k) (Judged (Bare 405)))

-- so many of them, newest first
unfoldable pub after_gets : ℕ → List Occurrence
after_gets zero = Opening ∷ []
after_gets (suc n) = gets n ∷ after_gets n

-- the stream is refused
abbrev pub refuses : Refusal → Occurrence
refuses r = Comes 0 (Refused r)

-- a branch of the call of request k answers
abbrev pub answers : ℕ → ℕ → List ℕ → Occurrence
answers k i body = Result (call_id 0 k) i (Answer body)

-- an error of that code
abbrev pub error : Code → List ℕ → RpcError
error = plain_error

-- the same with one detail, `AA` of type `t`
abbrev pub detailed : Code → List ℕ → RpcError
detailed code message = record (error code message) { details = record { type_name = codes "t"; value = codes "AA" } ∷ [] }

-- it fails
abbrev pub fails : ℕ → ℕ → Code → List ℕ → Occurrence
fails k i code message = Result (call_id 0 k) i (Fail (error code message))

-- a backend's reply
abbrev pub backend_reply : ℕ → List ℕ → List ℕ → HttpReply
backend_reply status type body = record { status = status; content_type = Some type; closes = false; body = body }

-- what a backend's reply with a body of JSON is to its call
abbrev pub outcome_at : ℕ → List ℕ → Outcome
outcome_at status body = outcome_of (Some (backend_reply status (codes "application/json") body))

-- the first call's one branch ends so
abbrev pub ends : Outcome → Occurrence
ends outcome = Result (call_id 0 0) 0 outcome

-- the first request is for Ping, and its branch ends so
abbrev pub pinged : Outcome → List Occurrence
pinged outcome = Opening ∷ asks ping None 0 ∷ ends outcome ∷ []

-- Quote is asked for and its second branch answers, newest first
abbrev pub hotel_answered : List Occurrence
hotel_answered = answers 0 1 (codes "2") ∷ asks quote None 0 ∷ Opening ∷ []

-- after that so many results of the same branch, and then so many of a call of connection 7, newest first
abbrev pub flooded : ℕ → ℕ → List Occurrence
flooded strangers repeats =
    replicate strangers (Result (call_id 7 0) 0 (Answer (codes "9"))) ++ (replicate repeats (answers 0 1 (codes "9")) ++ hotel_answered)

-- ---- the replies, none of them a connection's last

abbrev pub succeeded : List ℕ → ReplyBytes
succeeded body = reply_of (success_reply body false) false

abbrev pub failed_with : RpcError → ReplyBytes
failed_with error = reply_of (error_reply error false) false

abbrev pub failed : Code → List ℕ → ReplyBytes
failed code message = failed_with (error code message)

-- the text of an error
abbrev pub document : Code → List ℕ → List ℕ
document code message = error_text (error code message)

-- how many bytes are queued for connection 0
abbrev pub bytes_queued : List Occurrence → ℕ
bytes_queued os = length (queued 0 (past_of os))

-- ---- records

-- the record of the call that request 0 began, where it is decided
abbrev pub called : ReplyEntry → Option CallRecord
called (Call r) = Some r
called e = None

abbrev pub record_in : List Occurrence → Option CallRecord
record_in os = option_and_then called (entry (call_id 0 0) (past_of os))

-- it is lawful, and decided
abbrev pub is_lawful_row : List Occurrence → Bool
is_lawful_row os = option_map_or (λ r. is_lawful r && is_decided r) (record_in os) false

-- a record of Quote that begins at moment 0, with these events
abbrev pub quote_record : List CallEvent → CallRecord
quote_record events = record { plan = quote; start = 0; deadline = Some 5000; last = false; branch_deadlines = None ∷ None ∷ []; events = events }

-- the same of a plan whose branches flight and hotel start at once, hotel with 50 milliseconds of its own, at moment 1000
abbrev pub hotel_record : List CallEvent → CallRecord
hotel_record events =
    record { plan = quote_timed None (Some 50) None; start = 1000; deadline = Some 6000; last = false; branch_deadlines = None ∷ Some 1050 ∷ []; events = events }

-- the first call asks for Quote with these times of its branches at moment 1000
abbrev pub asked_at_1000 : Option ℕ → Option ℕ → Option ℕ → List Occurrence
asked_at_1000 flight hotel car = Opening ∷ Moment 1000 ∷ asks (quote_timed flight hotel car) None 0 ∷ []
