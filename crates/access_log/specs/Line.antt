-- The line of the log for a reply: what it tells of the entry, which the request was answered by, and its text.
use Rattle.std.specs.Prelude.{⊤, ℕ, ◌-◌, List, codes, Option, None, Some, option_map, option_and_then}
use Rattle.std.specs.Option.{option_copied, option_map_or}
use Rattle.serde_json.specs.Data.{Data, null, number, unsigned, string, object, member, no_members}
use Rattle.serde_json.specs.Written.{compact_text}
use Rattle.http_pieces.specs.declared.refusal.Refusal.{Refusal}
use Rattle.http_pieces.specs.declared.refusal.Refusal.TheVariants as refusal
use Rattle.error_document.specs.Codes.{code_name, code_status}
use Rattle.error_document.specs.declared.code.Code.{Code}
use Rattle.error_document.specs.declared.code.Code.TheVariants.{ResourceExhausted}
use Rattle.connect_codec.specs.declared.verdict.Verdict.TheVariants.{Ask, Bare, Fail}
use Rattle.gateway_model.specs.declared.call_event.CallEvent.{CallEvent}
use Rattle.gateway_model.specs.declared.call_event.CallEvent.TheVariants.{Answer, Failed, Expired, BranchExpired, HungUp, Drained}
use Rattle.gateway_model.specs.declared.entry.ReplyEntry.{ReplyEntry}
use Rattle.gateway_model.specs.declared.entry.ReplyEntry.TheVariants as reply_entry
use Rattle.gateway_model.specs.declared.id.CallId.{CallId}
use Rattle.gateway_model.specs.Branch.{branch_at}
use Rattle.gateway_model.specs.CallRecord.{CallRecord, last_event}
use Rattle.gateway_model.specs.Errors.{error_of}
use Rattle.access_log.specs.declared.ending.Ended.{Ended}
use Rattle.access_log.specs.declared.ending.Ended.TheVariants as ended
use Rattle.access_log.specs.declared.line.Caller.{Caller}

-- ---- what ended a call

-- the event that decided it: its last answer, the failure or the deadline of a branch, or what ends all calls at once
abbrev pub ended_by : CallEvent → List ℕ
ended_by (Answer i body) = codes "answers"
ended_by (Failed i error) = codes "branch"
ended_by (Expired moment) = codes "deadline"
ended_by (BranchExpired i moment) = codes "branch deadline"
ended_by HungUp = codes "hang-up"
ended_by Drained = codes "drain"

-- the branch that ended it, by its number
abbrev pub branch_of : CallEvent → Option ℕ
branch_of (Failed i error) = Some i
branch_of (BranchExpired i moment) = Some i
branch_of e = None

-- the name of the branch that ended the call
abbrev pub branch_in : CallRecord → Option (List ℕ)
branch_in r = option_map (λ i. (branch_at r.plan i).name) (option_and_then branch_of (last_event r.events))

-- the name of each ending
abbrev pub ended_name : Ended → List ℕ
ended_name ended.Answers = codes "answers"
ended_name ended.Branch = codes "branch"
ended_name ended.BranchDeadline = codes "branch deadline"
ended_name ended.Deadline = codes "deadline"
ended_name ended.HangUp = codes "hang-up"
ended_name ended.Drain = codes "drain"
ended_name ended.NoCall = codes "no call"
ended_name ended.OneTooMany = codes "one too many"
ended_name ended.Refusal = codes "refusal"

-- the code of the error that the call ended with
abbrev pub code_in : CallRecord → Option Code
code_in r = option_map (λ error. error.code) (option_and_then (error_of r.plan) (last_event r.events))

-- ---- what is told of an entry

-- what ended the call; or that there was none, since the stream was refused, the request is none, or it is one too many
abbrev pub ended_told : ReplyEntry → List ℕ
ended_told (reply_entry.Refused r) = codes "refusal"
ended_told (reply_entry.Judged v last) = codes "no call"
ended_told (reply_entry.Crowded last) = codes "one too many"
ended_told (reply_entry.Call r) = option_map_or ended_by (last_event r.events) (codes "answers")

-- the branch that ended the call
abbrev pub branch_told : ReplyEntry → Option (List ℕ)
branch_told (reply_entry.Call r) = branch_in r
branch_told entry = None

-- the path of the call's plan
abbrev pub path_told : ReplyEntry → Option (List ℕ)
path_told (reply_entry.Call r) = Some r.plan.path
path_told entry = None

-- the milliseconds from the call's arrival to that moment
abbrev pub taken_told : ℕ → ReplyEntry → Option ℕ
taken_told moment (reply_entry.Call r) = Some (moment - r.start)
taken_told moment entry = None

-- the code of the error that the reply tells; a success and a bare reply have none
abbrev pub code_told : ReplyEntry → Option Code
code_told (reply_entry.Refused refusal.BodyTooLarge) = Some ResourceExhausted
code_told (reply_entry.Refused r) = None
code_told (reply_entry.Judged (Fail error) last) = Some error.code
code_told (reply_entry.Judged v last) = None
code_told (reply_entry.Crowded last) = Some ResourceExhausted
code_told (reply_entry.Call r) = code_in r

-- the status of a refused stream
abbrev pub refusal_status : Refusal → ℕ
refusal_status refusal.HeadTooLarge = 431
refusal_status refusal.NotAHead = 400
refusal_status refusal.LengthRequired = 411
refusal_status refusal.BadLength = 400
refusal_status refusal.BadHost = 400
refusal_status refusal.BodyTooLarge = 429

-- the status of a reply that tells no error
abbrev pub bare_status : ReplyEntry → ℕ
bare_status (reply_entry.Refused r) = refusal_status r
bare_status (reply_entry.Judged (Bare status) last) = status
bare_status entry = 200

-- the reply's status
abbrev pub status_told : ReplyEntry → ℕ
status_told entry = option_map_or code_status (code_told entry) (bare_status entry)

-- It has a reply: a verdict that the request is a call is none.
abbrev pub HasReply : ReplyEntry → Type 0
HasReply (reply_entry.Judged (Ask timeout id) last) = ⊥
HasReply entry = ⊤

-- ---- the line

abbrev pub text_or_null : Option (List ℕ) → Data
text_or_null text = option_map_or string text null

abbrev pub number_or_null : Option ℕ → Data
number_or_null n = option_map_or (λ n. number (unsigned n)) n null

-- whose request a reply answers, without its borrows
pub record ToldCaller : Type 0 where
  pub request_id : Option (List ℕ)
  pub target : Option (List ℕ)
  pub peer : Option (List ℕ)

abbrev pub caller_of : Caller → ToldCaller
caller_of c = record {
  request_id = option_copied c.request_id;
  target = option_copied c.target;
  peer = option_copied c.peer;
}

-- The document of a reply that a worker wrote at that time, in milliseconds from 1970, and at that moment of the
-- gateway's, to that caller. The keys are in byte order.
abbrev pub log_document : ℕ → ℕ → ℕ → CallId → ReplyEntry → ToldCaller → Data
log_document time moment worker id entry caller =
    object (
    member (codes "branch") (text_or_null (branch_told entry)) (
    member (codes "code") (text_or_null (option_map code_name (code_told entry))) (
    member (codes "connection") (number (unsigned id.conn)) (
    member (codes "ended") (string (ended_told entry)) (
    member (codes "ms") (number_or_null (taken_told moment entry)) (
    member (codes "path") (text_or_null (path_told entry)) (
    member (codes "peer") (text_or_null caller.peer) (
    member (codes "request") (number (unsigned id.request)) (
    member (codes "request_id") (text_or_null caller.request_id) (
    member (codes "status") (number (unsigned (status_told entry))) (
    member (codes "target") (text_or_null caller.target) (
    member (codes "time") (number (unsigned time)) (
    member (codes "worker") (number (unsigned worker)) no_members)))))))))))))

-- the line: the document as compact JSON, with no LF
unfoldable pub log_line : ℕ → ℕ → ℕ → CallId → ReplyEntry → ToldCaller → List ℕ
log_line time moment worker id entry caller = compact_text (log_document time moment worker id entry caller)
