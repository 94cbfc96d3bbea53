-- What a request comes to as it arrives.
use Rattle.std.specs.Prelude.{ℕ, Bool, true, false, List, [], Option, option_and_then, codes}
use Rattle.std.specs.Option.{option_map_or}
use Rattle.http_pieces.specs.declared.refusal.Refusal.{Refusal}
use Rattle.http_pieces.specs.declared.refusal.Refusal.TheVariants as refusal
use Rattle.http_pieces.specs.Request.{HttpRequest}
use Rattle.error_document.specs.Documents.{plain_error}
use Rattle.error_document.specs.declared.code.Code.TheVariants.{ResourceExhausted}
use Rattle.connect_codec.specs.Path.{path_of}
use Rattle.connect_codec.specs.Reply.{bare_reply, error_reply}
use Rattle.connect_codec.specs.Verdict.{verdict_of}
use Rattle.connect_codec.specs.declared.verdict.Verdict.{Verdict}
use Rattle.connect_codec.specs.declared.verdict.Verdict.TheVariants.{Ask, Bare, Fail}
use Rattle.call_plan.specs.Plan.{PlanRecord}
use Rattle.call_plan.specs.Plans.{plan_at}
use Rattle.gateway_model.specs.declared.reply_bytes.ReplyBytes.{ReplyBytes}
use Rattle.gateway_model.specs.Reply.{reply_of}

-- what a request comes to
pub data Arrival : Type 0 where
  -- it is no call, and is answered by its verdict
  Judged : Verdict → Arrival
  -- it asks for a call of the plan, with the timeout in milliseconds and the request id that it names
  Asks : PlanRecord → Option ℕ → Option (List ℕ) → Arrival

-- the plan that the request's path names
abbrev pub plan_of : List PlanRecord → HttpRequest → Option PlanRecord
plan_of plans q = option_and_then (λ path. plan_at path plans) (path_of q.target)

abbrev pub arrival_by : Verdict → PlanRecord → Arrival
arrival_by (Ask timeout id) plan = Asks plan timeout id
arrival_by verdict plan = Judged verdict

-- what the request comes to by its verdict, for which its path names a plan or none
abbrev pub arrival_of : List PlanRecord → HttpRequest → Arrival
arrival_of plans q = option_map_or (λ plan. arrival_by (verdict_of q true) plan) (plan_of plans q) (Judged (verdict_of q false))

-- the reply to a request that is no call
abbrev pub verdict_reply : Verdict → Bool → ReplyBytes
verdict_reply (Ask timeout id) last = reply_of [] last
verdict_reply (Bare status) last = reply_of (bare_reply status last) last
verdict_reply (Fail error) last = reply_of (error_reply error last) last

-- the last reply of a stream that is refused: a status alone, or the error of a body that is too large
unfoldable pub refusal_reply : Refusal → ReplyBytes
refusal_reply refusal.HeadTooLarge = reply_of (bare_reply 431 true) true
refusal_reply refusal.NotAHead = reply_of (bare_reply 400 true) true
refusal_reply refusal.LengthRequired = reply_of (bare_reply 411 true) true
refusal_reply refusal.BadLength = reply_of (bare_reply 400 true) true
refusal_reply refusal.BadHost = reply_of (bare_reply 400 true) true
refusal_reply refusal.BodyTooLarge =
    reply_of (error_reply (plain_error ResourceExhausted (codes "body larger than 65536 bytes")) true) true
