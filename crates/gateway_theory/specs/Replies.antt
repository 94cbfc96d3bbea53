-- A reply: the request that it answers, and what that is answered by.
use Rattle.std.specs.Prelude.{ℕ, Bool, List, length, map}
use Rattle.call_plan.specs.Plan.{PlanRecord, join_text}
use Rattle.connect_codec.specs.Reply.{success_reply}
use Rattle.gateway_model.specs.CallRecord.{answers_in}
use Rattle.gateway_model.specs.Past.{Past}
use Rattle.gateway_model.specs.Queue.{answer_of, queued_entries}
use Rattle.gateway_model.specs.declared.call_event.CallEvent.{CallEvent}
use Rattle.gateway_model.specs.declared.reply_bytes.ReplyBytes.{ReplyBytes}
use Rattle.gateway_model.specs.declared.entry.ReplyEntry.{ReplyEntry}
use Rattle.gateway_model.specs.declared.id.CallId.{CallId}

-- the reply to the request of that connection and number, by its entry
pub record ReplyValue : Type 0 where
  pub id : CallId
  pub entry : ReplyEntry

abbrev pub reply_with : CallId → ReplyEntry → ReplyValue
reply_with id entry = record { id = id; entry = entry }

-- the success of a call: the answers among its events joined, in declared order
abbrev pub joined_reply : PlanRecord → List CallEvent → Bool → List ℕ
joined_reply plan events last = success_reply (join_text plan.branches (answers_in (length plan.branches) events)) last

-- the replies to a connection's requests in order, up to the first that is undecided
abbrev pub replies : ℕ → Past → List ReplyBytes
replies conn past = map answer_of (queued_entries conn past)
