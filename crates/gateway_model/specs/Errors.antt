-- The errors that calls end with (Connect protocol, error codes; Go `context`, `Err`).
use Rattle.std.specs.Prelude.{ℕ, List, [], ◌∷◌, ◌++◌, codes, Option, None, Some, option_map}
use Rattle.error_document.specs.Documents.{plain_error}
use Rattle.error_document.specs.declared.code.Code.TheVariants.{ResourceExhausted, DeadlineExceeded, Canceled, Unavailable}
use Rattle.error_document.specs.declared.document.RpcError.{RpcError}
use Rattle.call_plan.specs.Plan.{PlanRecord}
use Rattle.gateway_model.specs.declared.ending.EndCause.{EndCause}
use Rattle.gateway_model.specs.declared.ending.EndCause.TheVariants as cause
use Rattle.gateway_model.specs.declared.ending.Ending.{Ending}
use Rattle.gateway_model.specs.declared.call_event.CallEvent.{CallEvent}
use Rattle.gateway_model.specs.declared.call_event.CallEvent.TheVariants.{Answer, Failed, Expired, BranchExpired, HungUp, Drained}
use Rattle.gateway_model.specs.Branch.{branch_at}

-- the error of a failed branch, as the caller is told it: its code and its details, and its message behind the branch's name
abbrev pub named_message : List ℕ → List ℕ → List ℕ
named_message name [] = name
named_message name (b ∷ message) = name ++ codes ": " ++ b ∷ message

abbrev pub branch_error : List ℕ → RpcError → RpcError
branch_error name error = record error { message = named_message name error.message }

-- the error of a call whose deadline is reached
abbrev pub expired_error : RpcError
expired_error = plain_error DeadlineExceeded (codes "context deadline exceeded")

-- the error that a cause ends a call with (Connect protocol, error codes; Go `context`, `Err`)
abbrev pub cause_error : EndCause → RpcError
cause_error (cause.Branch name error) = branch_error name error
cause_error cause.Deadline = expired_error
cause_error cause.HangUp = plain_error Canceled (codes "context canceled")
cause_error cause.Drain = plain_error Unavailable (codes "gateway is draining")

-- the error that an ending tells
abbrev pub ending_error : Ending → RpcError
ending_error ending = cause_error ending.cause

-- the cause for which an event ends its call; an answer is none
abbrev pub cause_of : PlanRecord → CallEvent → Option EndCause
cause_of plan (Answer i body) = None
cause_of plan (Failed i error) = Some (cause.Branch (branch_at plan i).name error)
cause_of plan (Expired moment) = Some cause.Deadline
cause_of plan (BranchExpired i moment) = Some (cause.Branch (branch_at plan i).name expired_error)
cause_of plan HungUp = Some cause.HangUp
cause_of plan Drained = Some cause.Drain

-- the error that an event ends its call with; an answer is none
abbrev pub error_of : PlanRecord → CallEvent → Option RpcError
error_of plan event = option_map cause_error (cause_of plan event)

-- the error of a call too many
abbrev pub crowded_error : RpcError
crowded_error = plain_error ResourceExhausted (codes "more than 8 calls in flight")
