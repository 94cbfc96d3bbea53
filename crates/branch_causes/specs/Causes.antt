-- What ended the asking of a backend.
use Rattle.std.specs.Prelude.{ℕ, Bool, List, ◌==◌, if◌then◌else◌, false, codes, Option, None, Some, is_some, bytes_eq}
use Rattle.std.specs.Option.{option_map_or}
use Rattle.std.specs.declared.io.ErrorKind.{ErrorKind}
use Rattle.std.specs.declared.io.ErrorKind.TheVariants as kind
use Rattle.http_pieces.specs.declared.reply.HttpReply.{HttpReply}
use Rattle.http_pieces.specs.declared.reply_fault.ReplyFault.{ReplyFault}
use Rattle.http_pieces.specs.declared.reply_fault.ReplyFault.TheVariants as fault
use Rattle.json_values.specs.Json.{json_of}
use Rattle.error_document.specs.declared.document.RpcError.{RpcError}
use Rattle.connect_codec.specs.Headers.{is_json_type}
use Rattle.connect_codec.specs.declared.answer.Outcome.{Outcome}
use Rattle.connect_codec.specs.declared.answer.Outcome.TheVariants as outcome
use Rattle.branch_exchange.specs.declared.exchange_end.ExchangeEnd.{ExchangeEnd}
use Rattle.branch_exchange.specs.declared.exchange_end.ExchangeEnd.TheVariants as ends
use Rattle.branch_exchange.specs.declared.exchange_end.Loss.{Loss}
use Rattle.branch_exchange.specs.declared.exchange_end.Loss.TheVariants as loss
use Rattle.branch_causes.specs.declared.cause.Cause.{Cause}
use Rattle.branch_causes.specs.declared.cause.Cause.TheVariants.{Answer, Status, ContentType, NotJson, Deadline}
use Rattle.branch_causes.specs.declared.cause.Cause.TheVariants.{NotWanted, NeverAsked, Drained, NoSuchName, Refused, NoRoute}
use Rattle.branch_causes.specs.declared.cause.Cause.TheVariants.{NoPort, NoConnection, Reset, Failed, NoByte, ClosedEarly}
use Rattle.branch_causes.specs.declared.cause.Cause.TheVariants.{BeforeRequest, BadHead, NoFixedLength, BadChunk, TooLong}
use Rattle.branch_causes.specs.declared.cause.Cause.TheVariants.{TooManyPieces, NoDescriptor, NoMemory}

-- why a read, a write or a connection failed
abbrev pub cause_of_kind : ErrorKind → Cause
cause_of_kind kind.ConnectionRefused = Refused
cause_of_kind kind.ConnectionReset = Reset
cause_of_kind kind.ConnectionAborted = Reset
cause_of_kind kind.BrokenPipe = Reset
cause_of_kind kind.HostUnreachable = NoRoute
cause_of_kind kind.NetworkUnreachable = NoRoute
cause_of_kind kind.NetworkDown = NoRoute
cause_of_kind kind.AddrNotAvailable = NoPort
cause_of_kind kind.TimedOut = NoConnection
cause_of_kind kind.QuotaExceeded = NoDescriptor
cause_of_kind kind.OutOfMemory = NoMemory
cause_of_kind _ = Failed

-- why what came is no reply that is taken
abbrev pub cause_of_fault : ReplyFault → Cause
cause_of_fault fault.NotAHead = BadHead
cause_of_fault (fault.BadLength status) = BadHead
cause_of_fault (fault.NotFixedLength status) = NoFixedLength
cause_of_fault fault.HeadTooLarge = TooLong
cause_of_fault (fault.BodyTooLarge status) = TooLong
cause_of_fault (fault.BadChunk status) = BadChunk

-- why no reply came
abbrev pub cause_of_loss : Loss → Cause
cause_of_loss loss.NotWanted = NotWanted
cause_of_loss loss.Deadline = Deadline
cause_of_loss loss.NoAddress = NoSuchName
cause_of_loss loss.NotWatched = NoDescriptor
cause_of_loss (loss.Write kind) = cause_of_kind kind
cause_of_loss (loss.Read kind) = cause_of_kind kind
cause_of_loss loss.NoByte = NoByte
cause_of_loss loss.End = ClosedEarly
cause_of_loss (loss.Refused fault) = cause_of_fault fault
cause_of_loss loss.Early = BeforeRequest
cause_of_loss loss.Reads = TooManyPieces

-- the name of each cause
abbrev pub cause_name : Cause → List ℕ
cause_name Answer = codes "answer"
cause_name Status = codes "status"
cause_name ContentType = codes "unexpected content type"
cause_name NotJson = codes "not JSON"
cause_name Deadline = codes "deadline"
cause_name NotWanted = codes "not wanted any more"
cause_name NeverAsked = codes "never asked"
cause_name Drained = codes "drained"
cause_name NoSuchName = codes "no such name"
cause_name Refused = codes "refused"
cause_name NoRoute = codes "no route"
cause_name NoPort = codes "no port"
cause_name NoConnection = codes "no connection in time"
cause_name Reset = codes "reset"
cause_name Failed = codes "failed"
cause_name NoByte = codes "ended without a byte"
cause_name ClosedEarly = codes "closed early"
cause_name BeforeRequest = codes "reply before the request"
cause_name BadHead = codes "bad head"
cause_name NoFixedLength = codes "no fixed length"
cause_name BadChunk = codes "bad chunk"
cause_name TooLong = codes "too long"
cause_name TooManyPieces = codes "too many pieces"
cause_name NoDescriptor = codes "no descriptor"
cause_name NoMemory = codes "no memory"

-- what an exchange came to, as far as its status tells
abbrev pub cause_of_end : ExchangeEnd → Cause
cause_of_end (ends.Reply reply) = if reply.status == 200 then Answer else Status
cause_of_end (ends.Lost loss) = cause_of_loss loss
cause_of_end ends.NoMemory = NoMemory

-- the status of a reply that was refused, if its head was read
abbrev pub status_of_fault : ReplyFault → Option ℕ
status_of_fault fault.HeadTooLarge = None
status_of_fault fault.NotAHead = None
status_of_fault (fault.NotFixedLength status) = Some status
status_of_fault (fault.BadLength status) = Some status
status_of_fault (fault.BodyTooLarge status) = Some status
status_of_fault (fault.BadChunk status) = Some status

-- whether it is a reply that says that no request came in time (408, RFC 9110, section 15.5.9)
abbrev pub is_timeout : ExchangeEnd → Bool
is_timeout (ends.Reply reply) = reply.status == 408
is_timeout _ = false

-- its status
abbrev pub status_of_end : ExchangeEnd → Option ℕ
status_of_end (ends.Reply reply) = Some reply.status
status_of_end (ends.Lost (loss.Refused fault)) = status_of_fault fault
status_of_end _ = None

-- why a reply of status 200 is no answer, by the error that was recorded
abbrev pub cause_of_failure : RpcError → Cause
cause_of_failure error = if bytes_eq error.message (codes "response is not JSON") then NotJson else ContentType

-- what came of it, by the outcome that was recorded; None for want of memory
abbrev pub settled : Cause → Option Outcome → Cause
settled cause None = NoMemory
settled Answer (Some (outcome.Fail error)) = cause_of_failure error
settled cause (Some _) = cause

-- of a reply of JSON, by its body
abbrev pub cause_of_body : HttpReply → Cause
cause_of_body reply = if is_some (json_of reply.body) then Answer else NotJson

-- of a reply: the rules in the order in which they are looked at
abbrev pub cause_of_reply : HttpReply → Cause
cause_of_reply reply =
    if reply.status == 200
    then (if option_map_or is_json_type reply.content_type false then cause_of_body reply else ContentType)
    else Status
