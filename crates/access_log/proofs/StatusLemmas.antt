-- The status that the log tells of an entry begins its reply.
use Rattle.std.proofs.Common.{◌≡◌, ℕ, List, ◌++◌, append_assoc}
use Rattle.std.specs.Prelude.{Bool, [], Option, Some, None, option_map, option_and_then, unwrap_or}
use Rattle.std.specs.List.{flat_map}
use Rattle.std.specs.Option.{option_map_or}
use Rattle.http_pieces.specs.declared.refusal.Refusal.{Refusal}
use Rattle.http_pieces.specs.declared.refusal.Refusal.TheVariants as refusal
use Rattle.error_document.specs.Codes.{code_status}
use Rattle.error_document.specs.Documents.{error_text}
use Rattle.error_document.specs.declared.document.RpcError.{RpcError}
use Rattle.connect_codec.specs.Message.{crlf, field_line, message_bytes}
use Rattle.connect_codec.specs.Reply.{status_line, reply_bytes, reply_fields, bare_reply, error_reply, success_reply}
use Rattle.connect_codec.specs.declared.verdict.Verdict.TheVariants.{Ask, Bare, Fail}
use Rattle.gateway_model.specs.Arrival.{refusal_reply}
use Rattle.gateway_model.specs.CallRecord.{last_event}
use Rattle.gateway_model.specs.Errors.{crowded_error, error_of}
use Rattle.gateway_model.specs.Queue.{answer_of}
use Rattle.gateway_model.specs.Reply.{reply_of}
use Rattle.gateway_model.specs.declared.entry.ReplyEntry.{ReplyEntry}
use Rattle.gateway_model.specs.declared.entry.ReplyEntry.TheVariants as reply_entry
use Rattle.access_log.specs.Line.{HasReply, status_told}

-- the bytes begin with the line of the status
abbrev Begins : List ℕ → ℕ → Type 0
Begins bytes status = (rest : List ℕ) × (bytes ≡ status_line status ++ rest)

behind_first : (s c f d b : List ℕ) → s ++ c ++ f ++ d ++ b ≡ s ++ (c ++ f ++ d ++ b)
behind_first s c f d b = simp append_assoc

message_begins : (status : ℕ) (document : Option (List ℕ)) (last : Bool) → Begins (reply_bytes status document last) status
unfolding message_bytes
message_begins status document last =
    let fields = flat_map field_line (reply_fields status document last) in
    let body = unwrap_or document [] in
    (crlf ++ fields ++ crlf ++ body, behind_first (status_line status) crlf fields crlf body)

bare : (status : ℕ) (last : Bool) → Begins (bare_reply status last) status
unfolding bare_reply
bare status last = message_begins status None last

failed : (error : RpcError) (last : Bool) → Begins (error_reply error last) (code_status error.code)
unfolding error_reply
failed error last = message_begins (code_status error.code) (Some (error_text error)) last

succeeded : (body : List ℕ) (last : Bool) → Begins (success_reply body last) 200
unfolding success_reply
succeeded body last = message_begins 200 (Some body) last

refused : (r : Refusal) → Begins (refusal_reply r).bytes (status_told (reply_entry.Refused r))
unfolding refusal_reply
refused refusal.HeadTooLarge = bare _ _
refused refusal.NotAHead = bare _ _
refused refusal.LengthRequired = bare _ _
refused refusal.BadLength = bare _ _
refused refusal.BadHost = bare _ _
refused refusal.BodyTooLarge = failed _ _

by_error : (error : Option RpcError) (last : Bool) (success : List ℕ) → Begins success 200
    → Begins (option_map_or (λ (e : RpcError). reply_of (error_reply e last) last) error (reply_of success last)).bytes
    (option_map_or code_status (option_map (λ (e : RpcError). e.code) error) 200)
by_error None last success begins = begins
by_error (Some error) last success begins = failed error last

pub status_is : (entry : ReplyEntry) → HasReply entry → Begins (answer_of entry).bytes (status_told entry)
status_is (reply_entry.Refused r) has = refused r
status_is (reply_entry.Judged (Ask timeout id) last) has = absurd has
status_is (reply_entry.Judged (Bare status) last) has = bare status last
status_is (reply_entry.Judged (Fail error) last) has = failed error last
status_is (reply_entry.Crowded last) has = failed crowded_error last
status_is (reply_entry.Call r) has = by_error (option_and_then (error_of r.plan) (last_event r.events)) r.last _ (succeeded _ r.last)
