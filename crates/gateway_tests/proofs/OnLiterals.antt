-- What an answer unfolds to compute the definitions on texts that are written out.
use Rattle.std.specs.Prelude.{⊤}
use Rattle.std.specs.Fmt.{digits}
use Rattle.std.specs.Str.{chars, is_utf8}
use Rattle.httparse.specs.Grammar.{trim_ows}
use Rattle.serde_json.proofs.OnLiterals.{serde_json_on_literals}
use Rattle.http_pieces.specs.Fields.{same_without_case, has_option, decimal}
use Rattle.error_document.specs.Codes.{code_named}
use Rattle.json_values.specs.Json.{json_of}
use Rattle.error_document.specs.Documents.{error_text, read_error}
use Rattle.connect_codec.specs.Headers.{is_json_type, is_request_id}
use Rattle.connect_codec.specs.Message.{message_bytes}
use Rattle.connect_codec.specs.Outcome.{outcome_of}
use Rattle.connect_codec.specs.Path.{path_of}
use Rattle.connect_codec.specs.Reply.{phrase_of, success_reply, error_reply, bare_reply}
use Rattle.connect_codec.specs.Verdict.{verdict_of}
use Rattle.call_plan.specs.Plan.{join_text}
use Rattle.gateway_model.specs.Arrival.{refusal_reply}

-- the bytes of replies
unfoldable pub replies_on_literals : ⊤
unfolding digits trim_ows serde_json_on_literals same_without_case has_option decimal error_text message_bytes phrase_of success_reply error_reply bare_reply join_text refusal_reply
replies_on_literals = tt

-- the verdict of a request
unfoldable pub verdicts_on_literals : ⊤
unfolding chars is_utf8 trim_ows serde_json_on_literals same_without_case has_option decimal path_of json_of is_json_type is_request_id verdict_of
verdicts_on_literals = tt

-- the outcome of a backend's reply
unfoldable pub outcomes_on_literals : ⊤
unfolding chars is_utf8 trim_ows serde_json_on_literals same_without_case json_of is_json_type code_named read_error outcome_of
outcomes_on_literals = tt
