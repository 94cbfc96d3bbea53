-- What a branch's reply means (Connect protocol, "Unary-Response"; the texts are this project's).
use Rattle.std.specs.Prelude.{ℕ, List, ◌==◌, if◌then◌else◌, false, Option, None, Some, is_some, codes}
use Rattle.std.specs.Option.{option_map_or}
use Rattle.http_pieces.specs.declared.reply.HttpReply.{HttpReply}
use Rattle.json_values.specs.Json.{json_of}
use Rattle.error_document.specs.Documents.{plain_error, read_error}
use Rattle.error_document.specs.declared.code.Code.{Code}
use Rattle.error_document.specs.declared.code.Code.TheVariants.{Internal, Unavailable}
use Rattle.connect_codec.specs.Headers.{is_json_type}
use Rattle.connect_codec.specs.declared.answer.Outcome.{Outcome}
use Rattle.connect_codec.specs.declared.answer.Outcome.TheVariants.{Answer, Fail}

abbrev pub failed : Code → List ℕ → Outcome
failed code message = Fail (plain_error code message)

-- a reply of status 200 answers where its content type is JSON and its body is JSON too
abbrev pub outcome_of_success : Option (List ℕ) → List ℕ → Outcome
outcome_of_success content_type body =
    if option_map_or is_json_type content_type false
    then (if is_some (json_of body) then Answer body else failed Internal (codes "response is not JSON"))
    else failed Internal (codes "unexpected content type")

-- no reply is a backend out of reach; every other status than 200 is an error, which the body may name
unfoldable pub outcome_of : Option HttpReply → Outcome
outcome_of None = failed Unavailable (codes "backend unreachable")
outcome_of (Some reply) =
    if reply.status == 200 then outcome_of_success reply.content_type reply.body
    else Fail (read_error reply.status reply.body)
