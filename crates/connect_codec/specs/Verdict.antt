-- Which requests are calls (Connect protocol, "Unary-Request"; RFC 9110, sections 15.5.5, 15.5.6 and 15.5.16; the texts are this
-- project's).
use Rattle.std.specs.Prelude.{ℕ, List, [], ◌∷◌, Bool, not, if◌then◌else◌, Option, None, is_none, Result, is_err, codes, ⊤, IsTrue}
use Rattle.std.specs.Result.{result_unwrap_or}
use Rattle.std.specs.Str.{bytes_eq}
use Rattle.http_pieces.specs.Fields.{values_of}
use Rattle.http_pieces.specs.Request.{HttpRequest}
use Rattle.timeout_header.specs.Timeout.{timeout_of}
use Rattle.timeout_header.specs.declared.error.BadTimeout.{BadTimeout}
use Rattle.json_values.specs.Json.{json_of}
use Rattle.error_document.specs.Documents.{plain_error}
use Rattle.error_document.specs.declared.code.Code.{Code}
use Rattle.error_document.specs.declared.code.Code.TheVariants.{InvalidArgument, Unimplemented}
use Rattle.connect_codec.specs.Headers.{is_one, is_absent_or_one, is_json_type, is_identity, is_version_1, request_id_of}
use Rattle.connect_codec.specs.Reply.{is_bare_status}
use Rattle.connect_codec.specs.declared.verdict.Verdict.{Verdict}
use Rattle.connect_codec.specs.declared.verdict.Verdict.TheVariants.{Ask, Bare, Fail}

-- the values that the request has under a name
abbrev pub said : List ℕ → HttpRequest → List (List ℕ)
said name q = values_of name q.fields

-- the timeout that the request asks for
abbrev pub asked_timeout : HttpRequest → Result (Option ℕ) BadTimeout
asked_timeout q = timeout_of (said (codes "Connect-Timeout-Ms") q)

abbrev pub failure : Code → List ℕ → Verdict
failure code message = Fail (plain_error code message)

-- Why a request is no call, and what it is then: each rule that applies, with its verdict, in the order in which they count. First
-- those of HTTP, whose replies are bare; `known` says whether the request's path names a plan.
abbrev pub bare_refusals : HttpRequest → Bool → List (Bool × Verdict)
bare_refusals q known =
    (not (bytes_eq q.method (codes "POST")), Bare 405) ∷
    (not known, Bare 404) ∷
    (not (is_one is_json_type (said (codes "Content-Type") q)), Bare 415) ∷ []

-- then those of the protocol, whose replies are errors
abbrev pub protocol_refusals : HttpRequest → List (Bool × Verdict)
protocol_refusals q =
    (not (is_absent_or_one is_identity (said (codes "Content-Encoding") q)), failure Unimplemented (codes "content encoding not supported")) ∷
    (not (is_absent_or_one is_version_1 (said (codes "Connect-Protocol-Version") q)), failure InvalidArgument (codes "Connect-Protocol-Version must be 1")) ∷
    (is_err (asked_timeout q), failure InvalidArgument (codes "bad Connect-Timeout-Ms")) ∷
    (is_none (json_of q.body), failure InvalidArgument (codes "body is not JSON")) ∷ []

-- the verdict of the first rule that applies
abbrev pub first_that_applies : List (Bool × Verdict) → Verdict → Verdict
first_that_applies [] otherwise = otherwise
first_that_applies (rule ∷ later) otherwise = if rule.0 then rule.1 else first_that_applies later otherwise

-- a request is a call where no rule of the protocol applies
abbrev pub protocol_verdict : HttpRequest → Verdict
protocol_verdict q =
    let call = Ask (result_unwrap_or (asked_timeout q) None) (request_id_of (said (codes "X-Request-Id") q)) in
    first_that_applies (protocol_refusals q) call

unfoldable pub verdict_of : HttpRequest → Bool → Verdict
verdict_of q known = first_that_applies (bare_refusals q known) (protocol_verdict q)

-- a bare verdict has a status that a bare reply may have
abbrev pub HasBareStatus : Verdict → Type 0
HasBareStatus (Ask timeout id) = ⊤
HasBareStatus (Bare status) = IsTrue (is_bare_status status)
HasBareStatus (Fail error) = ⊤
