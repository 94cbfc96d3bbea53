-- What the rules of the protocol say of a request, one after another.
use Rattle.std.proofs.Common.{◌≡◌, ℕ, Bool, true, false, Option, Ok, Err, codes, refl}
use Rattle.std.specs.Prelude.{is_some}
use Rattle.http_pieces.specs.Request.{HttpRequest}
use Rattle.timeout_header.specs.declared.error.BadTimeout.{BadTimeout}
use Rattle.json_values.specs.Json.{json_of}
use Rattle.error_document.specs.declared.code.Code.TheVariants.{InvalidArgument, Unimplemented}
use Rattle.connect_codec.specs.Headers.{is_absent_or_one, is_identity, is_version_1, request_id_of}
use Rattle.connect_codec.specs.Verdict.{said, asked_timeout, failure, protocol_verdict}
use Rattle.connect_codec.specs.declared.verdict.Verdict.TheVariants.{Ask}

abbrev is_plain : HttpRequest → Bool
is_plain q = is_absent_or_one is_identity (said (codes "Content-Encoding") q)

abbrev is_known_version : HttpRequest → Bool
is_known_version q = is_absent_or_one is_version_1 (said (codes "Connect-Protocol-Version") q)

pub not_plain : (q : HttpRequest) → is_plain q ≡ false → protocol_verdict q ≡ failure Unimplemented (codes "content encoding not supported")
not_plain q e = rw e refl

pub other_version : (q : HttpRequest) → is_plain q ≡ true → is_known_version q ≡ false
    → protocol_verdict q ≡ failure InvalidArgument (codes "Connect-Protocol-Version must be 1")
other_version q plain e = rw (plain, e) refl

pub bad_timeout : (q : HttpRequest) (bad : BadTimeout) → is_plain q ≡ true → is_known_version q ≡ true → asked_timeout q ≡ Err bad
    → protocol_verdict q ≡ failure InvalidArgument (codes "bad Connect-Timeout-Ms")
bad_timeout q bad plain version e = rw (plain, version, e) refl

pub bad_body : (q : HttpRequest) (timeout : Option ℕ) → is_plain q ≡ true → is_known_version q ≡ true → asked_timeout q ≡ Ok timeout → is_some (json_of q.body) ≡ false
    → protocol_verdict q ≡ failure InvalidArgument (codes "body is not JSON")
bad_body q timeout plain version asked e = rw (plain, version, asked, e) refl

pub call : (q : HttpRequest) (timeout : Option ℕ) → is_plain q ≡ true → is_known_version q ≡ true → asked_timeout q ≡ Ok timeout → is_some (json_of q.body) ≡ true
    → protocol_verdict q ≡ Ask timeout (request_id_of (said (codes "X-Request-Id") q))
call q timeout plain version asked e = rw (plain, version, asked, e) refl
