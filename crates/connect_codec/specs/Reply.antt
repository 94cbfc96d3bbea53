-- The replies of a unary call (Connect protocol, "Unary-Response") and of what is no call (RFC 9110, section 15.5), byte for byte.
use Rattle.std.specs.Prelude.{ℕ, List, [], ◌∷◌, ◌++◌, length, Bool, ◌==◌, if◌then◌else◌, Option, None, Some, is_some, unwrap_or, decimal, codes}
use Rattle.std.specs.List.{list_any}
use Rattle.http_pieces.specs.Fields.{NamedValue}
use Rattle.error_document.specs.Codes.{code_status}
use Rattle.error_document.specs.Documents.{error_text}
use Rattle.error_document.specs.declared.document.RpcError.{RpcError}
use Rattle.connect_codec.specs.Message.{message_bytes, field_if}

-- the reason phrase of each status that a reply may have (RFC 9110, section 15; 429 and 431: RFC 6585; 499 is this project's)
abbrev pub phrases : List (ℕ × List ℕ)
phrases =
    (200, codes "OK") ∷
    (400, codes "Bad Request") ∷
    (401, codes "Unauthorized") ∷
    (403, codes "Forbidden") ∷
    (404, codes "Not Found") ∷
    (405, codes "Method Not Allowed") ∷
    (409, codes "Conflict") ∷
    (411, codes "Length Required") ∷
    (415, codes "Unsupported Media Type") ∷
    (429, codes "Too Many Requests") ∷
    (431, codes "Request Header Fields Too Large") ∷
    (499, codes "Client Closed Request") ∷
    (500, codes "Internal Server Error") ∷
    (501, codes "Not Implemented") ∷
    (503, codes "Service Unavailable") ∷
    (504, codes "Gateway Timeout") ∷
    []

-- the phrase that stands beside the status; empty for another status
abbrev pub phrase_in : List (ℕ × List ℕ) → ℕ → List ℕ
phrase_in [] status = []
phrase_in (row ∷ rows) status = if status == row.0 then row.1 else phrase_in rows status

unfoldable pub phrase_of : ℕ → List ℕ
phrase_of status = phrase_in phrases status

-- status-line = HTTP-version SP status-code SP [ reason-phrase ] (RFC 9112, section 4)
abbrev pub status_line : ℕ → List ℕ
status_line status = codes "HTTP/1.1 " ++ decimal status ++ codes " " ++ phrase_of status

-- The fields of a reply with that status, and with that document or none. A document is JSON; 405 says which method there is
-- (RFC 9110, section 15.5.6); the last reply of a connection says that it closes (RFC 9112, section 9.6).
abbrev pub reply_fields : ℕ → Option (List ℕ) → Bool → List NamedValue
reply_fields status document last =
    field_if (is_some document) (codes "Content-Type", codes "application/json")
    ++ field_if (status == 405) (codes "Allow", codes "POST")
    ++ (codes "Content-Length", decimal (length (unwrap_or document []))) ∷ []
    ++ field_if last (codes "Connection", codes "close")

-- the bytes of a reply
abbrev pub reply_bytes : ℕ → Option (List ℕ) → Bool → List ℕ
reply_bytes status document last = message_bytes (status_line status) (reply_fields status document last) (unwrap_or document [])

-- the answer of a call that succeeded: 200 and the answer's JSON
unfoldable pub success_reply : List ℕ → Bool → List ℕ
success_reply body last = reply_bytes 200 (Some body) last

-- the answer of what failed: the code's status and the error's document
unfoldable pub error_reply : RpcError → Bool → List ℕ
error_reply error last = reply_bytes (code_status error.code) (Some (error_text error)) last

-- the statuses that a reply with no document may have
abbrev pub is_bare_status : ℕ → Bool
is_bare_status status = list_any (λ s. s == status) (400 ∷ 404 ∷ 405 ∷ 411 ∷ 415 ∷ 431 ∷ [])

-- the answer to what is no call: a status alone
unfoldable pub bare_reply : ℕ → Bool → List ℕ
bare_reply status last = reply_bytes status None last
