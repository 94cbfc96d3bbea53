-- The request to a branch: a unary call (Connect protocol, "Unary-Request"), byte for byte.
use Rattle.std.specs.Prelude.{ℕ, List, [], ◌∷◌, ◌++◌, length, decimal, Bool, not, Option, option_map, codes}
use Rattle.http_pieces.specs.Fields.{NamedValue}
use Rattle.timeout_header.specs.Timeout.{timeout_text}
use Rattle.connect_codec.specs.Message.{message_bytes, field_if, field_of}

-- What a branch is asked: where, on which path, in how many milliseconds at most, in whose name, with which fields of the call's request, and
-- what. And whether its connection is kept once the reply is there.
pub record BranchCall : Type 0 where
  pub address : List ℕ
  pub path : List ℕ
  pub remaining : Option ℕ
  pub request_id : Option (List ℕ)
  pub passed : List NamedValue
  pub body : List ℕ
  pub keeps : Bool

-- request-line = method SP request-target SP HTTP-version (RFC 9112, section 3)
abbrev pub request_line : List ℕ → List ℕ
request_line path = codes "POST " ++ path ++ codes " HTTP/1.1"

-- the fields that each branch request begins with
abbrev pub first_fields : BranchCall → List NamedValue
first_fields call =
    (codes "Host", call.address) ∷
    (codes "Content-Type", codes "application/json") ∷
    (codes "Content-Length", decimal (length call.body)) ∷
    (codes "Connect-Protocol-Version", codes "1") ∷ []
    ++ field_of (codes "Connect-Timeout-Ms") (option_map timeout_text call.remaining)
    ++ field_of (codes "X-Request-Id") call.request_id

-- Then those that are passed on. Where the connection is not kept, no request follows this one, so it asks for the close (RFC 9112, section
-- 9.6).
abbrev pub branch_fields : BranchCall → List NamedValue
branch_fields call = first_fields call ++ call.passed ++ field_if (not call.keeps) (codes "Connection", codes "close")

-- the bytes of the request
unfoldable pub branch_request : BranchCall → List ℕ
branch_request call = message_bytes (request_line call.path) (branch_fields call) call.body
