-- The error codes, and the HTTP statuses that stand for them (Connect protocol reference, "Error Codes" and "HTTP to Error Code").
use Rattle.std.specs.Prelude.{ℕ, List, [], ◌∷◌, ◌==◌, ◌||◌, if◌then◌else◌, Option, codes}
use Rattle.std.specs.Str.{bytes_eq}
use Rattle.std.specs.List.{find}
use Rattle.error_document.specs.declared.code.Code.{Code}
use Rattle.error_document.specs.declared.code.Code.TheVariants.{Canceled, Unknown, InvalidArgument, DeadlineExceeded, NotFound, AlreadyExists, PermissionDenied, ResourceExhausted, FailedPrecondition, Aborted, OutOfRange, Unimplemented, Internal, Unavailable, DataLoss, Unauthenticated}

-- The table of the codes: the name in an error document, and the HTTP status of the reply.
abbrev pub row : Code → List ℕ × ℕ
row Canceled = (codes "canceled", 499)
row Unknown = (codes "unknown", 500)
row InvalidArgument = (codes "invalid_argument", 400)
row DeadlineExceeded = (codes "deadline_exceeded", 504)
row NotFound = (codes "not_found", 404)
row AlreadyExists = (codes "already_exists", 409)
row PermissionDenied = (codes "permission_denied", 403)
row ResourceExhausted = (codes "resource_exhausted", 429)
row FailedPrecondition = (codes "failed_precondition", 400)
row Aborted = (codes "aborted", 409)
row OutOfRange = (codes "out_of_range", 400)
row Unimplemented = (codes "unimplemented", 501)
row Internal = (codes "internal", 500)
row Unavailable = (codes "unavailable", 503)
row DataLoss = (codes "data_loss", 500)
row Unauthenticated = (codes "unauthenticated", 401)

-- The code's name.
abbrev pub code_name : Code → List ℕ
code_name code = (row code).0

-- The code's status.
abbrev pub code_status : Code → ℕ
code_status code = (row code).1

-- The codes, in the order of the table.
abbrev pub all_codes : List Code
all_codes =
    Canceled ∷ Unknown ∷ InvalidArgument ∷ DeadlineExceeded ∷ NotFound ∷ AlreadyExists ∷ PermissionDenied ∷ ResourceExhausted ∷
    FailedPrecondition ∷ Aborted ∷ OutOfRange ∷ Unimplemented ∷ Internal ∷ Unavailable ∷ DataLoss ∷ Unauthenticated ∷ []

-- The code whose name these bytes are, byte for byte, if there is one.
unfoldable pub code_named : List ℕ → Option Code
code_named name = find (λ code. bytes_eq (code_name code) name) all_codes

-- The code that the status of a reply other than 200 stands for, where its body names none.
abbrev pub inferred_code : ℕ → Code
inferred_code status =
    if status == 400 then Internal else (
    if status == 401 then Unauthenticated else (
    if status == 403 then PermissionDenied else (
    if status == 404 then Unimplemented else (
    if (status == 429) || (status == 502) || (status == 503) || (status == 504) then Unavailable else
    Unknown))))
