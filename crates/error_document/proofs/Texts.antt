-- The text of an error, piece by piece. No code's name has a byte that is escaped.
use Rattle.std.proofs.Common.{◌≡◌, ◌≢◌, ℕ, List, [], ◌∷◌, ◌++◌, map, codes, refl, ◌∙◌, append_assoc}
use Rattle.serde_json.specs.Data.{string, array}
use Rattle.serde_json.specs.View.{items_of}
use Rattle.serde_json.specs.Written.{compact_text}
use Rattle.serde_json.proofs.OnLiterals.{serde_json_on_literals}
use Rattle.error_document.specs.Codes.{code_name}
use Rattle.error_document.specs.Documents.{plain_error, detail_document, error_text}
use Rattle.error_document.specs.declared.code.Code.{Code}
use Rattle.error_document.specs.declared.code.Code.TheVariants.{Canceled, Unknown, InvalidArgument, DeadlineExceeded, NotFound, AlreadyExists, PermissionDenied, ResourceExhausted, FailedPrecondition, Aborted, OutOfRange, Unimplemented, Internal, Unavailable, DataLoss, Unauthenticated}
use Rattle.error_document.specs.declared.detail.Detail.{Detail}

pub text_without_message : (code : Code) → error_text (plain_error code []) ≡ codes "{\"code\":\"" ++ code_name code ++ codes "\"}"
unfolding serde_json_on_literals error_text
text_without_message Canceled = refl
text_without_message Unknown = refl
text_without_message InvalidArgument = refl
text_without_message DeadlineExceeded = refl
text_without_message NotFound = refl
text_without_message AlreadyExists = refl
text_without_message PermissionDenied = refl
text_without_message ResourceExhausted = refl
text_without_message FailedPrecondition = refl
text_without_message Aborted = refl
text_without_message OutOfRange = refl
text_without_message Unimplemented = refl
text_without_message Internal = refl
text_without_message Unavailable = refl
text_without_message DataLoss = refl
text_without_message Unauthenticated = refl

with_some : (code : Code) (b : ℕ) (bytes : List ℕ)
    → error_text (plain_error code (b ∷ bytes)) ≡ codes "{\"code\":\"" ++ code_name code ++ codes "\",\"message\":" ++ compact_text (string (b ∷ bytes)) ++ codes "}"
unfolding serde_json_on_literals error_text
with_some Canceled b bytes = refl
with_some Unknown b bytes = refl
with_some InvalidArgument b bytes = refl
with_some DeadlineExceeded b bytes = refl
with_some NotFound b bytes = refl
with_some AlreadyExists b bytes = refl
with_some PermissionDenied b bytes = refl
with_some ResourceExhausted b bytes = refl
with_some FailedPrecondition b bytes = refl
with_some Aborted b bytes = refl
with_some OutOfRange b bytes = refl
with_some Unimplemented b bytes = refl
with_some Internal b bytes = refl
with_some Unavailable b bytes = refl
with_some DataLoss b bytes = refl
with_some Unauthenticated b bytes = refl

pub text_with_message : (code : Code) (message : List ℕ) → message ≢ []
    → error_text (plain_error code message) ≡ codes "{\"code\":\"" ++ code_name code ++ codes "\",\"message\":" ++ compact_text (string message) ++ codes "}"
text_with_message code [] some = absurd (some refl)
text_with_message code (b ∷ bytes) some = with_some code b bytes

-- ---- details

grouped : (a b c d e : List ℕ) → a ++ (b ++ (c ++ (d ++ e))) ≡ a ++ b ++ c ++ d ++ e
grouped a b c d e = simp append_assoc refl

pub text_of_detail : (detail : Detail)
    → compact_text (detail_document detail)
    ≡ codes "{\"type\":" ++ compact_text (string detail.type_name) ++ codes ",\"value\":" ++ compact_text (string detail.value) ++ codes "}"
unfolding serde_json_on_literals
text_of_detail detail = grouped (codes "{\"type\":") (compact_text (string detail.type_name)) (codes ",\"value\":") (compact_text (string detail.value)) (codes "}")

with_both : (code : Code) (b : ℕ) (bytes : List ℕ) (detail : Detail) (details : List Detail)
    → error_text record { code = code; message = b ∷ bytes; details = detail ∷ details }
    ≡ (codes "{\"code\":\"" ++ code_name code ++ codes "\",\"details\":")
    ++ (compact_text (array (items_of (map detail_document (detail ∷ details)))) ++ (codes ",\"message\":" ++ (compact_text (string (b ∷ bytes)) ++ codes "}")))
unfolding serde_json_on_literals error_text
with_both Canceled b bytes detail details = refl
with_both Unknown b bytes detail details = refl
with_both InvalidArgument b bytes detail details = refl
with_both DeadlineExceeded b bytes detail details = refl
with_both NotFound b bytes detail details = refl
with_both AlreadyExists b bytes detail details = refl
with_both PermissionDenied b bytes detail details = refl
with_both ResourceExhausted b bytes detail details = refl
with_both FailedPrecondition b bytes detail details = refl
with_both Aborted b bytes detail details = refl
with_both OutOfRange b bytes detail details = refl
with_both Unimplemented b bytes detail details = refl
with_both Internal b bytes detail details = refl
with_both Unavailable b bytes detail details = refl
with_both DataLoss b bytes detail details = refl
with_both Unauthenticated b bytes detail details = refl

pub text_with_details : (code : Code) (message : List ℕ) (details : List Detail) → message ≢ [] → details ≢ []
    → error_text record { code = code; message = message; details = details }
    ≡ codes "{\"code\":\"" ++ code_name code ++ codes "\",\"details\":" ++ compact_text (array (items_of (map detail_document details)))
    ++ codes ",\"message\":" ++ compact_text (string message) ++ codes "}"
text_with_details code [] details some few = absurd (some refl)
text_with_details code (b ∷ bytes) [] some few = absurd (few refl)
text_with_details code (b ∷ bytes) (detail ∷ details) some few =
    with_both code b bytes detail details
    ∙ grouped (codes "{\"code\":\"" ++ code_name code ++ codes "\",\"details\":") (compact_text (array (items_of (map detail_document (detail ∷ details)))))
    (codes ",\"message\":") (compact_text (string (b ∷ bytes))) (codes "}")
