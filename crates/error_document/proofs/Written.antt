-- What is written of an error.
use Rattle.std.proofs.Common.{◌≡◌, ◌≤◌, ℕ, List, [], ◌∷◌, map, false, Some, option_and_then, codes, refl, ap, ◌∙◌, arith}
use Rattle.serde_json.specs.Data.{Members, no_members, member, put, string, array, depth, items_depth}
use Rattle.serde_json.specs.Read.{max_depth}
use Rattle.serde_json.specs.View.{items_of}
use Rattle.serde_json.specs.Written.{has_float, items_have_float}
use Rattle.json_values.specs.Json.{json_of, text_at}
use Rattle.error_document.specs.Codes.{code_name, code_named}
use Rattle.error_document.specs.Documents.{detail_document, details_member, message_member, document_of, details_among, details_in, error_from, read_error}
use Rattle.error_document.specs.declared.detail.Detail.{Detail}
use Rattle.error_document.specs.declared.document.RpcError.{RpcError}
use Rattle.error_document.proofs.Names.{code_named-code_name}
use Rattle.error_document.proofs.Reading.{read_error-of_document}

-- ---- an object is built a member at a time

-- the member of the code, before others
abbrev pub with_code : RpcError → Members → Members
with_code error more = member (codes "code") (string (code_name error.code)) more

-- what stands after the code and the details
abbrev pub detailed : RpcError → Members
detailed error = with_code error (details_member error.details no_members)

-- what stands after the message too
abbrev pub whole : RpcError → Members
whole error = with_code error (details_member error.details (message_member error.message no_members))

pub no_details : (error : RpcError) → error.details ≡ [] → with_code error no_members ≡ detailed error
no_details error none = rw none refl

pub some_details : (error : RpcError) → (error.details ≡ [] → ⊥)
    → put (codes "details") (array (items_of (map detail_document error.details))) (with_code error no_members) ≡ detailed error
some_details error = by error.details
  where
    by : (details : List Detail) → (details ≡ [] → ⊥)
        → put (codes "details") (array (items_of (map detail_document details))) (with_code error no_members) ≡ with_code error (details_member details no_members)
    by [] some = absurd (some refl)
    by (detail ∷ details) some = refl

pub no_message : (error : RpcError) → error.message ≡ [] → detailed error ≡ whole error
no_message error none = rw none refl

pub some_message : (error : RpcError) → (error.message ≡ [] → ⊥) → put (codes "message") (string error.message) (detailed error) ≡ whole error
some_message error = by error.details error.message
  where
    by : (details : List Detail) (message : List ℕ) → (message ≡ [] → ⊥)
        → put (codes "message") (string message) (with_code error (details_member details no_members)) ≡ with_code error (details_member details (message_member message no_members))
    by details [] some = absurd (some refl)
    by [] (b ∷ bytes) some = refl
    by (detail ∷ details) (b ∷ bytes) some = refl

-- ---- it has no floats, and does not nest deep

no_floats : (details : List Detail) → items_have_float (items_of (map detail_document details)) ≡ false
no_floats [] = refl
no_floats (detail ∷ details) = no_floats details

pub has_float-document_of : (error : RpcError) → has_float (document_of error) ≡ false
has_float-document_of error = by error.details error.message
  where
    by : (details : List Detail) (message : List ℕ) → has_float (document_of record { code = error.code; message = message; details = details }) ≡ false
    by [] [] = refl
    by [] (b ∷ bytes) = refl
    by (detail ∷ details) [] = rw (no_floats details) refl
    by (detail ∷ details) (b ∷ bytes) = rw (no_floats details) refl

shallow : (details : List Detail) → items_depth (items_of (map detail_document details)) ≤ 1
shallow [] = omega arith
shallow (detail ∷ details) = omega (arith, shallow details)

pub depth-document_of : (error : RpcError) → depth (document_of error) ≤ max_depth
depth-document_of error = by error.details error.message
  where
    by : (details : List Detail) (message : List ℕ) → depth (document_of record { code = error.code; message = message; details = details }) ≤ max_depth
    by [] [] = omega arith
    by [] (b ∷ bytes) = omega arith
    by (detail ∷ details) [] = omega (arith, shallow details)
    by (detail ∷ details) (b ∷ bytes) = omega (arith, shallow details)

-- ---- it reads back

details_back : (details : List Detail) → details_among (items_of (map detail_document details)) ≡ details
details_back [] = refl
details_back (detail ∷ details) = ap (λ more. detail ∷ more) (details_back details)

document_back : (status : ℕ) (error : RpcError)
    → error_from status (Some error.code) (text_at (codes "message") (document_of error)) (details_in (document_of error)) ≡ error
document_back status error = by error.details error.message
  where
    by : (details : List Detail) (message : List ℕ)
        → let written : RpcError = record { code = error.code; message = message; details = details } in
        error_from status (Some error.code) (text_at (codes "message") (document_of written)) (details_in (document_of written)) ≡ written
    by [] [] = refl
    by [] (b ∷ bytes) = refl
    by (detail ∷ details) [] = ap (λ found. record { code = error.code; message = []; details = detail ∷ found }) (details_back details)
    by (detail ∷ details) (b ∷ bytes) = ap (λ found. record { code = error.code; message = b ∷ bytes; details = detail ∷ found }) (details_back details)

-- a text that is the document of an error reads back as that error
pub read_error-document_of : (status : ℕ) (bytes : List ℕ) (error : RpcError) → Some (document_of error) ≡ json_of bytes → read_error status bytes ≡ error
read_error-document_of status bytes error e =
    let named : option_and_then code_named (text_at (codes "code") (document_of error)) ≡ Some error.code = code_named-code_name error.code in
    read_error-of_document status bytes (document_of error) e ∙ rw named (document_back status error)
