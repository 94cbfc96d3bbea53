-- Error documents, as they are written and as they are read (Connect protocol reference, "Unary-Response": the JSON of an error, with
-- `code`, `message` and `details`).
use Rattle.std.specs.Prelude.{ℕ, List, [], ◌∷◌, ◌++◌, map, if◌then◌else◌, Option, Some, None, option_map, option_and_then, unwrap_or, codes}
use Rattle.std.specs.Option.{option_map_or, option_to_list}
use Rattle.std.specs.Str.{is_utf8}
use Rattle.http.specs.StatusCode.{code_digits}
use Rattle.serde_json.specs.Data.{Data, string, array, object, Items, no_items, item, Members, no_members, member}
use Rattle.serde_json.specs.Read.{read}
use Rattle.serde_json.specs.Find.{get, as_str, as_array}
use Rattle.serde_json.specs.View.{items_of}
use Rattle.serde_json.specs.Written.{compact_text}
use Rattle.json_values.specs.Json.{json_of, text_at}
use Rattle.error_document.specs.Codes.{code_name, code_named, inferred_code}
use Rattle.error_document.specs.declared.code.Code.{Code}
use Rattle.error_document.specs.declared.detail.Detail.{Detail}
use Rattle.error_document.specs.declared.document.RpcError.{RpcError}

-- an error with no details, as all of the gateway's own are
abbrev pub plain_error : Code → List ℕ → RpcError
plain_error code message = record { code = code; message = message; details = [] }

-- ---- written

-- The document of a detail: the name of its type, and its value as it came, which is base64 (Connect protocol, "Error Details").
abbrev pub detail_document : Detail → Data
detail_document detail =
    object (member (codes "type") (string detail.type_name) (member (codes "value") (string detail.value) no_members))

-- the member `details`; no details are left out
abbrev pub details_member : List Detail → Members → Members
details_member [] more = more
details_member (detail ∷ details) more = member (codes "details") (array (items_of (map detail_document (detail ∷ details)))) more

-- the member `message`; an empty message is left out
abbrev pub message_member : List ℕ → Members → Members
message_member [] more = more
message_member (b ∷ bytes) more = member (codes "message") (string (b ∷ bytes)) more

-- The document of an error. The keys are in byte order.
abbrev pub document_of : RpcError → Data
document_of error =
    object (member (codes "code") (string (code_name error.code)) (details_member error.details (message_member error.message no_members)))

-- An error's text: its document as compact JSON, with the escapes of `serde_json`.
unfoldable pub error_text : RpcError → List ℕ
error_text error = compact_text (document_of error)

-- ---- read

-- The detail that an entry is: an object with texts under `type` and `value`, whatever else it has, as `debug`.
abbrev pub detail_of : Data → Option Detail
detail_of entry =
    option_and_then (λ type_name. option_map (λ value. record { type_name = type_name; value = value }) (text_at (codes "value") entry))
    (text_at (codes "type") entry)

-- the details among the entries of an array, in order
abbrev pub details_among : Items → List Detail
details_among no_items = []
details_among (item entry entries) = option_to_list (detail_of entry) ++ details_among entries

-- the entries of a document's array `details`: none where that is no array
abbrev pub detail_entries : Data → Items
detail_entries document = unwrap_or (option_and_then as_array (get (codes "details") document)) no_items

-- the details that a document has
abbrev pub details_in : Data → List Detail
details_in document = details_among (detail_entries document)

-- The message that stands for a status, in three digits: `HTTP status NNN`.
abbrev pub status_message : ℕ → List ℕ
status_message status = codes "HTTP status " ++ code_digits status

-- The error of the code, the message and the details that a body names. With a code the message is the body's, or empty. Without
-- one the code is inferred from the status, the message is the body's, or `HTTP status NNN`, and there are no details.
abbrev pub error_from : ℕ → Option Code → Option (List ℕ) → List Detail → RpcError
error_from status (Some code) message details = record { code = code; message = unwrap_or message []; details = details }
error_from status None message details = plain_error (inferred_code status) (unwrap_or message (status_message status))

-- The error of a reply with this status and body, whatever the content type. A body that is no object names nothing.
unfoldable pub read_error : ℕ → List ℕ → RpcError
read_error status body =
    let document = json_of body in
    let code = option_and_then code_named (option_and_then (text_at (codes "code")) document) in
    error_from status code (option_and_then (text_at (codes "message")) document) (option_map_or details_in document [])
