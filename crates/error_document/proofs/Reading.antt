-- What is read of a reply.
use Rattle.std.proofs.Common.{◌≡◌, ℕ, List, [], None, Some, option_and_then, codes, refl}
use Rattle.std.proofs.lemmas.Str.{is_utf8-from_IsUtf8}
use Rattle.std.specs.Str.{IsUtf8}
use Rattle.serde_json.specs.Data.{Data}
use Rattle.serde_json.specs.Read.{read}
use Rattle.json_values.specs.Json.{json_of, text_at}
use Rattle.error_document.specs.Codes.{code_named}
use Rattle.error_document.specs.Documents.{details_in, error_from, read_error}

-- the error of a body that is this document
pub read_error-of_document : (status : ℕ) (body : List ℕ) (document : Data) → Some document ≡ json_of body
    → read_error status body
    ≡ error_from status (option_and_then code_named (text_at (codes "code") document)) (text_at (codes "message") document) (details_in document)
unfolding read_error
read_error-of_document status body document e = rw (← e) refl

-- the error of a body that is no JSON
pub read_error-of_none : (status : ℕ) (body : List ℕ) → None ≡ json_of body → read_error status body ≡ error_from status None None []
unfolding read_error
read_error-of_none status body e = rw (← e) refl

-- ---- the value in a body

pub json_of-read : (body : List ℕ) (value : Data) → IsUtf8 body → read body ≡ Some value → Some value ≡ json_of body
unfolding json_of
json_of-read body value text e = rw (is_utf8-from_IsUtf8 body text, e)
