-- A message of HTTP/1.1 (RFC 9112, section 2.1): HTTP-message = start-line CRLF *( field-line CRLF ) CRLF [ message-body ].
use Rattle.std.specs.Prelude.{ℕ, List, [], ◌∷◌, ◌++◌, Bool, if◌then◌else◌, Option, None, Some, codes}
use Rattle.std.specs.List.{flat_map}
use Rattle.http_pieces.specs.Fields.{NamedValue}

abbrev pub crlf : List ℕ
crlf = codes "\r\n"

-- field-line = field-name ":" OWS field-value OWS (RFC 9112, section 5), with one space before the value and CRLF behind it
abbrev pub field_line : NamedValue → List ℕ
field_line field = field.0 ++ codes ": " ++ field.1 ++ crlf

-- the bytes of a message
unfoldable pub message_bytes : List ℕ → List NamedValue → List ℕ → List ℕ
message_bytes start fields body = start ++ crlf ++ flat_map field_line fields ++ crlf ++ body

-- the field, if it is to stand there
abbrev pub field_if : Bool → NamedValue → List NamedValue
field_if present field = if present then field ∷ [] else []

-- the field of that name, if it has a value
abbrev pub field_of : List ℕ → Option (List ℕ) → List NamedValue
field_of name None = []
field_of name (Some value) = (name, value) ∷ []
