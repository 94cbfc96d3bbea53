-- JSON values (RFC 8259), as `serde_json` reads them.
use Rattle.std.specs.Prelude.{List, ℕ, if◌then◌else◌, Option, None, option_and_then}
use Rattle.std.specs.Str.{is_utf8}
use Rattle.serde_json.specs.Data.{Data}
use Rattle.serde_json.specs.Find.{get, as_str}
use Rattle.serde_json.specs.Read.{read}

-- The value that bytes are as JSON: none where they are not UTF-8, or where `serde_json` does not read them, as where they nest
-- deeper than 127.
unfoldable pub json_of : List ℕ → Option Data
json_of bytes = if is_utf8 bytes then read bytes else None

-- The text that an object has under a key: none where the value there is no text, and none in what is no object.
abbrev pub text_at : List ℕ → Data → Option (List ℕ)
text_at key value = option_and_then as_str (get key value)
