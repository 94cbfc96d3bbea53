-- Bytes that are no value.
use Rattle.std.proofs.Common.{◌≡◌, ℕ, List, Bool, true, false, None, cond, refl, sym}
use Rattle.std.proofs.lemmas.Str.{IsUtf8-from_is_utf8}
use Rattle.std.specs.Str.{IsUtf8, is_utf8}
use Rattle.serde_json.specs.Read.{read}
use Rattle.json_values.specs.Json.{json_of}

pub json_of-not_read : (bytes : List ℕ) → (IsUtf8 bytes → read bytes ≡ None) → None ≡ json_of bytes
unfolding json_of
json_of-not_read bytes refused = at_test (is_utf8 bytes) refl
  where
    at_test : (b : Bool) → is_utf8 bytes ≡ b → None ≡ cond b (read bytes) None
    at_test true text = sym (refused (IsUtf8-from_is_utf8 bytes text))
    at_test false text = refl
