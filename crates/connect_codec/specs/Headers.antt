-- What a unary request says in its fields (Connect protocol, "Unary-Request"), and what a reply says in its content type.
use Rattle.std.specs.Prelude.{ℕ, List, [], ◌∷◌, Bool, true, false, ◌&&◌, ◌==◌, nat_le, if◌then◌else◌, length, Option, None, Some, codes}
use Rattle.std.specs.List.{before_first, list_all}
use Rattle.std.specs.Str.{bytes_eq}
use Rattle.httparse.specs.Grammar.{trim_ows}
use Rattle.http_pieces.specs.Fields.{same_without_case}

-- a field that must stand once, with a value that passes the test
abbrev pub is_one : (List ℕ → Bool) → List (List ℕ) → Bool
is_one test [] = false
is_one test (value ∷ []) = test value
is_one test (value ∷ other ∷ more) = false

-- a field that may be absent, and else stands once, with a value that passes the test
abbrev pub is_absent_or_one : (List ℕ → Bool) → List (List ℕ) → Bool
is_absent_or_one test [] = true
is_absent_or_one test (value ∷ []) = test value
is_absent_or_one test (value ∷ other ∷ more) = false

-- the media type is `application/json`, whatever its parameters and its case (RFC 9110, section 8.3.1)
unfoldable pub is_json_type : List ℕ → Bool
is_json_type value = same_without_case (trim_ows (before_first (λ b. b == 59) value)) (codes "application/json")

-- the content is not encoded (Connect protocol: `Content-Encoding` is `identity` or absent; this project takes no other)
abbrev pub is_identity : List ℕ → Bool
is_identity value = same_without_case value (codes "identity")

-- the one version of the protocol
abbrev pub is_version_1 : List ℕ → Bool
is_version_1 value = bytes_eq value (codes "1")

-- a byte that can be seen: `!` to `~`
abbrev pub is_visible : ℕ → Bool
is_visible b = nat_le 33 b && nat_le b 126

-- 1 to 128 bytes that can be seen (this project's choice)
unfoldable pub is_request_id : List ℕ → Bool
is_request_id value = nat_le 1 (length value) && nat_le (length value) 128 && list_all is_visible value

-- a request's id, by the values of `X-Request-Id`; what is no id is ignored
abbrev pub request_id_of : List (List ℕ) → Option (List ℕ)
request_id_of [] = None
request_id_of (value ∷ []) = if is_request_id value then Some value else None
request_id_of (value ∷ other ∷ more) = None
