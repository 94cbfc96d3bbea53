-- Which fields of a call's request a branch may have passed on to its backend, by their names.
use Rattle.std.specs.Prelude.{ℕ, List, [], ◌∷◌, length, take, codes, Bool, false, not, ◌&&◌, ◌||◌, ◌==◌, nat_le}
use Rattle.std.specs.Char.{is_ascii_alphanumeric}
use Rattle.std.specs.List.{list_all, list_any}
use Rattle.http_pieces.specs.Names.{same_name}

-- tchar (RFC 9110, section 5.6.2)
abbrev pub is_token_byte : ℕ → Bool
is_token_byte c = is_ascii_alphanumeric c || list_any (λ sign. sign == c) (codes "!#$%&'*+-.^_`|~")

-- a token of at most 64 bytes
unfoldable pub is_field_name : List ℕ → Bool
is_field_name name = nat_le 1 (length name) && nat_le (length name) 64 && list_all is_token_byte name

-- Fields that are not passed on: those that the gateway writes or answers for, and those of a connection (RFC 9110, sections 7.6.1 and 7.8;
-- RFC 9112, sections 6 and 7.4; RFC 9113, section 8.2.2), of an expectation (RFC 9110, section 10.1.1), of a part (section 14.2) ..
abbrev pub kept_names : List (List ℕ)
kept_names =
    codes "host" ∷ codes "connection" ∷ codes "keep-alive" ∷ codes "te" ∷ codes "trailer" ∷ codes "transfer-encoding" ∷ codes "upgrade"
    ∷ codes "expect" ∷ codes "range" ∷ codes "x-request-id" ∷ codes "accept-encoding" ∷ codes "http2-settings" ∷ []

-- .. and all of this message's body, of the protocol, of a proxy and of conditions (RFC 9110, sections 8, 11.7 and 13.1)
abbrev pub kept_beginnings : List (List ℕ)
kept_beginnings = codes "content-" ∷ codes "connect-" ∷ codes "proxy-" ∷ codes "if-" ∷ []

-- the name begins so, as names compare
abbrev pub begins_as : List ℕ → List ℕ → Bool
begins_as name beginning = same_name beginning (take (length beginning) name)

unfoldable pub is_kept_back : List ℕ → Bool
is_kept_back name = list_any (same_name name) kept_names || list_any (begins_as name) kept_beginnings

-- a name that a branch may pass on
abbrev pub is_pass_name : List ℕ → Bool
is_pass_name name = is_field_name name && not (is_kept_back name)

-- some two may be one name
abbrev pub has_same_name : List (List ℕ) → Bool
has_same_name [] = false
has_same_name (name ∷ names) = list_any (same_name name) names || has_same_name names

-- At most 16 names, each once.
unfoldable pub may_pass : List (List ℕ) → Bool
may_pass names = nat_le (length names) 16 && list_all is_pass_name names && not (has_same_name names)
