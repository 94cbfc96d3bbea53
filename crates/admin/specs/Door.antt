-- The addresses at which operators ask, and what a request must say there.
use Rattle.std.specs.Prelude.{ℕ, List, [], ◌∷◌, Bool, true, false, not, ◌&&◌, ◌||◌, ◌==◌, nat_lt, length, codes}
use Rattle.std.specs.Char.{is_ascii_digit}
use Rattle.std.specs.List.{before_first, list_all}
use Rattle.httparse.specs.Grammar.{trim_ows}
use Rattle.http_pieces.specs.Fields.{NamedValue, same_without_case, values_of}
use Rattle.connect_codec.specs.Headers.{is_absent_or_one}
use Rattle.admin.specs.declared.door.Door.{Door}
use Rattle.admin.specs.declared.door.Door.TheVariants.{Operators, Watchers}

-- what stands before the port (RFC 9110, section 7.2)
abbrev pub host_of : List ℕ → List ℕ
host_of address = before_first (λ b. b == 58) address

abbrev pub is_digit_or_point : ℕ → Bool
is_digit_or_point b = is_ascii_digit b || (b == 46)

abbrev pub is_bracketed : List ℕ → Bool
is_bracketed [] = false
is_bracketed (b ∷ rest) = b == 91

-- a number: an IPv6 address in brackets, or digits and points. No name that DNS has is one.
unfoldable pub is_number : List ℕ → Bool
is_number host = is_bracketed host || (nat_lt 0 (length (host_of host)) && list_all is_digit_or_point (host_of host))

-- the host is that of the address that was given, or this machine under no name of DNS
abbrev pub names : List ℕ → List ℕ → Bool
names given host =
    is_number host || same_without_case (host_of host) (codes "localhost") || same_without_case (host_of host) (host_of given)

-- a request with these fields names the door at which it came
abbrev pub is_named : Door → List NamedValue → Bool
is_named (Operators given) fields = is_absent_or_one (names given.now) (values_of (codes "host") fields)
is_named Watchers fields = true

-- the three media types that a form can have (HTML, `enctype`)
unfoldable pub is_form_type : List ℕ → Bool
is_form_type value =
    same_without_case (trim_ows (before_first (λ b. b == 59) value)) (codes "application/x-www-form-urlencoded")
    || same_without_case (trim_ows (before_first (λ b. b == 59) value)) (codes "multipart/form-data")
    || same_without_case (trim_ows (before_first (λ b. b == 59) value)) (codes "text/plain")

abbrev pub is_no_form_type : List ℕ → Bool
is_no_form_type value = not (is_form_type value)

abbrev pub is_absent : List (List ℕ) → Bool
is_absent [] = true
is_absent (value ∷ values) = false

-- a request with these fields is none that a page of another origin, a form or a branch of a gateway sends
abbrev pub may_drain : List NamedValue → Bool
may_drain fields =
    is_absent (values_of (codes "origin") fields) && is_absent (values_of (codes "connect-protocol-version") fields)
    && is_absent_or_one is_no_form_type (values_of (codes "content-type") fields)
