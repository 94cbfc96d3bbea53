-- Hosts that an address can't mean (RFC 1123, section 2.1; RFC 3986, section 3.2.2).
use Rattle.std.specs.Prelude.{ℕ, zero, suc, ◌+◌, ◌*◌, ◌-◌, nat_le, List, [], ◌∷◌, length, slice_index}
use Rattle.std.specs.Prelude.{Bool, true, false, not, ◌&&◌, ◌||◌, ◌==◌, if◌then◌else◌}
use Rattle.std.specs.Prelude.{Option, Some, None, option_map, option_and_then, is_some}
use Rattle.std.specs.Char.{is_ascii_digit}
use Rattle.std.specs.List.{list_all, list_any}
use Rattle.std.specs.Option.{option_or}
use Rattle.input_check.specs.declared.host.HostFault.{HostFault}
use Rattle.input_check.specs.declared.host.HostFault.TheVariants.{Absent, Placeholder, Wildcard}
use Rattle.input_check.specs.declared.host.HostFault.TheVariants.{Unbracketed, EmptyLabel, NoIpv4}

-- the bytes `:`, `.`, `*` and `[`
abbrev pub colon : ℕ
colon = 58

abbrev pub dot : ℕ
dot = 46

abbrev pub star : ℕ
star = 42

abbrev pub bracket : ℕ
bracket = 91

-- The host of an address: what stands before its last `:`. None where there is no `:`.
abbrev pub host_of : List ℕ → Option (List ℕ)
host_of [] = None
host_of (c ∷ cs) = option_or (option_map (λ host. c ∷ host) (host_of cs)) (if c == colon then Some [] else None)

-- `$`, `{`, `}`, `<` or `>`: what is written round a name that is to be filled in. No label has one of them.
abbrev pub is_placeholder_byte : ℕ → Bool
is_placeholder_byte c = c == 36 || c == 123 || c == 125 || c == 60 || c == 62

-- `/`, `,` or `@`: what is said of an address with them stands elsewhere
abbrev pub is_told_byte : ℕ → Bool
is_told_byte c = c == 47 || c == 44 || c == 64

-- A `:` in a host that begins with no bracket. No name has one, and an IPv6 address stands in brackets.
abbrev pub is_unbracketed : List ℕ → Bool
is_unbracketed host =
    list_any (λ c. c == colon) host && not (slice_index host 0 == bracket) && not (list_any is_told_byte host)

-- Two dots in a row, or one in front: a label is not empty. One at the end ends a full name. The first word is whether
-- a label begins here.
abbrev pub has_empty_label : Bool → List ℕ → Bool
has_empty_label begins [] = false
has_empty_label begins (c ∷ cs) = (begins && c == dot) || has_empty_label (c == dot) cs

abbrev pub is_digit_or_dot : ℕ → Bool
is_digit_or_dot c = is_ascii_digit c || c == dot

-- The number behind one more digit, if it is at most 255 and no 0 stands in front. None is the number of no digit.
abbrev pub octet_with : Option ℕ → ℕ → Option ℕ
octet_with None c = Some (c - 48)
octet_with (Some zero) c = None
octet_with (Some (suc n)) c = if nat_le (suc n * 10 + (c - 48)) 255 then Some (suc n * 10 + (c - 48)) else None

-- Behind this number the text goes on to an IPv4 address, with so many dots to come. A number is 0 to 255, and has no 0
-- in front of a digit.
abbrev pub goes_on_as_ipv4 : ℕ → Option ℕ → List ℕ → Bool
goes_on_as_ipv4 dots octet [] = dots == 0 && is_some octet
goes_on_as_ipv4 dots octet (c ∷ cs) =
    if c == dot then not (dots == 0) && is_some octet && goes_on_as_ipv4 (dots - 1) None cs
    else is_ascii_digit c && is_some (octet_with octet c) && goes_on_as_ipv4 dots (octet_with octet c) cs

-- digits and dots alone, as an IPv4 address has them and no name, and no IPv4 address
abbrev pub is_no_ipv4 : List ℕ → Bool
is_no_ipv4 host = list_all is_digit_or_dot host && not (goes_on_as_ipv4 3 None host)

-- What is wrong with a host, the first of these.
unfoldable pub fault_of : List ℕ → Option HostFault
fault_of host =
    if length host == 0 then Some Absent
    else if list_any is_placeholder_byte host then Some Placeholder
    else if list_any (λ c. c == star) host then Some Wildcard
    else if is_unbracketed host then Some Unbracketed
    else if has_empty_label true host then Some EmptyLabel
    else if is_no_ipv4 host then Some NoIpv4
    else None

-- Why the host of an address can't be meant, if it can't.
abbrev pub host_fault : List ℕ → Option HostFault
host_fault address = option_and_then fault_of (host_of address)
