-- The fields of a call's request that a branch's backend is sent too.
use Rattle.std.specs.Prelude.{List, ℕ, if◌then◌else◌, find, filter_map, Option, None, option_map}
use Rattle.http_pieces.specs.Fields.{NamedValue, lists_option}
use Rattle.http_pieces.specs.Names.{same_name}
use Rattle.connect_codec.specs.declared.passed.Passed.{Passed}

-- the name that the branch has for the field of that name: none if it passes on no such field, or if the request's `Connection` names the field
-- (RFC 9110, section 7.6.1)
abbrev pub name_for : List (List ℕ) → List NamedValue → List ℕ → Option (List ℕ)
name_for names fields name = if lists_option name fields then None else find (λ own. same_name own name) names

-- the field as it is passed on: with the name that the branch has for it, and its own value, byte for byte
abbrev pub field_passed : List (List ℕ) → List NamedValue → NamedValue → Option NamedValue
field_passed names fields f = option_map (λ name. (name, f.1)) (name_for names fields f.0)

-- the fields that are passed on, in the order of the request
abbrev pub passed : List (List ℕ) → List NamedValue → List NamedValue
passed names fields = filter_map (field_passed names fields) fields

-- the fields behind the borrows
abbrev pub fields_passed : Passed → List NamedValue
fields_passed p = passed p.names.now p.request.now.fields
