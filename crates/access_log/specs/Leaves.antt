-- Members of an object as they are listed: each a key, and a text, a number, true or null.
use Rattle.std.specs.Prelude.{ℕ, true, List, [], ◌∷◌}
use Rattle.std.specs.Borrow.{Bor}
use Rattle.serde_json.specs.Data.{Data, Members, boolean, no_members, member, null, number, string, unsigned}
use Rattle.access_log.specs.declared.members.Leaf.{Leaf}
use Rattle.access_log.specs.declared.members.Leaf.TheVariants.{Text, Number, True, Null}

abbrev pub leaf_data : Leaf → Data
leaf_data (Text t) = string t.now
leaf_data (Number n) = number (unsigned n)
leaf_data True = boolean true
leaf_data Null = null

abbrev pub members_of : List (Bor (List ℕ) × Leaf) → Members
members_of [] = no_members
members_of (m ∷ ms) = member m.0.now (leaf_data m.1) (members_of ms)
