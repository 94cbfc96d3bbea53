-- What is left of a list of tokens behind a value that `serde_json` reads.
use Rattle.std.specs.Prelude.{ℕ, List, length, Option, option_and_then, option_map}
use Rattle.json.specs.Token.{Token}
use Rattle.json.specs.Json.{value, items, members}
use Rattle.serde_json.specs.Data.{no_members}
use Rattle.serde_json.specs.Read.{of_json, of_items, of_members}

-- The tokens behind what was found, if there is data of it.
abbrev pub behind : {A B : Type 0} → (A → Option B) → Option (A × List Token) → Option (List Token)
behind data_of found = option_and_then (λ p. option_map (λ _. p.1) (data_of p.0)) found

-- The tokens behind the value at the front: none where no value stands there, or a number of it is out of range.
abbrev pub after_value : ℕ → List Token → Option (List Token)
after_value depth tokens = behind of_json (value depth tokens)

-- The tokens behind the items of an array, and its bracket.
abbrev pub after_items : ℕ → List Token → Option (List Token)
after_items depth tokens = behind of_items (items (value depth) (length tokens) tokens)

-- The tokens behind the members of an object, and its brace.
abbrev pub after_members : ℕ → List Token → Option (List Token)
after_members depth tokens = behind (λ found. of_members found no_members) (members (value depth) (length tokens) tokens)
