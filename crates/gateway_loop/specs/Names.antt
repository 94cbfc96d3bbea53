-- The names that a loop waits for.
use Rattle.std.specs.List.{Contains, list_any}
use Rattle.std.specs.Prelude.{◌≡◌, ◌⊎◌, ℕ, Bool, List, [], ◌∷◌, ◌++◌, map, String, string_bytes}
use Rattle.std.specs.Str.{bytes_eq}
use Rattle.loop_model.specs.Accounts.{NetworkValue}

-- those of a map's entries
abbrev pub names_of : {X Y : Type 0} → List (String Y × X) → List (List ℕ)
names_of entries = map (λ e. string_bytes e.0) entries

-- whether the name is among these
abbrev pub is_among : List ℕ → List (List ℕ) → Bool
is_among name names = list_any (λ n. bytes_eq name n) names

-- the same names
abbrev pub AreSame : List (List ℕ) → List (List ℕ) → Type 0
AreSame v w = (n : List ℕ) → (Contains w n → Contains v n) × (Contains v n → Contains w n)

-- the name, and those that were there
abbrev pub Adds : List ℕ → List (List ℕ) → List (List ℕ) → Type 0
Adds name v w = Contains w name × ((n : List ℕ) → (Contains w n → (n ≡ name) ⊎ Contains v n) × (Contains v n → Contains w n))

-- those that were there, but the name
abbrev pub Leaves : List ℕ → List (List ℕ) → List (List ℕ) → Type 0
Leaves name v w = (n : List ℕ) → (Contains w n → Contains v n × (n ≡ name → ⊥)) × (Contains v n → (n ≡ name → ⊥) → Contains w n)

-- the network was asked for the name, which alone is new; or it did nothing, and none is
pub record IsAskedFor (name : List ℕ) (a b : NetworkValue) (v w : List (List ℕ)) : Type 0 where
  pub net : b ≡ record a { asked = a.asked ++ name ∷ [] }
  pub adds : Adds name v w

abbrev pub AsksFor : List ℕ → NetworkValue → NetworkValue → List (List ℕ) → List (List ℕ) → Type 0
AsksFor name a b v w = ((b ≡ a) × AreSame v w) ⊎ IsAskedFor name a b v w
