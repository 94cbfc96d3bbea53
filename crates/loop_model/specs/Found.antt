-- The addresses that were found for names, and the names that are waited for.
use Rattle.std.specs.Prelude.{◌≡◌, ◌⊎◌, ℕ, List, [], ◌∷◌, ◌++◌, take}
use Rattle.std.specs.List.{Contains}
use Rattle.std.specs.declared.net.socket_addr.SocketAddr.{SocketAddr}

-- a name that was looked up, and the addresses that were found for it, in order; none where there is no such name
pub record FoundValue : Type 0 where
  pub name : List ℕ
  pub addresses : List SocketAddr

abbrev pub found_value : List ℕ → List SocketAddr → FoundValue
found_value name addresses = record { name = name; addresses = addresses }

-- these are the first 32 of those that were found for that name, once
pub record AreFoundFor (name : List ℕ) (addresses : List SocketAddr) (found : List FoundValue) : Type 0 where
  pub one : FoundValue
  pub there : Contains found one
  pub its_name : one.name ≡ name
  pub first : addresses ≡ take 32 one.addresses

-- .. or there are none
abbrev pub AreOfName : List ℕ → List SocketAddr → List FoundValue → Type 0
AreOfName name addresses found = (addresses ≡ []) ⊎ AreFoundFor name addresses found

-- ---- what is waited for

-- what a loop has to do with a name: it had its network look it up; or what was found for it was handed in
pub data LookUp : Type 0 where
  Asked : List ℕ → LookUp
  Found : FoundValue → LookUp

-- of these, in order: the names that were asked for
abbrev pub asked_in : List LookUp → List (List ℕ)
asked_in [] = []
asked_in (Asked name ∷ lookups) = name ∷ asked_in lookups
asked_in (Found one ∷ lookups) = asked_in lookups

-- .. and what was found
abbrev pub found_in : List LookUp → List FoundValue
found_in [] = []
found_in (Asked name ∷ lookups) = found_in lookups
found_in (Found one ∷ lookups) = one ∷ found_in lookups

-- the name was asked for, and nothing was found for it since
pub record IsAwaited (name : List ℕ) (lookups : List LookUp) : Type 0 where
  pub before : List LookUp
  pub since : List LookUp
  pub lookups_are : lookups ≡ before ++ Asked name ∷ since
  pub not_found : (f : FoundValue) → Contains (found_in since) f → f.name ≡ name → ⊥
