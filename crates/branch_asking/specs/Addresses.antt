-- The addresses of a job.
use Rattle.std.specs.Prelude.{◌≡◌, ℕ, Bool, true, false, if◌then◌else◌, List, [], ◌++◌, Option, Some, option_to_list}
use Rattle.std.specs.Net.Grammar.{IsSocketText}
use Rattle.std.specs.declared.net.socket_addr.SocketAddr.{SocketAddr}
use Rattle.loop_model.specs.Asking.{AreAddressesOf}

-- those that are to be tried, this one first, if there is one; whether they are known; and all that were found for its name
pub record AddressesValue : Type 0 where
  pub first : Option SocketAddr
  pub others : List SocketAddr
  pub known : Bool
  pub found : List SocketAddr

abbrev pub addresses_value : Option SocketAddr → List SocketAddr → Bool → List SocketAddr → AddressesValue
addresses_value first others known found = record { first = first; others = others; known = known; found = found }

-- the text spells this one; or more were found for it: that counts where none were known
abbrev pub once_spelt : SocketAddr → AddressesValue → AddressesValue
once_spelt address x = if x.known then x else addresses_value (Some address) x.others true x.found

abbrev pub once_found : List SocketAddr → AddressesValue → AddressesValue
once_found more x = if x.known then x else addresses_value x.first more true more

-- the text was that of an address; or it was that of none
abbrev pub HasParsed : List ℕ → Bool → AddressesValue → AddressesValue → Type 0
HasParsed text true x y = (address : SocketAddr) × IsSocketText text address × (y ≡ once_spelt address x)
HasParsed text false x y = ((address : SocketAddr) → IsSocketText text address → ⊥) × (y ≡ x)

-- those that are to be tried
abbrev pub next_of : AddressesValue → List SocketAddr
next_of x = option_to_list x.first ++ x.others

-- those that were tried, and then those that are to be tried, are the addresses of the text; while they are not known, there are none
pub record AreOf (text : List ℕ) (tried : List SocketAddr) (x : AddressesValue) : Type 0 where
  pub in_order : AreAddressesOf text x.found (tried ++ next_of x)
  pub none : x.known ≡ false → tried ++ next_of x ≡ []
