use Rattle.std.proofs.Common.{◌≡◌, ℕ, zero, suc, List, [], ◌∷◌, ap, arith, length, sym, ◌∙◌, ⊎_elim}
use Rattle.std.specs.List.{Contains}
use Rattle.std.specs.declared.net.socket_addr.SocketAddr.{SocketAddr}
use Rattle.std.specs.Prelude.{take}
use Rattle.loop_model.specs.Found.{AreFoundFor, FoundValue, found_value}
use Rattle.loop_rows.proofs.rows_of_names.other_addresses_of_a_name.Goals as goal

only_one : (x y : FoundValue) → Contains (x ∷ []) y → x ≡ y
only_one x y (zero, lt, is) = is
only_one x y (suc k, lt, is) = absurd (omega (arith, lt))

nothing : (y : FoundValue) → Contains [] y → ⊥
nothing y (k, lt, is) = omega (arith, lt)

none_is : (a : SocketAddr) (rest : List SocketAddr) → a ∷ rest ≡ [] → ⊥
none_is a rest is = cc

first_is : (a b : SocketAddr) (v w : List SocketAddr) → a ∷ v ≡ b ∷ w → a ≡ b
first_is a b v w is = cc

-- these are all of them
are : (name : List ℕ) (addresses : List SocketAddr) (one : FoundValue) → (f : AreFoundFor name addresses (one ∷ [])) → addresses ≡ take 32 one.addresses
are name addresses one f = f.first ∙ ap (λ (x : FoundValue). take 32 x.addresses) (sym (only_one one f.one f.there))

pub returns-clause-anothers : goal.returns-clause-anothers
returns-clause-anothers c name other a apart named =
    ⊎_elim (λ none. none_is a [] none)
    (λ (f : AreFoundFor name (a ∷ []) (found_value other (a ∷ []) ∷ [])). apart (ap (λ (x : FoundValue). x.name) (only_one (found_value other (a ∷ [])) f.one f.there) ∙ f.its_name)) named

pub returns-clause-reversed : goal.returns-clause-reversed
returns-clause-reversed c name a b apart named =
    ⊎_elim (λ none. none_is b (a ∷ []) none)
    (λ (f : AreFoundFor name (b ∷ a ∷ []) (found_value name (a ∷ b ∷ []) ∷ [])). apart (first_is b a (a ∷ []) (b ∷ []) (are name (b ∷ a ∷ []) (found_value name (a ∷ b ∷ [])) f))) named

pub returns-clause-left_out : goal.returns-clause-left_out
returns-clause-left_out c name a b named =
    ⊎_elim (λ none. none_is a [] none)
    (λ (f : AreFoundFor name (a ∷ []) (found_value name (a ∷ b ∷ []) ∷ [])). let size : 1 ≡ 2 = ap (λ (l : List SocketAddr). length l) (are name (a ∷ []) (found_value name (a ∷ b ∷ [])) f) in omega (arith, size)) named

pub returns-clause-unfound : goal.returns-clause-unfound
returns-clause-unfound c name a named =
    ⊎_elim (λ none. none_is a [] none)
    (λ (f : AreFoundFor name (a ∷ []) []). nothing f.one f.there) named
