-- Which addresses are a job's, and in what order it goes over them.
use Rattle.branch_asking.proofs.Words.{◌≡◌, ℕ, Bool, true, false, List, [], ◌∷◌, ◌++◌, None, Some, refl, sym, ap, ◌∙◌, subst, append-nil, inl, inr, ⊎_elim, option_to_list, SocketAddr, AreAddressesOf, AddressesValue, AreOf, HasParsed, IsPrefixOf, addresses_value, next_of, once_found, once_spelt}
use Rattle.std.proofs.Common.{append_assoc}
use Rattle.std.specs.Prelude.{if◌then◌else◌}
use Rattle.std.specs.Net.Grammar.{IsSocketText}

-- the same addresses, and more of them were tried
same_are : (text : List ℕ) (tried later : List SocketAddr) (x y : AddressesValue) → later ++ next_of y ≡ tried ++ next_of x → y.found ≡ x.found → y.known ≡ x.known
    → AreOf text tried x → AreOf text later y
same_are text tried later x y all found known are = record {
  in_order = ⊎_elim
      (λ (own : (a : SocketAddr) × IsSocketText text a × (tried ++ next_of x ≡ a ∷ [])). inl (own.0, own.1, all ∙ own.2))
      (λ (is : tried ++ next_of x ≡ x.found). inr (all ∙ is ∙ sym found))
      are.in_order;
  none = λ off. all ∙ are.none (sym known ∙ off);
}

-- none yet
pub new_are : (text : List ℕ) (tried : List SocketAddr) → tried ≡ [] → AreOf text tried (addresses_value None [] false [])
new_are text tried none = record {
  in_order = inr (ap (λ (l : List SocketAddr). l ++ []) none);
  none = λ off. ap (λ (l : List SocketAddr). l ++ []) none;
}

-- one was taken
pub taken_are : (text : List ℕ) (tried later : List SocketAddr) (x y : AddressesValue) (a : SocketAddr) → next_of x ≡ a ∷ next_of y → y.found ≡ x.found → y.known ≡ x.known
    → later ≡ tried ++ a ∷ [] → AreOf text tried x → AreOf text later y
taken_are text tried later x y a next found known is are =
    same_are text tried later x y
    (ap (λ (l : List SocketAddr). l ++ next_of y) is ∙ append_assoc tried (a ∷ []) (next_of y) ∙ ap (λ (l : List SocketAddr). tried ++ l) (sym next))
    found known are

-- others were tried in the same order
pub tried_are : (text : List ℕ) (tried later : List SocketAddr) (x : AddressesValue) → later ≡ tried → AreOf text tried x → AreOf text later x
tried_are text tried later x is are = subst (λ (l : List SocketAddr). AreOf text l x) (sym is) are

-- ---- where none were known

no_first : (a : SocketAddr) (rest : List SocketAddr) → a ∷ rest ≡ [] → ⊥
no_first a rest e = cc

on_off : true ≡ false → ⊥
on_off e = cc

none_left : (xs ys zs : List SocketAddr) → xs ++ (ys ++ zs) ≡ [] → (xs ≡ []) × (ys ≡ []) × (zs ≡ [])
none_left [] [] [] e = (refl, refl, refl)
none_left [] [] (z ∷ zs) e = absurd (no_first z zs e)
none_left [] (y ∷ ys) zs e = absurd (no_first y (ys ++ zs) e)
none_left (x ∷ xs) ys zs e = absurd (no_first x (xs ++ (ys ++ zs)) e)

none_found : (text : List ℕ) (tried : List SocketAddr) (x : AddressesValue) → tried ++ next_of x ≡ [] → AreAddressesOf text x.found (tried ++ next_of x) → x.found ≡ []
none_found text tried x none all =
    ⊎_elim
    (λ (own : (a : SocketAddr) × IsSocketText text a × (tried ++ next_of x ≡ a ∷ [])). absurd (no_first own.0 [] (sym own.2 ∙ none)))
    (λ (is : tried ++ next_of x ≡ x.found). sym is ∙ none)
    all

module _ (text : List ℕ) (tried : List SocketAddr) (x : AddressesValue) (are : AreOf text tried x) where
  -- these were found
  pub found_are : (y : AddressesValue) (more : List SocketAddr) → y ≡ once_found more x → AreOf text tried y
  found_are y more is = subst (λ (v : AddressesValue). AreOf text tried v) (sym is) (by_it x.known refl)
    where
      by_it : (b : Bool) → x.known ≡ b → AreOf text tried (if b then x else addresses_value x.first more true more)
      by_it true on = are
      by_it false off =
          let left = none_left tried (option_to_list x.first) x.others (are.none off) in
          record {
            in_order = inr (ap (λ (l : List SocketAddr). l ++ (option_to_list x.first ++ more)) left.0 ∙ ap (λ (l : List SocketAddr). l ++ more) left.1);
            none = λ e. absurd (on_off e);
          }

  -- the text was that of an address
  pub spelt_are : (y : AddressesValue) (a : SocketAddr) → IsSocketText text a → y ≡ once_spelt a x → AreOf text tried y
  spelt_are y a spells is = subst (λ (v : AddressesValue). AreOf text tried v) (sym is) (by_it x.known refl)
    where
      by_it : (b : Bool) → x.known ≡ b → AreOf text tried (if b then x else addresses_value (Some a) x.others true x.found)
      by_it true on = are
      by_it false off =
          let left = none_left tried (option_to_list x.first) x.others (are.none off) in
          record {
            in_order = inl (a, spells, ap (λ (l : List SocketAddr). l ++ (a ∷ x.others)) left.0 ∙ ap (λ (l : List SocketAddr). a ∷ l) left.2);
            none = λ e. absurd (on_off e);
          }

  -- .. or none
  pub parsed_are : (own : List ℕ) (b : Bool) (y : AddressesValue) → own ≡ text → HasParsed own b x y → AreOf text tried y
  parsed_are own true y same p = spelt_are y p.0 (subst (λ (t : List ℕ). IsSocketText t p.0) same p.1) p.2
  parsed_are own false y same p = subst (λ (v : AddressesValue). AreOf text tried v) (sym p.1) are

-- what was found is not changed by a text
pub parsed_found : (own : List ℕ) (b : Bool) (x y : AddressesValue) → HasParsed own b x y → y.found ≡ x.found
parsed_found own true x y p = ap (λ (v : AddressesValue). v.found) p.2 ∙ by_it x.known
  where
    by_it : (b : Bool) → (if b then x else addresses_value (Some p.0) x.others true x.found).found ≡ x.found
    by_it true = refl
    by_it false = refl
parsed_found own false x y p = ap (λ (v : AddressesValue). v.found) p.1

-- .. and only grows
pub found_more : (text : List ℕ) (tried : List SocketAddr) (x : AddressesValue) (more : List SocketAddr) → AreOf text tried x
    → IsPrefixOf x.found (once_found more x).found
found_more text tried x more are = by_it x.known refl
  where
    by_it : (b : Bool) → x.known ≡ b → IsPrefixOf x.found (if b then x else addresses_value x.first more true more).found
    by_it true on = ([], sym (append-nil x.found))
    by_it false off = (more, ap (λ (l : List SocketAddr). l ++ more) (sym (none_found text tried x (are.none off) are.in_order)))
