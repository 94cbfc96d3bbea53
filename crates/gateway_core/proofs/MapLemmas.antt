-- The connections by their numbers: what is found, and the sums over them, after one is changed, put in or taken out.
use Rattle.gateway_core.proofs.Names.{◌≡◌, ℕ, ◌+◌, ◌≤◌, refl, ap, ◌∙◌, [], ◌∷◌, Option, Some, None, false, cond, arith, insert_entry, is_at, sum_by, IsStrictlySortedBy, keys_of, remove_entry, set_value, values_of, is_eq, match_ordering, nat_cmp, ◌==◌, if◌then◌else◌, option_map, unwrap_or, eq-eqb, GatewayValue, conn_of, HeldConnection, Moves, Conns, held_at, nat_tests}
use Rattle.std.specs.Option.{option_map_or}
use Rattle.std.specs.declared.cmp.Ordering.{Ordering}
use Rattle.std.specs.declared.cmp.Ordering.TheVariants.{Less, Equal, Greater}
use Rattle.std.proofs.lemmas.Cmp.{nat_cmp_total}
use Rattle.std.proofs.lemmas.Map.{keys-set_value}
use Rattle.std.proofs.lemmas.Map.Entries.{sum_by-insert_entry, sum_by-remove_entry, sum_by-set_value}
use Rattle.std.proofs.lemmas.Map.Steps.{set_value_same}

pub nat_is : (x y : ℕ) → is_eq (nat_cmp x y) ≡ (x == y)
nat_is x y = grind (arith, nat_tests)

-- what is found, once the connection of one number was written
pub found_set : (n q : ℕ) (x y : HeldConnection) (es : Conns) → held_at n es ≡ Some x
    → held_at q (set_value (is_at (nat_cmp n)) es y) ≡ (if n == q then Some y else held_at q es)
found_set n q x y [] is = let clash : None ≡ Some x = is in cc
found_set n q x y (e ∷ es) is = grind (arith, found_set n q x y es)

pub set_here : (n : ℕ) (x y : HeldConnection) (es : Conns) → held_at n es ≡ Some x → held_at n (set_value (is_at (nat_cmp n)) es y) ≡ Some y
set_here n x y es is = found_set n n x y es is ∙ ap (λ b. if b then Some y else held_at n es) (eq-eqb n n refl)

pub set_other : (n q : ℕ) (x y : HeldConnection) (es : Conns) → held_at n es ≡ Some x → (n == q) ≡ false → held_at q (set_value (is_at (nat_cmp n)) es y) ≡ held_at q es
set_other n q x y es is apart = found_set n q x y es is ∙ ap (λ b. if b then Some y else held_at q es) apart

-- one that was put in under a new number, and taken out again
pub restored : (n : ℕ) (x : HeldConnection) (es : Conns) → held_at n es ≡ None → remove_entry (is_at (nat_cmp n)) (insert_entry nat_cmp es n x) ≡ es
restored n x [] is = rw (nat_is n n ∙ eq-eqb n n refl) refl
restored n x (e ∷ es) is = by (nat_cmp n e.0) refl (λ free. restored n x es free)
  where
    by : (o : Ordering) → nat_cmp n e.0 ≡ o → (held_at n es ≡ None → remove_entry (is_at (nat_cmp n)) (insert_entry nat_cmp es n x) ≡ es)
        → remove_entry (is_at (nat_cmp n)) (match_ordering (nat_cmp n e.0) ((n, x) ∷ e ∷ es) ((e.0, x) ∷ es) (e ∷ insert_entry nat_cmp es n x)) ≡ e ∷ es
    by Less o_is rest = rw (o_is, nat_is n n ∙ eq-eqb n n refl) refl
    by Equal o_is rest = absurd (let clash : Some e.1 ≡ None = rw o_is at is in cc)
    by Greater o_is rest = rw (o_is, o_is) (ap (λ fs. e ∷ fs) (rest (rw o_is at is)))

-- ---- what moves

some_is : (f : HeldConnection → ℕ) (o : Option HeldConnection) (k : HeldConnection) → o ≡ Some k → option_map_or f o 0 ≡ f k
some_is f o k is = ap (λ p. option_map_or f p 0) is

none_is : (f : HeldConnection → ℕ) (o : Option HeldConnection) → o ≡ None → option_map_or f o 0 ≡ 0
none_is f o is = ap (λ p. option_map_or f p 0) is

module _ (f : HeldConnection → ℕ) (n : ℕ) where
  pub sum_set : (k l : HeldConnection) (es fs : Conns) → held_at n es ≡ Some k → fs ≡ set_value (is_at (nat_cmp n)) es l
      → sum_by f (values_of fs) + f k ≡ sum_by f (values_of es) + f l
  sum_set k l es fs is set = ap (λ gs. sum_by f (values_of gs) + f k) set ∙ sum_by-set_value f (is_at (nat_cmp n)) es k l is

  pub sum_removed : (k l : HeldConnection) (es fs gs : Conns) → held_at n es ≡ Some k → fs ≡ set_value (is_at (nat_cmp n)) es l → gs ≡ remove_entry (is_at (nat_cmp n)) fs
      → sum_by f (values_of gs) + f k ≡ sum_by f (values_of es)
  sum_removed k l es fs gs is set removed = grind (arith, nat_tests, set_here, sum_by-remove_entry, sum_set)

  pub sum_inserted : (x : HeldConnection) (es fs : Conns) → held_at n es ≡ None → fs ≡ insert_entry nat_cmp es n x → IsStrictlySortedBy nat_cmp (keys_of es)
      → sum_by f (values_of fs) ≡ sum_by f (values_of es) + f x
  sum_inserted x es fs is put sorted = grind (arith, nat_tests, sum_by-insert_entry, nat_cmp_total)

  -- one that is there has no more than all
  pub sum_holds : (k : HeldConnection) (es : Conns) → held_at n es ≡ Some k → f k ≤ sum_by f (values_of es)
  sum_holds k es is =
      let less = sum_by-remove_entry f (is_at (nat_cmp n)) es in
      let found : unwrap_or (option_map f (held_at n es)) 0 ≡ f k = ap (λ o. unwrap_or (option_map f o) 0) is in
      omega (arith, less, found)

-- it was changed
pub moved_set : (n : ℕ) (k l : HeldConnection) (v w : GatewayValue) → conn_of n v ≡ Some k → w.conns ≡ set_value (is_at (nat_cmp n)) v.conns l
    → IsStrictlySortedBy nat_cmp (keys_of v.conns) → Moves n (Some l) v w
moved_set n k l v w is set sorted = grind (arith, nat_tests, set_here, set_other, keys-set_value, sum_set, some_is, set_value_same)

-- it was changed, and taken out
pub moved_out : (n : ℕ) (k l : HeldConnection) (v w : GatewayValue) (fs : Conns) → conn_of n v ≡ Some k → fs ≡ set_value (is_at (nat_cmp n)) v.conns l
    → w.conns ≡ remove_entry (is_at (nat_cmp n)) fs → ((q : ℕ) → held_at q w.conns ≡ cond (is_at (nat_cmp n) q) None (held_at q fs))
    → IsStrictlySortedBy nat_cmp (keys_of w.conns) → Moves n None v w
moved_out n k l v w fs is set removed updates sorted = grind (arith, nat_tests, nat_is, eq-eqb, set_other, sum_removed, some_is)

-- one was put in
pub moved_in : (n : ℕ) (x : HeldConnection) (v w : GatewayValue) → conn_of n v ≡ None → w.conns ≡ insert_entry nat_cmp v.conns n x
    → ((q : ℕ) → held_at q w.conns ≡ cond (is_at (nat_cmp n) q) (Some x) (held_at q v.conns))
    → IsStrictlySortedBy nat_cmp (keys_of v.conns) → IsStrictlySortedBy nat_cmp (keys_of w.conns) → Moves n (Some x) v w
moved_in n x v w is put updates before sorted = grind (arith, nat_tests, nat_is, eq-eqb, sum_inserted, none_is)
