-- How many clients have one connection.
use Rattle.std.proofs.Common.{◌≡◌, ℕ, zero, suc, ◌<◌, ◌≤◌, Bool, true, false, [], ◌∷◌, Option, Some, arith, refl, ◌∙◌}
use Rattle.std.specs.Prelude.{◌==◌, if◌then◌else◌, count_by, nat_lt}
use Rattle.std.specs.Option.{option_map_or}
use Rattle.std.proofs.lemmas.Bool.{eq-eqb, le-ltb, lt-ltb, ne_eqb}
use Rattle.gateway_theory.specs.Values.{GatewayValue}
use Rattle.loop_model.specs.Clients.{ClientValue}
use Rattle.loop_model.specs.Explained.{count_of, one_below}
use Rattle.loop_rows.specs.LoopRows.{client_of, with_clients}
use Rattle.loop_rows.proofs.ExchangeLemmas.{count_one, count_two}

pub at_most_one : (c n : ℕ) → one_below c n ≤ 1
at_most_one c n = by_it (nat_lt c n)
  where
    by_it : (b : Bool) → (if b then 1 else 0) ≤ 1
    by_it true = omega arith
    by_it false = omega arith

pub opened_one : (c n : ℕ) → c < n → one_below c n ≡ 1
opened_one c n lt = rw (lt-ltb c n lt) refl

pub unopened_none : (c n : ℕ) → n ≤ c → one_below c n ≡ 0
unopened_none c n le = rw (le-ltb c n le) refl

abbrev has : ℕ → ClientValue → Bool
has c z = z.conn == c

abbrev there_has : ℕ → Option ClientValue → Bool
there_has c o = option_map_or (λ (z : ClientValue). z.conn == c) o false

own : (c : ℕ) (x : ClientValue) → x.conn ≡ c → has c x ≡ true
own c x same = eq-eqb x.conn c same

pub two_gone : (c : ℕ) (x y : ClientValue) → x.conn ≡ c → y.conn ≡ c → count_by (has c) (x ∷ y ∷ []) ≡ 2
two_gone c x y one two = count_two (has c) x y ∙ rw (own c x one, own c y two) refl

pub one_gone : (c : ℕ) (x : ClientValue) → x.conn ≡ c → count_by (has c) (x ∷ []) ≡ 1
one_gone c x one = count_one (has c) x ∙ rw (own c x one) refl

pub two_there : (c : ℕ) (x y : ClientValue) → x.conn ≡ c → y.conn ≡ c → count_by (there_has c) (Some x ∷ Some y ∷ []) ≡ 2
two_there c x y one two = count_two (there_has c) (Some x) (Some y) ∙ rw (own c x one, own c y two) refl

pub one_there : (c : ℕ) (x : ClientValue) → x.conn ≡ c → count_by (there_has c) (Some x ∷ []) ≡ 1
one_there c x one = count_one (there_has c) (Some x) ∙ rw (own c x one) refl

pub none_there : (c : ℕ) (x : ClientValue) → (x.conn ≡ c → ⊥) → count_by (there_has c) (Some x ∷ []) ≡ 0
none_there c x other = count_one (there_has c) (Some x) ∙ rw (ne_eqb x.conn c other) refl

pub none_gone : (c : ℕ) (x : ClientValue) → (x.conn ≡ c → ⊥) → count_by (has c) (x ∷ []) ≡ 0
none_gone c x other = count_one (has c) x ∙ rw (ne_eqb x.conn c other) refl

-- one client is there, and one is gone
pub one_of_each : (v : GatewayValue) (c : ℕ) → count_of c (with_clients v (Some (client_of 1) ∷ []) (client_of 0 ∷ [])) ≡ one_below c 2
one_of_each v zero = refl
one_of_each v (suc zero) = refl
one_of_each v (suc (suc n)) =
    let c = suc (suc n) in
    omega (arith, none_there c (client_of 1) (λ e. omega (arith, e)), none_gone c (client_of 0) (λ e. omega (arith, e)), unopened_none c 2 (omega arith))
