-- The connections of the gateway in one map, and sums over them.
use Rattle.std.specs.Prelude.{◌≡◌, ◌+◌, ◌<◌, ◌∷◌, ◌≤◌, ◌==◌, if◌then◌else◌}
use Rattle.gateway_theory.specs.lemmas.Names.{ℕ, zero, suc, Bool, true, false, List, [], Option, None, Some, refl, sym, ap, ◌∙◌, arith, subst, AllByRecursion, sum_by, option_map_or, nat_lt, eq-eqb, eqb-true, ne_eqb, lt-ltb, nat_tests, sum_by-cons, most_open, ConnectionValue, is_open_value, not_kept, GatewayValue, conn_of, connection, value_of, HeldConnection, connection_of, is_open_conn, open_count, if_open, IsHeld, IsServing, Moves}
use Rattle.std.specs.BTreeMap.{is_at}
use Rattle.std.specs.List.Sorted.{IsStrictlySortedBy}
use Rattle.std.specs.Map.{keys_of, lookup, values_of}
use Rattle.std.specs.Ordering.{is_eq, nat_cmp}
use Rattle.std.specs.declared.cmp.Ordering.TheVariants.{Less}
use Rattle.std.proofs.lemmas.Map.Keys.{sorted_head, sorted_tail}
use Rattle.gateway_theory.specs.lemmas.StoreLemmas.{some_same}
use Rattle.gateway_theory.specs.lemmas.HeldSteps.{held_more}

-- a look-up at a number finds that number
pub key_is : (c k : ℕ) → is_at (nat_cmp c) k ≡ (c == k)
key_is c k = grind (arith, nat_tests)

-- a sum over the numbers below n
abbrev pub sum_below : ℕ → (ℕ → ℕ) → ℕ
sum_below zero g = 0
sum_below (suc n) g = sum_below n g + g n

pub sum_alike : (n : ℕ) (f g : ℕ → ℕ) → ((c : ℕ) → c < n → f c ≡ g c) → sum_below n f ≡ sum_below n g
sum_alike zero f g same = refl
sum_alike (suc n) f g same = let rest = sum_alike n f g (λ c lt. same c (omega (arith, lt))) in let last = same n (omega arith) in omega (arith, rest, last)

sum_none : (n : ℕ) → sum_below n (λ c. 0) ≡ 0
sum_none zero = refl
sum_none (suc n) = let rest = sum_none n in omega (arith, rest)

-- one more at k
sum_put : (n k y : ℕ) (g : ℕ → ℕ) → k < n → g k ≡ 0 → sum_below n (λ c. if c == k then y else g c) ≡ y + sum_below n g
sum_put zero k y g lt none = absurd (omega (arith, lt))
sum_put (suc n) k y g lt none = by (n == k) refl (λ less. sum_put n k y g less none)
  where
    by : (b : Bool) → (n == k) ≡ b → (k < n → sum_below n (λ c. if c == k then y else g c) ≡ y + sum_below n g) → sum_below n (λ c. if c == k then y else g c) + (if n == k then y else g n) ≡ y + (sum_below n g + g n)
    by b is each = grind (arith, nat_tests, eqb-true, sum_below, sum_alike, ne_eqb, eq-eqb)

module _ {X : Type 0} where
  abbrev pub look : ℕ → List (ℕ × X) → Option X
  look c es = lookup (is_at (nat_cmp c)) es

  pub look_first : (c : ℕ) (e : ℕ × X) (es : List (ℕ × X)) → look c (e ∷ es) ≡ (if c == e.0 then Some e.1 else look c es)
  look_first c e es = ap (λ b. if b then Some e.1 else look c es) (key_is c e.0)

  -- nothing is found below all keys
  below_all : (k : ℕ) (es : List (ℕ × X)) → IsStrictlySortedBy nat_cmp (k ∷ keys_of es) → look k es ≡ None
  below_all k es s = by es (sorted_head nat_cmp k (keys_of es) s)
    where
      by : (es : List (ℕ × X)) → AllByRecursion (λ y. nat_cmp k y ≡ Less) (keys_of es) → look k es ≡ None
      by [] a = refl
      by (e ∷ es) a = ap (λ b. if b then Some e.1 else look k es) (ap is_eq a.0) ∙ by es a.1

  pub sum_values : (f : X → ℕ) (n : ℕ) (es : List (ℕ × X)) → IsStrictlySortedBy nat_cmp (keys_of es) → ((c : ℕ) (x : X) → look c es ≡ Some x → c < n)
      → sum_by f (values_of es) ≡ sum_below n (λ c. option_map_or f (look c es) 0)
  sum_values f n [] s below = sym (sum_none n)
  sum_values f n (e ∷ es) s below =
      let none : look e.0 es ≡ None = below_all e.0 es s in
      let here : e.0 < n = below e.0 e.1 (look_first e.0 e es ∙ ap (λ b. if b then Some e.1 else look e.0 es) (eq-eqb e.0 e.0 refl)) in
      let rest = sum_values f n es (sorted_tail nat_cmp e.0 (keys_of es) s) (later (look e.0 es) none) in
      let first = sum_by-cons f e.1 (values_of es) in
      let put : sum_below n (λ c. if c == e.0 then f e.1 else option_map_or f (look c es) 0) ≡ f e.1 + sum_below n (λ c. option_map_or f (look c es) 0) =
      sum_put n e.0 (f e.1) (λ c. option_map_or f (look c es) 0) here (ap (λ o. option_map_or f o 0) none) in
      first ∙ ap (λ m. f e.1 + m) rest ∙ sym put ∙ sum_alike n (λ c. if c == e.0 then f e.1 else option_map_or f (look c es) 0) (λ c. option_map_or f (look c (e ∷ es)) 0) (λ c lt. split c)
    where
      split : (c : ℕ) → (if c == e.0 then f e.1 else option_map_or f (look c es) 0) ≡ option_map_or f (look c (e ∷ es)) 0
      split c = grind (arith, nat_tests)

      later : (o : Option X) → look e.0 es ≡ None → (c : ℕ) (x : X) → look c es ≡ Some x → c < n
      later o none c x is = by (c == e.0) refl
        where
          by : (b : Bool) → (c == e.0) ≡ b → c < n
          by true at = absurd (let clash : None ≡ Some x = sym none ∙ ap (λ m. look m es) (sym (eqb-true c e.0 at)) ∙ is in cc)
          by false at = below c x (look_first c e es ∙ ap (λ b. if b then Some e.1 else look c es) at ∙ is)

-- ---- one connection

pub there_value : (c : ℕ) (v : GatewayValue) (k : HeldConnection) → conn_of c v ≡ Some k → connection c v ≡ connection_of k
there_value c v k is = ap (value_of v.opened c) is

pub absent_value : (c : ℕ) (v : GatewayValue) → conn_of c v ≡ None → connection c v ≡ not_kept (nat_lt c v.opened) c
absent_value c v is = ap (value_of v.opened c) is

-- one that is kept and not closed is open
pub open_there : (c : ℕ) (v : GatewayValue) (k : HeldConnection) → IsServing v → conn_of c v ≡ Some k → k.closed ≡ false → is_open_conn c v ≡ true
open_there c v k s is still =
    let born = (s.each c k is).born in
    ap (λ (x : ConnectionValue). is_open_value v.opened c x) (there_value c v k is) ∙ rw (lt-ltb c v.opened born, still) refl

-- of the others
pub shut_there : (c : ℕ) (v : GatewayValue) (k : HeldConnection) → conn_of c v ≡ Some k → k.closed ≡ true → is_open_conn c v ≡ false
shut_there c v k is shut = grind arith

pub shut_absent : (c : ℕ) (v : GatewayValue) → conn_of c v ≡ None → is_open_conn c v ≡ false
shut_absent c v is = grind arith

pub if_open_still : (k : HeldConnection) → k.closed ≡ false → if_open (Some k) ≡ Some k
if_open_still k still = ap (λ b. if b then None else Some k) still

-- ---- after a step of one of them

module _ (c : ℕ) (now : Option HeldConnection) (v w : GatewayValue) (m : Moves c now v w) where
  -- it is served, where this one is held so, and no more are open than may be
  pub moves_serving : IsServing v → v.opened ≤ w.opened → ((k : HeldConnection) → now ≡ Some k → IsHeld w.opened c k) → open_count w ≤ most_open → IsServing w
  moves_serving s more here few = record { each = λ d k is. by d k is (c == d) refl; sorted = m.sorted; few_open = few }
    where
      by : (d : ℕ) (k : HeldConnection) → conn_of d w ≡ Some k → (b : Bool) → (c == d) ≡ b → IsHeld w.opened d k
      by d k is true at =
          let same : c ≡ d = eqb-true c d at in
          subst (λ n. IsHeld w.opened n k) same (here k (sym m.here ∙ ap (λ n. conn_of n w) same ∙ is))
      by d k is false ne = held_more v.opened w.opened d k more (s.each d k (sym (m.others d ne) ∙ is))

  -- as many are open, where it is as closed as it was
  pub moves_open : (k l : HeldConnection) → conn_of c v ≡ Some k → now ≡ Some l → l.closed ≡ k.closed → open_count w ≡ open_count v
  moves_open k l was is same = grind arith

  -- a step of one that was kept
  pub moves_kept : (k l : HeldConnection) → conn_of c v ≡ Some k → now ≡ Some l → l.closed ≡ k.closed → w.opened ≡ v.opened → IsServing v → (IsHeld v.opened c k → IsHeld v.opened c l) → IsServing w
  moves_kept k l was is same opened_is s step =
      moves_serving s (omega (arith, opened_is)) (λ x x_is. subst (λ n. IsHeld n c x) (sym opened_is) (subst (λ y. IsHeld v.opened c y) (some_same (sym is ∙ x_is)) (step (s.each c k was))))
      (let few = s.few_open in let count = moves_open k l was is same in omega (arith, few, count))
