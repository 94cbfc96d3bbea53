-- The contexts of connections, beside those of the tree.
use Rattle.gateway_replies.proofs.Names.{◌≡◌, ℕ, refl, sym, ap, ◌∙◌, List, [], ◌∷◌, ◌++◌, Some, None, true, false, ⊎_elim, subst, map, arith, ◌||◌, ◌==◌, not, filter, slice_index_or, list_any, option_or, Given, cases_Bool, or_parts, eqb-true, same_Some, Id, same, ends_conn, if_cancelled, ended_conn, HangUp, Drain, ConnContext, Ended, PeerValue, by_drain, by_hang_up, LifeValue, NoTwo, Peers, ctx_of, ended_peer, ends_life, ends_peer, first_life, is_peer, peer, peers_of, same_context, same_number, all_stay, nat_tests}
use Rattle.gateway_replies.proofs.ListLemmas.{branches_stay, or_nothing, any_map, same_itself, same_turned}

pub ctx_more : (m : ℕ) (ps : Peers) (p : ℕ × Id) (x : Id) → ctx_of m ps ≡ Some x → ctx_of m (ps ++ p ∷ []) ≡ Some x
ctx_more m [] p x is = cc
ctx_more m (q ∷ qs) p x is = grind (arith, ctx_more m qs p x)

-- the context of one of them is not one that none has
ctx_apart : (m : ℕ) (ps : Peers) (x z : Id) → ctx_of m ps ≡ Some x → list_any (λ q. same q.1 z) ps ≡ false → same x z ≡ false
ctx_apart m [] x z is none = cc
ctx_apart m (q ∷ qs) x z is none = grind (arith, ctx_apart m qs x z)

-- connections of two numbers have two contexts
pub two_apart : (m n : ℕ) (ps : Peers) (x y : Id) → NoTwo same_context ps → ctx_of m ps ≡ Some x → ctx_of n ps ≡ Some y → (m == n) ≡ false → same x y ≡ false
two_apart m n [] x y apart mx ny ne = cc
two_apart m n (q ∷ qs) x y apart mx ny ne = grind (arith, nat_tests, two_apart m n qs x y apart.1, same_Some, eqb-true, same_turned, ctx_apart)

pub known_in : (number : ℕ) (ps : Peers) (x : Id) → ctx_of number ps ≡ Some x → list_any (λ y. same y x) (map (λ p. p.1) ps) ≡ true
known_in number [] x is = cc
known_in number (p ∷ ps) x is = grind (arith, known_in number ps x)

-- without the connection of that number
pub less_ctx : (m number : ℕ) (ps : Peers) → (m == number) ≡ false → ctx_of m (filter (λ p. not (p.0 == number)) ps) ≡ ctx_of m ps
less_ctx m number [] ne = refl
less_ctx m number (p ∷ ps) ne = grind (arith, less_ctx m number ps ne)

pub less_contexts : (number : ℕ) (ps : Peers) (x : Id) → ctx_of number ps ≡ Some x → NoTwo same_number ps → NoTwo same_context ps
    → filter (λ y. not (same y x)) (map (λ p. p.1) ps) ≡ map (λ p. p.1) (filter (λ p. not (p.0 == number)) ps)
less_contexts number [] x is numbers contexts = cc
less_contexts number (p ∷ ps) x is numbers contexts = ⊎_elim
    (λ (y : (p.0 == number) ≡ true).
    let x_is : p.1 ≡ x = same_Some p.1 x (rw y at is) in
    let its : same p.1 x ≡ true = ap (λ z. same z x) x_is ∙ same_itself x in
    let none : list_any (λ z. same z x) (map (λ q. q.1) ps) ≡ false = any_map (λ z. same z x) (λ (q : ℕ × Id). q.1) ps
    ∙ subst (λ z. list_any (λ (q : ℕ × Id). same q.1 z) ps ≡ false) x_is contexts.0 in
    let no_number : list_any (λ (q : ℕ × Id). q.0 == number) ps ≡ false = subst (λ k. list_any (λ (q : ℕ × Id). q.0 == k) ps ≡ false) (eqb-true p.0 number y) numbers.0 in
    rw (y, its) (all_stay (λ z. same z x) (map (λ (q : ℕ × Id). q.1) ps) none ∙ ap (map (λ (q : ℕ × Id). q.1)) (sym (all_stay (λ (q : ℕ × Id). q.0 == number) ps no_number))))
    (λ (n : (p.0 == number) ≡ false).
    let there : ctx_of number ps ≡ Some x = rw n at is in
    let far : same p.1 x ≡ false = same_turned p.1 x ∙ ctx_apart number ps x p.1 there contexts.0 in
    rw (n, far) (ap (λ l. p.1 ∷ l) (less_contexts number ps x there numbers.1 contexts.1)))
    (cases_Bool (p.0 == number))

-- ---- connections, with whether their contexts have ended

-- as many, and of these contexts
abbrev AreThose : Peers → List ConnContext → Type 0
AreThose ps cs = map (λ (c : ConnContext). c.id) cs ≡ map (λ (p : ℕ × Id). p.1) ps

pub first_same : (x y : Id) (xs ys : List Id) → x ∷ xs ≡ y ∷ ys → x ≡ y
first_same x y xs ys e = ap (λ (zs : List Id). slice_index_or zs 0 x) e

pub rest_same : (x y : Id) (xs ys : List Id) → x ∷ xs ≡ y ∷ ys → xs ≡ ys
rest_same x y xs ys e = cc

none_there : (ps : Peers) (cs : List ConnContext) (x : Id) → AreThose ps cs → list_any (λ (p : ℕ × Id). same p.1 x) ps ≡ false → list_any (λ (c : ConnContext). same c.id x) cs ≡ false
none_there ps cs x those none = sym (any_map (λ z. same z x) (λ (c : ConnContext). c.id) cs) ∙ ap (list_any (λ z. same z x)) those ∙ any_map (λ z. same z x) (λ (p : ℕ × Id). p.1) ps ∙ none

pub peer_in : (number : ℕ) (ps : Peers) (cs : List ConnContext) → AreThose ps cs → is_peer number (peers_of ps cs) ≡ list_any (λ (p : ℕ × Id). p.0 == number) ps
peer_in number [] cs those = refl
peer_in number (p ∷ ps) [] those = cc
peer_in number (p ∷ ps) (c ∷ cs) those = ap (λ b. (p.0 == number) || b) (peer_in number ps cs (rest_same _ _ _ _ those))

pub peers_pushed : (ps : Peers) (cs : List ConnContext) (p : ℕ × Id) (c : ConnContext) → AreThose ps cs → peers_of (ps ++ p ∷ []) (cs ++ c ∷ []) ≡ peers_of ps cs ++ peer p.0 c.ended ∷ []
peers_pushed [] [] p c those = refl
peers_pushed [] (d ∷ cs) p c those = cc
peers_pushed (q ∷ ps) [] p c those = cc
peers_pushed (q ∷ ps) (d ∷ cs) p c those = ap (λ xs. peer q.0 d.ended ∷ xs) (peers_pushed ps cs p c (rest_same _ _ _ _ those))

-- of the connection of that number
module _ (number : ℕ) (x : Id) where
  its_first : (p : ℕ × Id) (ps : Peers) (c : ConnContext) (cs : List ConnContext) → AreThose (p ∷ ps) (c ∷ cs) → (p.0 == number) ≡ true → ctx_of number (p ∷ ps) ≡ Some x → NoTwo same_number (p ∷ ps) → NoTwo same_context (p ∷ ps)
      → (same c.id x ≡ true) × (list_any (λ (q : ℕ × Id). q.0 == number) ps ≡ false) × (list_any (λ (d : ConnContext). same d.id x) cs ≡ false)
  its_first p ps c cs those y is numbers contexts = grind (arith, nat_tests, same_Some, first_same, same_itself, eqb-true, none_there, rest_same)

  other_first : (p : ℕ × Id) (ps : Peers) (c : ConnContext) (cs : List ConnContext) → AreThose (p ∷ ps) (c ∷ cs) → ctx_of number ps ≡ Some x → NoTwo same_context (p ∷ ps) → same c.id x ≡ false
  other_first p ps c cs those there contexts = ap (λ z. same z x) (first_same _ _ _ _ those) ∙ same_turned p.1 x ∙ ctx_apart number ps x p.1 there contexts.0

  pub peers_less : (ps : Peers) (cs : List ConnContext) → AreThose ps cs → ctx_of number ps ≡ Some x → NoTwo same_number ps → NoTwo same_context ps
      → peers_of (filter (λ p. not (p.0 == number)) ps) (filter (λ c. not (same c.id x)) cs) ≡ filter (λ p. not (p.number == number)) (peers_of ps cs)
  peers_less [] cs those is numbers contexts = cc
  peers_less (p ∷ ps) [] those is numbers contexts = cc
  peers_less (p ∷ ps) (c ∷ cs) those is numbers contexts = ⊎_elim
      (λ (y : (p.0 == number) ≡ true).
      let its = its_first p ps c cs those y is numbers contexts in
      let ps_are : filter (λ (q : ℕ × Id). not (q.0 == number)) ps ≡ ps = all_stay (λ (q : ℕ × Id). q.0 == number) ps its.1 in
      let cs_are : filter (λ (d : ConnContext). not (same d.id x)) cs ≡ cs = all_stay (λ (d : ConnContext). same d.id x) cs its.2 in
      let all_are : filter (λ (q : PeerValue). not (q.number == number)) (peers_of ps cs) ≡ peers_of ps cs =
      all_stay (λ (q : PeerValue). q.number == number) (peers_of ps cs) (peer_in number ps cs (rest_same _ _ _ _ those) ∙ its.1) in
      rw (y, its.0, ps_are, cs_are, all_are) refl)
      (λ (n : (p.0 == number) ≡ false).
      let there : ctx_of number ps ≡ Some x = rw n at is in
      rw (n, other_first p ps c cs those there contexts) (ap (λ xs. peer p.0 c.ended ∷ xs) (peers_less ps cs (rest_same _ _ _ _ those) there numbers.1 contexts.1)))
      (cases_Bool (p.0 == number))

  none_hung : (ps : Peers) (cs : List ConnContext) → list_any (λ (p : ℕ × Id). p.0 == number) ps ≡ false → list_any (λ (c : ConnContext). same c.id x) cs ≡ false
      → peers_of ps (map (λ (c : ConnContext). ends_conn (if_cancelled (same c.id x) HangUp) c) cs) ≡ map (λ p. ends_peer (by_hang_up (p.number == number)) p) (peers_of ps cs)
  none_hung [] cs no_p no_c = refl
  none_hung (p ∷ ps) [] no_p no_c = refl
  none_hung (p ∷ ps) (c ∷ cs) no_p no_c =
      let two = or_parts (p.0 == number) (list_any (λ (q : ℕ × Id). q.0 == number) ps) no_p in
      let both = or_parts (same c.id x) (list_any (λ (d : ConnContext). same d.id x) cs) no_c in
      rw (two.0, both.0) (ap (λ xs. peer p.0 (option_or c.ended None) ∷ xs) (none_hung ps cs two.1 both.1))

  pub peers_hung : (ps : Peers) (cs : List ConnContext) → AreThose ps cs → ctx_of number ps ≡ Some x → NoTwo same_number ps → NoTwo same_context ps
      → peers_of ps (map (λ (c : ConnContext). ends_conn (if_cancelled (same c.id x) HangUp) c) cs) ≡ map (λ p. ends_peer (by_hang_up (p.number == number)) p) (peers_of ps cs)
  peers_hung [] cs those is numbers contexts = cc
  peers_hung (p ∷ ps) [] those is numbers contexts = cc
  peers_hung (p ∷ ps) (c ∷ cs) those is numbers contexts = grind (arith, nat_tests, peers_hung ps cs, its_first, none_hung, other_first, rest_same)

  -- what ended its context
  pub peer_ended : (new : Ended) (ps : Peers) (cs : List ConnContext) → AreThose ps cs → ctx_of number ps ≡ Some x → NoTwo same_context ps → ended_conn x cs ≡ ended_peer new number (peers_of ps cs)
  peer_ended new [] cs those is contexts = cc
  peer_ended new (p ∷ ps) [] those is contexts = cc
  peer_ended new (p ∷ ps) (c ∷ cs) those is contexts = grind (arith, nat_tests, peer_ended new ps cs, same_Some, first_same, same_itself, other_first, rest_same)

pub peers_drained : (ps : Peers) (cs : List ConnContext) → peers_of ps (map (ends_conn (Some (Given Drain))) cs) ≡ map (λ p. ends_peer (by_drain true) p) (peers_of ps cs)
peers_drained [] cs = refl
peers_drained (p ∷ ps) [] = refl
peers_drained (p ∷ ps) (c ∷ cs) = ap (λ xs. peer p.0 (option_or c.ended (Some (Given Drain))) ∷ xs) (peers_drained ps cs)

-- there is no connection of that number
pub not_in : (number : ℕ) (ps : Peers) (cs : List ConnContext) → ctx_of number ps ≡ None → is_peer number (peers_of ps cs) ≡ false
not_in number [] cs is = refl
not_in number (p ∷ ps) [] is = refl
not_in number (p ∷ ps) (c ∷ cs) is = grind (arith, not_in number ps cs)

pub peers_stay : (number : ℕ) (ps : List PeerValue) → is_peer number ps ≡ false → map (λ p. ends_peer (by_hang_up (p.number == number)) p) ps ≡ ps
peers_stay number [] none = refl
peers_stay number (p ∷ ps) none =
    let two = or_parts (p.number == number) (is_peer number ps) none in
    rw (two.0, or_nothing p.ended) (ap (λ xs. p ∷ xs) (peers_stay number ps two.1))

pub lives_stay : (number : ℕ) (ls : List LifeValue) → first_life number ls ≡ None → map (λ l. ends_life (by_hang_up (l.id.conn == number)) l) ls ≡ ls
lives_stay number [] none = refl
lives_stay number (l ∷ ls) none = grind (arith, nat_tests, lives_stay number ls, or_nothing, branches_stay)
