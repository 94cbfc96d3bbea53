-- What derives from what, of the contexts that are kept.
use Rattle.call_contexts.proofs.Names.{◌≡◌, refl, sym, ap, ◌∙◌, ℕ, List, [], ◌∷◌, ◌++◌, Option, Some, None, true, false, inl, inr, ⊎_elim, subst, arith, ◌⊎◌, All, unwrap_or, list_any-append as any_append, cases_Bool, or_cases, or_left, or_right, All-append, All-cons, All-head, All-nil, All-tail, All-weaker, same_Some, Kind, Background, Cancel, Deadline, Value, Id, same, held, parent_of, TreeValue, is_among, AfterFuncs, Life, Twig, Op, IsSound, IsLife, IsConn, IsHolder, IsTwig, all_ids, contexts, ids_in, ids_of, kind_of, twig_ids, nat_tests}
use Rattle.call_contexts.proofs.Lists.{both_all}
use Rattle.call_contexts.proofs.Trees.{not_both, same_refl, same_true}

pub kind_parent : (C V : Type 0) (p : Id) (d : Option ℕ) → parent_of (kind_of {C = C} {V = V} p d) ≡ Some p
kind_parent C V p None = refl
kind_parent C V p (Some at) = refl

among_here : (x : Id) (xs : List Id) → is_among x (x ∷ xs) ≡ true
among_here x xs = rw (same_refl x) refl

pub among_left : (x : Id) (xs ys : List Id) → is_among x xs ≡ true → is_among x (xs ++ ys) ≡ true
among_left x xs ys is = any_append (same x) xs ys ∙ or_left (is_among x xs) (is_among x ys) is

pub among_right : (x : Id) (xs ys : List Id) → is_among x ys ≡ true → is_among x (xs ++ ys) ≡ true
among_right x xs ys is = any_append (same x) xs ys ∙ or_right (is_among x xs) (is_among x ys) is

pub among_parts : (x : Id) (xs ys : List Id) → is_among x (xs ++ ys) ≡ true → (is_among x xs ≡ true) ⊎ (is_among x ys ≡ true)
among_parts x xs ys is = or_cases (is_among x xs) (is_among x ys) (sym (any_append (same x) xs ys) ∙ is)

pub among_in : (P : Id → Type 0) (y : Id) (xs : List Id) → All P xs → is_among y xs ≡ true → P y
among_in P y [] all is = cc
among_in P y (x ∷ xs) all is = ⊎_elim
    (λ (h : same y x ≡ true). subst P (sym (same_true y x h)) (All-head P x xs all))
    (λ (n : same y x ≡ false). among_in P y xs (All-tail P x xs all) (rw n at is))
    (cases_Bool (same y x))

pub owned : (y ctx : Id) (holder : Option Id) → is_among y (contexts ctx holder) ≡ true → (y ≡ ctx) ⊎ (holder ≡ Some y)
owned y ctx holder h3 = grind (arith, nat_tests)

pub own_first : (ctx : Id) (holder : Option Id) → is_among ctx (contexts ctx holder) ≡ true
own_first ctx None = among_here ctx []
own_first ctx (Some h) = among_here ctx (h ∷ [])

own_holder : (ctx h : Id) (holder : Option Id) → holder ≡ Some h → is_among h (contexts ctx holder) ≡ true
own_holder ctx h None e = cc
own_holder ctx h (Some x) e = let is : x ≡ h = same_Some x h e in or_right (same h ctx) (is_among h (x ∷ [])) (rw is (among_here h []))

pub twig_among : (P : Twig → Type 0) (y : Id) (ts : List Twig) → All P ts → is_among y (twig_ids ts) ≡ true → (t : Twig) × P t × (y ≡ t.ctx)
twig_among P y [] all is = cc
twig_among P y (t ∷ ts) all is = ⊎_elim
    (λ (h : same y t.ctx ≡ true). (t, All-head P t ts all, same_true y t.ctx h))
    (λ (n : same y t.ctx ≡ false). twig_among P y ts (All-tail P t ts all) (rw n at is))
    (cases_Bool (same y t.ctx))

-- ---- these connections and calls, whose contexts are held

module _ {C V : Type 0} (past : List (Op C V)) (root base : Id) (root_is : held root past ≡ Some Background) (base_is : held base past ≡ Some (Cancel root)) where
  of_parent : (x : Id) (k : Kind C V) (y : Id) (l : Kind C V) → held y past ≡ Some k → held y past ≡ Some l → parent_of k ≡ Some x → parent_of l ≡ Some x
  of_parent x k y l ks ls is = ap parent_of (same_Some l k (sym ls ∙ ks)) ∙ is

  -- what holds of each that is held holds of them
  module _ (P : Id → Type 0) (each : (x : Id) (k : Kind C V) → held x past ≡ Some k → P x) where
    all_of : (l : Life) → IsLife past base l → All P (ids_of l)
    all_of l is = All-append P (contexts l.ctx l.holder) (twig_ids l.twigs) (own l.holder is.holder_is) (twigs l.twigs is.twigs_are)
      where
        ctx_is : P l.ctx
        ctx_is = each l.ctx (kind_of (unwrap_or l.holder l.conn) l.deadline) is.call_is

        own : (holder : Option Id) → IsHolder past l.conn holder → All P (contexts l.ctx holder)
        own None hs = All-cons P l.ctx [] ctx_is (All-nil P)
        own (Some h) hs = All-cons P l.ctx (h ∷ []) ctx_is (All-cons P h [] (each h (Value l.conn 0 hs.0) hs.1) (All-nil P))

        twigs : (ts : List Twig) → All (IsTwig past l.ctx) ts → All P (twig_ids ts)
        twigs [] all = All-nil P
        twigs (t ∷ ts) all = All-cons P t.ctx (twig_ids ts) (each t.ctx (Deadline l.ctx t.at None) (All-head (IsTwig past l.ctx) t ts all)) (twigs ts (All-tail (IsTwig past l.ctx) t ts all))

    all_in : (ls : List Life) → All (IsLife past base) ls → All P (ids_in ls)
    all_in [] all = All-nil P
    all_in (l ∷ ls) all = All-append P (ids_of l) (ids_in ls) (all_of l (All-head (IsLife past base) l ls all)) (all_in ls (All-tail (IsLife past base) l ls all))

    pub each_held : (cs : List Id) (ls : List Life) → All (IsConn base past) cs → All (IsLife past base) ls → All P (all_ids root base cs ls)
    each_held cs ls cs_are ls_are = search (arith, nat_tests, All-cons, All-append, All-weaker, all_in)

  module _ (cs : List Id) (ls : List Life) (cs_are : All (IsConn base past) cs) (ls_are : All (IsLife past base) ls) (known : All (λ l. is_among l.conn cs ≡ true) ls) where
    module _ (x y : Id) (k : Kind C V) (y_is : held y past ≡ Some k) (derives : parent_of k ≡ Some x) where
      -- the parent of one of a call's contexts is its connection's, or one of its contexts
      of_life : (l : Life) → IsLife past base l → is_among l.conn cs ≡ true → is_among y (ids_of l) ≡ true → (is_among x cs ≡ true) ⊎ (is_among x (ids_of l) ≡ true)
      of_life l is conn among = ⊎_elim
          (λ (o : is_among y (contexts l.ctx l.holder) ≡ true). ⊎_elim
          (λ (c : y ≡ l.ctx). by_call l.holder refl (same_Some (unwrap_or l.holder l.conn) x (sym (kind_parent C V (unwrap_or l.holder l.conn) l.deadline)
          ∙ of_parent x k y (kind_of (unwrap_or l.holder l.conn) l.deadline) y_is (subst (λ z. held z past ≡ Some (kind_of (unwrap_or l.holder l.conn) l.deadline)) (sym c) is.call_is) derives)))
          (λ (h : l.holder ≡ Some y). by_holder l.holder is.holder_is h)
          (owned y l.ctx l.holder o))
          (λ (t : is_among y (twig_ids l.twigs) ≡ true).
          let it = twig_among (IsTwig past l.ctx) y l.twigs is.twigs_are t in
          let e : l.ctx ≡ x = same_Some l.ctx x (of_parent x k y (Deadline l.ctx it.0.at None) y_is (subst (λ z. held z past ≡ Some (Deadline l.ctx it.0.at None)) (sym it.2) it.1) derives) in
          inr (subst (λ z. is_among z (ids_of l) ≡ true) e (among_left l.ctx (contexts l.ctx l.holder) (twig_ids l.twigs) (own_first l.ctx l.holder))))
          (among_parts y (contexts l.ctx l.holder) (twig_ids l.twigs) among)
        where
          by_call : (holder : Option Id) → l.holder ≡ holder → unwrap_or holder l.conn ≡ x → (is_among x cs ≡ true) ⊎ (is_among x (ids_of l) ≡ true)
          by_call None h_is e = inl (subst (λ z. is_among z cs ≡ true) e conn)
          by_call (Some h) h_is e = inr (among_left x (contexts l.ctx l.holder) (twig_ids l.twigs) (own_holder l.ctx x l.holder (h_is ∙ ap (λ z. Some z) e)))

          by_holder : (holder : Option Id) → IsHolder past l.conn holder → holder ≡ Some y → (is_among x cs ≡ true) ⊎ (is_among x (ids_of l) ≡ true)
          by_holder None hs h = cc
          by_holder (Some z) hs h =
              let e : l.conn ≡ x = same_Some l.conn x (of_parent x k y (Value l.conn 0 hs.0) y_is (subst (λ w. held w past ≡ Some (Value l.conn 0 hs.0)) (same_Some z y h) hs.1) derives) in
              inl (subst (λ w. is_among w cs ≡ true) e conn)

      of_lives : (ms : List Life) → All (λ l. IsLife past base l × (is_among l.conn cs ≡ true)) ms → is_among y (ids_in ms) ≡ true → (is_among x cs ≡ true) ⊎ (is_among x (ids_in ms) ≡ true)
      of_lives [] all among = cc
      of_lives (m ∷ ms) all among = ⊎_elim
          (λ (here : is_among y (ids_of m) ≡ true).
          let is = All-head (λ l. IsLife past base l × (is_among l.conn cs ≡ true)) m ms all in
          ⊎_elim (λ (c : is_among x cs ≡ true). inl c) (λ (o : is_among x (ids_of m) ≡ true). inr (among_left x (ids_of m) (ids_in ms) o)) (of_life m is.0 is.1 here))
          (λ (there : is_among y (ids_in ms) ≡ true). ⊎_elim (λ (c : is_among x cs ≡ true). inl c) (λ (o : is_among x (ids_in ms) ≡ true). inr (among_right x (ids_of m) (ids_in ms) o))
          (of_lives ms (All-tail (λ l. IsLife past base l × (is_among l.conn cs ≡ true)) m ms all) there))
          (among_parts y (ids_of m) (ids_in ms) among)

      -- one that is kept derives from one that is kept
      pub parent_kept : is_among y (all_ids root base cs ls) ≡ true → is_among x (all_ids root base cs ls) ≡ true
      parent_kept among = ⊎_elim
          (λ (r : same y root ≡ true).
          let bad : parent_of {C = C} {V = V} Background ≡ Some x = of_parent x k y Background y_is (subst (λ z. held z past ≡ Some Background) (sym (same_true y root r)) root_is) derives in
          cc)
          (λ (rest : is_among y (base ∷ cs ++ ids_in ls) ≡ true). ⊎_elim
          (λ (b : same y base ≡ true).
          let e : root ≡ x = same_Some root x (of_parent x k y (Cancel root) y_is (subst (λ z. held z past ≡ Some (Cancel root)) (sym (same_true y base b)) base_is) derives) in
          subst (λ z. is_among z (root ∷ base ∷ cs ++ ids_in ls) ≡ true) e (among_here root (base ∷ cs ++ ids_in ls)))
          (λ (more : is_among y (cs ++ ids_in ls) ≡ true). ⊎_elim
          (λ (c : is_among y cs ≡ true).
          let e : base ≡ x = same_Some base x (of_parent x k y (Cancel base) y_is (among_in (IsConn base past) y cs cs_are c) derives) in
          subst (λ z. is_among z (root ∷ base ∷ cs ++ ids_in ls) ≡ true) e (or_right (same base root) (is_among base (base ∷ cs ++ ids_in ls)) (among_here base (cs ++ ids_in ls))))
          (λ (o : is_among y (ids_in ls) ≡ true). deep (⊎_elim
          (λ (c : is_among x cs ≡ true). among_left x cs (ids_in ls) c)
          (λ (i : is_among x (ids_in ls) ≡ true). among_right x cs (ids_in ls) i)
          (of_lives ls (both_all (IsLife past base) (λ l. is_among l.conn cs ≡ true) ls ls_are known) o)))
          (among_parts y cs (ids_in ls) more))
          (or_cases (same y base) (is_among y (cs ++ ids_in ls)) rest))
          (or_cases (same y root) (is_among y (base ∷ cs ++ ids_in ls)) among)
        where
          deep : is_among x (cs ++ ids_in ls) ≡ true → is_among x (root ∷ base ∷ cs ++ ids_in ls) ≡ true
          deep i = or_right (same x root) (is_among x (base ∷ cs ++ ids_in ls)) (or_right (same x base) (is_among x (cs ++ ids_in ls)) i)

-- ---- those that go have no children

module _ {C V H : Type 0} {f : AfterFuncs H} {base : Id} {conns : List Id} {calls : List Life} {old : TreeValue C V} (s : IsSound old f base conns calls)
    (cs : List Id) (ls : List Life) (cs_are : All (IsConn base s.past) cs) (ls_are : All (IsLife s.past base) ls) (known : All (λ l. is_among l.conn cs ≡ true) ls)
    (ms : List Id) (parts : (y : Id) → is_among y ms ≡ false → is_among y (all_ids s.root base cs ls) ≡ false → is_among y (all_ids s.root base conns calls) ≡ false) where
  -- where none of those that go with it derives from it
  pub childless : (x : Id) → is_among x (all_ids s.root base cs ls) ≡ false → (y : Id) (k : Kind C V) → held y s.past ≡ Some k → parent_of k ≡ Some x → (is_among y ms ≡ true → ⊥) → ⊥
  childless x gone y k y_is derives other = grind (arith, nat_tests, not_both, parent_kept)
