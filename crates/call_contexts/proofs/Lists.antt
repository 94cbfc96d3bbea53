-- Lists of calls and of connections.
use Rattle.call_contexts.proofs.Names.{◌≡◌, refl, sym, ap, ◌∙◌, List, [], ◌∷◌, ◌++◌, Some, None, Bool, true, false, ⊎_elim, subst, arith, ◌||◌, not, map, filter, All, Result, Ok, Err, IfOk, OnOk, OnErr, IsErrAnd, is_err, list_any, cases_Bool, or_left, or_parts, or_right, All-nil, All-cons, All-head, All-tail, same_Some, Id, same, CallId, Life, same_ctx, life_at, life_for}
use Rattle.gateway_model.specs.Past.{is_call}
use Rattle.call_contexts.proofs.Trees.{same_true}

pub any_map : {A B : Type 0} (p : B → Bool) (f : A → B) (xs : List A) → list_any p (map f xs) ≡ list_any (λ x. p (f x)) xs
any_map p f [] = refl
any_map p f (x ∷ xs) = ap (λ b. p (f x) || b) (any_map p f xs)

pub all_stay : {A : Type 0} (p : A → Bool) (xs : List A) → list_any p xs ≡ false → filter (λ x. not (p x)) xs ≡ xs
all_stay p [] is = refl
all_stay p (x ∷ xs) is =
    let two = or_parts (p x) (list_any p xs) is in
    rw two.0 (ap (λ l. x ∷ l) (all_stay p xs two.1))

pub all_none : {A : Type 0} (p : A → Bool) (xs : List A) → list_any p xs ≡ false → All (λ x. p x ≡ false) xs
all_none p [] is = All-nil (λ x. p x ≡ false)
all_none p (x ∷ xs) is = let two = or_parts (p x) (list_any p xs) is in All-cons (λ x. p x ≡ false) x xs two.0 (all_none p xs two.1)

pub both_all : {A : Type 0} (P Q : A → Type 0) (xs : List A) → All P xs → All Q xs → All (λ x. P x × Q x) xs
both_all P Q [] ps qs = All-nil (λ x. P x × Q x)
both_all P Q (x ∷ xs) ps qs = All-cons (λ x. P x × Q x) x xs (All-head P x xs ps, All-head Q x xs qs) (both_all P Q xs (All-tail P x xs ps) (All-tail Q x xs qs))

-- one of these passes a test; what else it passes, one of these does
pub picked : {A : Type 0} (P : A → Type 0) (p : A → Bool) (xs : List A) → All P xs → list_any p xs ≡ true
    → (a : A) × P a × (p a ≡ true) × ((q : A → Bool) → q a ≡ true → list_any q xs ≡ true)
picked P p [] all is = cc
picked P p (x ∷ xs) all is = ⊎_elim
    (λ (y : p x ≡ true). (x, All-head P x xs all, y, λ q here. or_left (q x) (list_any q xs) here))
    (λ (n : p x ≡ false).
    let rest = picked P p xs (All-tail P x xs all) (rw n at is) in
    (rest.0, rest.1, rest.2, λ q here. or_right (q x) (list_any q xs) (rest.3 q here)))
    (cases_Bool (p x))

-- ---- no two

pub unmapped : {A B : Type 0} (P : B → Type 0) (f : A → B) (ls : List A) → All P (map f ls) → All (λ l. P (f l)) ls
unmapped P f [] all = All-nil (λ l. P (f l))
unmapped P f (l ∷ ls) all = All-cons (λ l. P (f l)) l ls (All-head P (f l) (map f ls) all) (unmapped P f ls (All-tail P (f l) (map f ls) all))

pub map_same : {A B : Type 0} (g : A → B) (f : A → A) (ls : List A) → ((l : A) → g l ≡ g (f l)) → map g ls ≡ map g (map f ls)
map_same g f [] same_there = refl
map_same g f (l ∷ ls) same_there = ap (λ x. x ∷ map g ls) (same_there l) ∙ ap (λ xs. g (f l) ∷ xs) (map_same g f ls same_there)

-- one more, behind a list by another name
pub pushed_on : (l : Life) (ls mid new : List Life) → new ≡ mid ++ l ∷ [] → mid ≡ ls → new ≡ ls ++ l ∷ []
pushed_on l ls mid new to same_there = to ∙ ap (λ ks. ks ++ l ∷ []) same_there

-- what an answer is
pub by_answer : {T E P Q R G : Type 0} (r : Result T E) → IfOk r (λ _. P) → OnErr r Q → OnErr r R → (P → G) → (Q → R → G) → G
by_answer (Ok a) p q r ok err = ok p
by_answer (Err e) p q r ok err = err q r

pub if_ok : {T E P G : Type 0} (r : Result T E) → IfOk r (λ _. P) → (P → G) → IfOk r (λ _. G)
if_ok (Ok a) p ok = ok p
if_ok (Err e) p ok = tt

pub on_err : {T E Q R G : Type 0} (r : Result T E) → OnErr r Q → OnErr r R → (Q → R → G) → OnErr r G
on_err (Ok a) q r err = tt
on_err (Err e) q r err = err q r

pub unless_err : {T E P : Type 0} (r : Result T E) → is_err r ≡ false → OnOk r P → P
unless_err (Ok a) is p = p
unless_err (Err e) is p = cc

pub once_err : {T E P : Type 0} (r : Result T E) → is_err r ≡ true → OnErr r P → P
once_err (Ok a) is p = cc
once_err (Err e) is p = p

pub none_ok : {T E : Type 0} (P : T → Type 0) (Q : E → Type 0) (r : Result T E) → IsErrAnd r Q → IfOk r P
none_ok P Q (Ok a) none = absurd none
none_ok P Q (Err e) none = tt

pub err_if : {T E P : Type 0} (r : Result T E) → P → OnErr r P
err_if (Ok a) p = tt
err_if (Err e) p = p

-- ---- the call of an id, and of a context

pub found_for : (P : Life → Type 0) (id : CallId) (l : Life) (ls : List Life) → All P ls → life_for id ls ≡ Some l → P l
found_for P id l [] all is = cc
found_for P id l (m ∷ ms) all is = ⊎_elim
    (λ (y : is_call m.id id ≡ true). subst P (same_Some m l (rw y at is)) (All-head P m ms all))
    (λ (n : is_call m.id id ≡ false). found_for P id l ms (All-tail P m ms all) (rw n at is))
    (cases_Bool (is_call m.id id))

module _ (id : Id) where
  pub found_in : (P : Life → Type 0) (l : Life) (ls : List Life) → All P ls → life_at id ls ≡ Some l → P l × (l.ctx ≡ id)
  found_in P l [] all is = cc
  found_in P l (m ∷ ms) all is = ⊎_elim
      (λ (y : same m.ctx id ≡ true).
      let e : m ≡ l = same_Some m l (rw y at is) in
      (subst P e (All-head P m ms all), ap (λ (k : Life). k.ctx) (sym e) ∙ same_true m.ctx id y))
      (λ (n : same m.ctx id ≡ false). found_in P l ms (All-tail P m ms all) (rw n at is))
      (cases_Bool (same m.ctx id))

  pub found_any : (l : Life) (ls : List Life) → life_at id ls ≡ Some l → list_any (λ m. same m.ctx id) ls ≡ true
  found_any l [] is = cc
  found_any l (m ∷ ms) is = grind (arith, found_any l ms)

  pub none_found : (ls : List Life) → life_at id ls ≡ None → list_any (λ m. same m.ctx id) ls ≡ false
  none_found [] is = refl
  none_found (m ∷ ms) is = grind (arith, none_found ms)

  -- the others of different contexts
  pub gone_first : (m : Life) (ms : List Life) → list_any (same_ctx m) ms ≡ false → same m.ctx id ≡ true → list_any (λ k. same k.ctx id) ms ≡ false
  gone_first m ms none y = subst (λ x. list_any (λ (k : Life). same k.ctx x) ms ≡ false) (same_true m.ctx id y) none
