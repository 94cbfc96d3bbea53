-- Lists of which no two are alike, and what is the same in two words.
use Rattle.gateway_replies.proofs.Names.{◌≡◌, ℕ, refl, ap, ◌∙◌, List, [], ◌∷◌, ◌++◌, Option, Some, None, Bool, true, false, ⊎_elim, map, arith, rules, ◌||◌, filter, list_any, option_or, cases_Bool, or_parts, Id, same, ends_branch, if_due, CallContext, by_deadline, NoTwo, TimedBranch, same_id, same_context, sym_eqb, nat_tests}
use Rattle.std.proofs.lemmas.List.Folds.{list_any-append}

any_kept : {A : Type 0} (p q : A → Bool) (xs : List A) → list_any p xs ≡ false → list_any p (filter q xs) ≡ false
any_kept p q [] is = refl
any_kept p q (x ∷ xs) is =
    let two = or_parts (p x) (list_any p xs) is in
    ⊎_elim
    (λ (y : q x ≡ true). rw (y, two.0) (any_kept p q xs two.1))
    (λ (n : q x ≡ false). rw n (any_kept p q xs two.1))
    (cases_Bool (q x))

pub any_map : {A B : Type 0} (p : B → Bool) (f : A → B) (xs : List A) → list_any p (map f xs) ≡ list_any (λ x. p (f x)) xs
any_map p f [] = refl
any_map p f (x ∷ xs) = ap (λ b. p (f x) || b) (any_map p f xs)

pub no_two_kept : {A : Type 0} (r : A → A → Bool) (q : A → Bool) (xs : List A) → NoTwo r xs → NoTwo r (filter q xs)
no_two_kept r q [] all = tt
no_two_kept r q (x ∷ xs) all = grind (arith, nat_tests, no_two_kept r q xs all.1, any_kept)

pub filter_map_both : {A B : Type 0} (p : B → Bool) (f : A → B) (xs : List A) → map f (filter (λ x. p (f x)) xs) ≡ filter p (map f xs)
filter_map_both p f [] = refl
filter_map_both p f (x ∷ xs) = grind (arith, filter_map_both p f xs)

pub no_two_pushed : {A : Type 0} (r : A → A → Bool) → ((x y : A) → r x y ≡ r y x) → (xs : List A) (x : A) → NoTwo r xs → list_any (r x) xs ≡ false → NoTwo r (xs ++ x ∷ [])
no_two_pushed r turned [] x all none = (refl, tt)
no_two_pushed r turned (y ∷ ys) x all none =
    let two = or_parts (r x y) (list_any (r x) ys) none in
    (list_any-append (r y) ys (x ∷ []) ∙ rw (all.0, turned y x, two.0) refl, no_two_pushed r turned ys x all.1 two.1)

pub same_true : (x y : Id) → same x y ≡ true → x ≡ y
same_true x y is = grind (arith, rules)

pub same_itself : (x : Id) → same x x ≡ true
same_itself x = grind (arith, rules)

pub same_turned : (x y : Id) → same x y ≡ same y x
same_turned x y = grind (arith, rules)

pub context_turned : (p q : ℕ × Id) → same_context p q ≡ same_context q p
context_turned p q = grind (arith, rules)

pub call_turned : {V : Type 0} (c d : CallContext V) → same_id c d ≡ same_id d c
call_turned c d = rw (sym_eqb d.name.conn c.name.conn, sym_eqb d.name.request c.name.request) refl

-- a deadline ends what it does in both words
pub due_same : (now : ℕ) (deadline : Option ℕ) → if_due now deadline ≡ by_deadline now deadline
due_same now None = refl
due_same now (Some at) = refl

-- what had ended stays so
pub or_nothing : {A : Type 0} (o : Option A) → option_or o None ≡ o
or_nothing None = refl
or_nothing (Some a) = refl

-- a cancel that does not reach branches leaves them
pub branches_stay : (bs : List TimedBranch) → map (ends_branch None) bs ≡ bs
branches_stay [] = refl
branches_stay (b ∷ bs) = ap (λ e. record { branch = b.branch; deadline = b.deadline; ended = e } ∷ map (ends_branch None) bs) (or_nothing b.ended) ∙ ap (λ xs. b ∷ xs) (branches_stay bs)
