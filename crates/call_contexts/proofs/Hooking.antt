-- The hooks of calls, which stand as the calls do.
use Rattle.call_contexts.proofs.Names.{◌≡◌, refl, sym, ap, ◌∙◌, arith, ℕ, ◌<◌, suc, List, [], ◌∷◌, ◌++◌, drop, Option, Some, Bool, true, false, ⊎_elim, subst, nat_eq, is_some, not, map, filter, All, Result, Ok, Err, IfErr, ◌^◌, ◌≤◌, IfSome, list_any, AllPairs, cases_Bool, eqb-true, map-append, All-nil, All-cons, All-head, All-tail, All-map, All-from_get_or, same_Some, Id, same, AfterFuncs, Operation, AfterFunc, Fire, RunNext, Stop, registered, waiting, due, is_on, IsAnswerOfFirst, Life, Standing, WithHooks, with_hook, with_standing, Slots, on_ctx, hook_for, seen_call, hook_of, kept_of, life_at, NoTwo, same_ctx, Rising, nat_tests}
use Rattle.std.proofs.Common.{eq-eqb}
use Rattle.std.proofs.lemmas.Bool.{cases_lt}
use Rattle.std.specs.declared.alloc.AllocError.{AllocError}
use Rattle.after_funcs.specs.declared.registration.Registration.{Registration}
use Rattle.after_funcs.specs.Stands.{StandsFor as HooksStand}
use Rattle.call_contexts.proofs.Trees.{same_true}
use Rattle.call_contexts.proofs.Lists.{any_map, all_stay, unmapped}

pub pair_is : {C V H : Type 0} (v w : WithHooks C V H) → v.standing ≡ w.standing → v.hooks ≡ w.hooks → v ≡ w
pair_is v w l h = ap (λ x. record { standing = x; hooks = v.hooks }) l ∙ ap (λ x. record { standing = w.standing; hooks = x }) h

-- what stands changes so, and the hooks stay
pub standing_is : {C V H : Type 0} {u v w : WithHooks C V H} (turn : Standing C V → Standing C V) → v ≡ w → u.standing ≡ turn v.standing → u.hooks ≡ v.hooks → u ≡ with_standing (turn w.standing) w
standing_is {u = u} {v = v} {w = w} turn is stands hooks = pair_is u (with_standing (turn w.standing) w) (stands ∙ ap (λ x. turn x.standing) is) (hooks ∙ ap (λ x. x.hooks) is)

-- what stands changes so, and a hook more waits
pub hooked_is : {C V H : Type 0} {u v w : WithHooks C V H} (turn : Standing C V → Standing C V) (ctx : Id) (hook : H) → v ≡ w → u.standing ≡ turn v.standing
    → u.hooks ≡ v.hooks ++ (ctx, hook) ∷ [] → u ≡ with_hook ctx hook (turn w.standing) w
hooked_is {u = u} {w = w} turn ctx hook is stands hooks =
    pair_is u (with_hook ctx hook (turn w.standing) w) (stands ∙ ap (λ x. turn x.standing) is) (hooks ∙ ap (λ x. x.hooks ++ (ctx, hook) ∷ []) is)

pub filter_map_swap : {A B : Type 0} (f : A → B) (p : B → Bool) (xs : List A) → filter p (map f xs) ≡ map f (filter (λ x. p (f x)) xs)
filter_map_swap f p [] = refl
filter_map_swap f p (x ∷ xs) = grind (arith, filter_map_swap f p xs)

-- lists of equal pictures have equal pictures after a filter that reads the picture
filters_alike : {A B C : Type 0} (f : A → C) (g : B → C) (p : C → Bool) (xs : List A) (ys : List B) → map f xs ≡ map g ys
    → map f (filter (λ x. p (f x)) xs) ≡ map g (filter (λ y. p (g y)) ys)
filters_alike f g p xs ys is = sym (filter_map_swap f p xs) ∙ ap (filter p) is ∙ filter_map_swap g p ys

filters_agree : {A : Type 0} (p q : A → Bool) (xs : List A) → All (λ x. p x ≡ q x) xs → filter (λ x. not (p x)) xs ≡ filter (λ x. not (q x)) xs
filters_agree p q [] all = refl
filters_agree p q (x ∷ xs) all =
    let here : p x ≡ q x = All-head (λ y. p y ≡ q y) x xs all in
    let rest = filters_agree p q xs (All-tail (λ y. p y ≡ q y) x xs all) in
    ⊎_elim
    (λ (y : q x ≡ true). rw (here, y) rest)
    (λ (n : q x ≡ false). rw (here, n) (ap (λ l. x ∷ l) rest))
    (cases_Bool (q x))

pub map_nil : {A B : Type 0} (f : A → B) (xs : List A) → map f xs ≡ [] → xs ≡ []
map_nil f [] is = refl
map_nil f (x ∷ xs) is = cc

map_drop_one : {A B : Type 0} (f : A → B) (xs : List A) → map f (drop 1 xs) ≡ drop 1 (map f xs)
map_drop_one f [] = refl
map_drop_one f (x ∷ xs) = refl

pub map_twice : {A B C : Type 0} (f : B → C) (g : A → B) (xs : List A) → map f (map g xs) ≡ map (λ x. f (g x)) xs
map_twice f g [] = refl
map_twice f g (x ∷ xs) = ap (λ l. f (g x) ∷ l) (map_twice f g xs)

-- the hook that is refused comes back, for whatever it was refused
pub refused_back : {T H E : Type 0} (n : ℕ) (h : H) (full memory : E) (x : H × E) (r : Result T (H × E)) → r ≡ Err x → (2 ^ 62 ≤ n → r ≡ Err (h, full))
    → (n < 2 ^ 62 → IfErr r (λ y. y ≡ (h, memory))) → x.0 ≡ h
refused_back {T} {H} {E} n h full memory x r is more less = ⊎_elim (λ lt. ap (λ (y : H × E). y.0) (rw is at (less lt))) (λ le. ap back (sym is ∙ more le)) (cases_lt n (2 ^ 62))
  where
    back : Result T (H × E) → H
    back (Ok a) = h
    back (Err y) = y.0

-- ---- the one call of a context

none_left : (id : Id) (ls : List Life) → list_any (λ m. same m.ctx id) ls ≡ false → filter (λ m. same m.ctx id) ls ≡ []
none_left id [] is = refl
none_left id (l ∷ ls) is = grind (arith, none_left id ls)

one_left : (id : Id) (ls : List Life) → NoTwo same_ctx ls → drop 1 (filter (λ m. same m.ctx id) ls) ≡ []
one_left id [] all = refl
one_left id (l ∷ ls) all = grind (arith, nat_tests, one_left id ls all.1, none_left, same_true)

some_left : (id : Id) (ls : List Life) → list_any (λ m. same m.ctx id) ls ≡ true → filter (λ m. same m.ctx id) ls ≡ [] → ⊥
some_left id [] is none = cc
some_left id (l ∷ ls) is none = grind (arith, some_left id ls)

module _ {H : Type 0} (id : Id) (hooks : List (Operation H)) (calls : List Life) (waits : map hook_of (waiting hooks) ≡ map kept_of calls) (none : due hooks ≡ []) (distinct : NoTwo same_ctx calls) where
  pub fired_waits : map hook_of (waiting (RunNext ∷ Fire id ∷ hooks)) ≡ map kept_of (filter (λ l. not (same l.ctx id)) calls)
  fired_waits = filters_alike hook_of kept_of (λ (p : ℕ × Id). not (same p.1 id)) (waiting hooks) calls waits

  those_on : map hook_of (filter (is_on id) (waiting hooks)) ≡ map kept_of (filter (λ l. same l.ctx id) calls)
  those_on = filters_alike hook_of kept_of (λ (p : ℕ × Id). same p.1 id) (waiting hooks) calls waits

  due_is : due (Fire id ∷ hooks) ≡ filter (is_on id) (waiting hooks)
  due_is = ap (λ ds. ds ++ filter (is_on id) (waiting hooks)) none

  pub fired_due : due (RunNext ∷ Fire id ∷ hooks) ≡ []
  fired_due = map_nil hook_of _ (map_drop_one hook_of (due (Fire id ∷ hooks)) ∙ ap (λ ds. drop 1 (map hook_of ds)) due_is ∙ ap (drop 1) those_on ∙ sym (map_drop_one kept_of (filter (λ l. same l.ctx id) calls)) ∙ ap (map kept_of) (one_left id calls distinct))

  pub fired_answer : {E O : Type 0} (gives : H → E → Result O AllocError → Type 0) (event : E) (answer : Option (ℕ × Result O AllocError))
      → IsAnswerOfFirst gives event (due (Fire id ∷ hooks)) answer → list_any (λ m. same m.ctx id) calls ≡ true → is_some answer ≡ true
  fired_answer {O = O} gives event answer is any = grind (arith, nat_tests, some_left, map_nil, those_on, due_is)

-- ---- the hook that is stopped

above : {H : Type 0} (n : ℕ) (ss : List (Registration H)) → All (λ s. n < s.id) ss → All (λ m. n < m) (map (λ s. s.id) ss)
above n [] a = All-nil (λ m. n < m)
above n (s ∷ ss) a = All-cons (λ m. n < m) s.id (map (λ s. s.id) ss) (All-head (λ s. n < s.id) s ss a) (above n ss (All-tail (λ s. n < s.id) s ss a))

rising_of : {H : Type 0} (rs : List (Registration H)) → AllPairs (λ r s. r.id < s.id) rs → Rising (map (λ r. r.id) rs)
rising_of [] all = tt
rising_of (r ∷ rs) all = (
  above r.id rs (All-from_get_or (λ s. r.id < s.id) rs r (λ i low. all 0 (suc i) r (omega arith) (omega (arith, low)))),
  rising_of rs (λ i j d lt low. all (suc i) (suc j) d (omega (arith, lt)) (omega (arith, low))),
)

unnamed : (a h : ℕ) → a < h → nat_eq a h ≡ false
unnamed a h lt = ⊎_elim (λ (y : nat_eq a h ≡ true). let e : a ≡ h = eqb-true a h y in absurd (omega (arith, lt, e))) (λ (n : nat_eq a h ≡ false). n) (cases_Bool (nat_eq a h))

unnamed' : (a h : ℕ) → h < a → nat_eq a h ≡ false
unnamed' a h lt = ⊎_elim (λ (y : nat_eq a h ≡ true). let e : a ≡ h = eqb-true a h y in absurd (omega (arith, lt, e))) (λ (n : nat_eq a h ≡ false). n) (cases_Bool (nat_eq a h))

numbers : {H : Type 0} (hooks : List (Operation H)) (calls : List Life) → map hook_of (waiting hooks) ≡ map kept_of calls → map (λ r. r.id) (waiting hooks) ≡ map (λ l. l.hook) calls
numbers hooks calls waits = sym (map_twice (λ (p : ℕ × Id). p.0) hook_of (waiting hooks)) ∙ ap (map (λ (p : ℕ × Id). p.0)) waits ∙ map_twice (λ (p : ℕ × Id). p.0) kept_of calls

module _ (id : Id) where
  hook_above : (n : ℕ) (l : Life) (ls : List Life) → All (λ m. n < m) (map (λ l. l.hook) ls) → life_at id ls ≡ Some l → n < l.hook
  hook_above n l [] all is = cc
  hook_above n l (m ∷ ms) all is = ⊎_elim
      (λ (y : same m.ctx id ≡ true). let e : m ≡ l = same_Some m l (rw y at is) in subst (λ (k : Life). n < k.hook) e (All-head (λ m. n < m) m.hook (map (λ l. l.hook) ms) all))
      (λ (o : same m.ctx id ≡ false). hook_above n l ms (All-tail (λ m. n < m) m.hook (map (λ l. l.hook) ms) all) (rw o at is))
      (cases_Bool (same m.ctx id))

  rest_apart : (h : ℕ) (ls : List Life) → All (λ m. h < m) (map (λ l. l.hook) ls) → list_any (λ m. same m.ctx id) ls ≡ false → All (λ l. nat_eq l.hook h ≡ same l.ctx id) ls
  rest_apart h [] low none = All-nil (λ l. nat_eq l.hook h ≡ same l.ctx id)
  rest_apart h (l ∷ ls) low none = ⊎_elim
      (λ (y : same l.ctx id ≡ true). let bad : true ≡ false = rw y at none in cc)
      (λ (n : same l.ctx id ≡ false). All-cons (λ l. nat_eq l.hook h ≡ same l.ctx id) l ls (unnamed' l.hook h (All-head (λ m. h < m) l.hook (map (λ l. l.hook) ls) low) ∙ sym n)
      (rest_apart h ls (All-tail (λ m. h < m) l.hook (map (λ l. l.hook) ls) low) (rw n at none)))
      (cases_Bool (same l.ctx id))

  -- a call has that hook where it has that context
  all_agree : (k : Life) (ls : List Life) → Rising (map (λ l. l.hook) ls) → NoTwo same_ctx ls → life_at id ls ≡ Some k → All (λ l. nat_eq l.hook k.hook ≡ same l.ctx id) ls
  all_agree k [] rising distinct is = All-nil (λ l. nat_eq l.hook k.hook ≡ same l.ctx id)
  all_agree k (l ∷ ls) rising distinct is = ⊎_elim
      (λ (y : same l.ctx id ≡ true).
      let e : l.hook ≡ k.hook = ap (λ (m : Life). m.hook) (same_Some l k (rw y at is)) in
      All-cons (λ l. nat_eq l.hook k.hook ≡ same l.ctx id) l ls (eq-eqb l.hook k.hook e ∙ sym y)
      (rest_apart k.hook ls (subst (λ n. All (λ m. n < m) (map (λ l. l.hook) ls)) e rising.0) (subst (λ x. list_any (λ (m : Life). same m.ctx x) ls ≡ false) (same_true l.ctx id y) distinct.0)))
      (λ (o : same l.ctx id ≡ false). All-cons (λ l. nat_eq l.hook k.hook ≡ same l.ctx id) l ls (unnamed l.hook k.hook (hook_above l.hook k ls rising.0 (rw o at is)) ∙ sym o)
      (all_agree k ls rising.1 distinct.1 (rw o at is)))
      (cases_Bool (same l.ctx id))

  module _ {H : Type 0} (k : Life) (hooks : List (Operation H)) (calls : List Life) (pairs : AllPairs (λ r s. r.id < s.id) (waiting hooks)) (waits : map hook_of (waiting hooks) ≡ map kept_of calls)
      (distinct : NoTwo same_ctx calls) (is : life_at id calls ≡ Some k) where
    -- to stop the hook of a call is to take those of its context
    stopped_is : waiting (Stop k.hook ∷ hooks) ≡ filter (λ r. not (same r.ctx id)) (waiting hooks)
    stopped_is =
        let P : ℕ × Id → Type 0 = λ p. nat_eq p.0 k.hook ≡ same p.1 id in
        let on_calls : All P (map kept_of calls) = All-map P kept_of calls (all_agree k calls (subst Rising (numbers hooks calls waits) (rising_of (waiting hooks) pairs)) distinct is) in
        let on_hooks : All (λ r. nat_eq r.id k.hook ≡ same r.ctx id) (waiting hooks) = unmapped P hook_of (waiting hooks) (subst (All P) (sym waits) on_calls) in
        filters_agree (λ r. nat_eq r.id k.hook) (λ r. same r.ctx id) (waiting hooks) on_hooks

    pub stopped_waits : map hook_of (waiting (Stop k.hook ∷ hooks)) ≡ map kept_of (filter (λ l. not (same l.ctx id)) calls)
    stopped_waits = ap (map hook_of) stopped_is ∙ filters_alike hook_of kept_of (λ (p : ℕ × Id). not (same p.1 id)) (waiting hooks) calls waits

    pub stopped_hooks : (f f' : AfterFuncs H) → HooksStand f hooks → HooksStand f' (Stop k.hook ∷ hooks) → map on_ctx f'.waiting.items ≡ filter (λ p. not (same p.0 id)) (map on_ctx f.waiting.items)
    stopped_hooks f f' hs now = ap (map on_ctx) (now.waiting_is ∙ stopped_is) ∙ sym (filter_map_swap on_ctx (λ p. not (same p.0 id)) (waiting hooks))
        ∙ ap (λ rs. filter (λ p. not (same p.0 id)) (map on_ctx rs)) (sym hs.waiting_is)

-- ---- the hooks that are seen

module _ {H : Type 0} (f f' : AfterFuncs H) (hooks : List (Operation H)) (hs : HooksStand f hooks) where
  pub kept_hooks : HooksStand f' hooks → map on_ctx f'.waiting.items ≡ map on_ctx f.waiting.items
  kept_hooks now = ap (map on_ctx) (now.waiting_is ∙ sym hs.waiting_is)

  pub more_hooks : (ctx : Id) (hook : H) → HooksStand f' (AfterFunc ctx false hook ∷ hooks) → map on_ctx f'.waiting.items ≡ map on_ctx f.waiting.items ++ (ctx, hook) ∷ []
  more_hooks ctx hook now = ap (map on_ctx) now.waiting_is ∙ map-append on_ctx (waiting hooks) (record { id = registered hooks; ctx = ctx; hook = hook } ∷ [])
      ∙ ap (λ rs. map on_ctx rs ++ (ctx, hook) ∷ []) (sym hs.waiting_is)

  pub fewer_hooks : (id : Id) → HooksStand f' (RunNext ∷ Fire id ∷ hooks) → map on_ctx f'.waiting.items ≡ filter (λ p. not (same p.0 id)) (map on_ctx f.waiting.items)
  fewer_hooks id now = ap (map on_ctx) now.waiting_is ∙ sym (filter_map_swap on_ctx (λ p. not (same p.0 id)) (waiting hooks))
      ∙ ap (λ rs. filter (λ p. not (same p.0 id)) (map on_ctx rs)) (sym hs.waiting_is)

-- the hooks are those of the calls, in their order
pub hooks_of_calls : {C V H : Type 0} (slots : Slots C V) (f : AfterFuncs H) (hooks : List (Operation H)) (hs : HooksStand f hooks) (calls : List Life) → map hook_of (waiting hooks) ≡ map kept_of calls
    → map (λ p. p.0) (map on_ctx f.waiting.items) ≡ map (λ c. c.id) (map (seen_call slots) calls)
hooks_of_calls slots f hooks hs calls waits =
    map_twice (λ p. p.0) on_ctx f.waiting.items ∙ ap (map (λ r. r.ctx)) hs.waiting_is ∙ sym (map_twice (λ (p : ℕ × Id). p.1) hook_of (waiting hooks)) ∙ ap (map (λ (p : ℕ × Id). p.1)) waits
    ∙ map_twice (λ (p : ℕ × Id). p.1) kept_of calls ∙ sym (map_twice (λ c. c.id) (seen_call slots) calls)

-- where no call has that context, no hook has it
pub no_hook_gone : {H : Type 0} (f : AfterFuncs H) (hooks : List (Operation H)) (hs : HooksStand f hooks) (id : Id) (calls : List Life) → map hook_of (waiting hooks) ≡ map kept_of calls → list_any (λ l. same l.ctx id) calls ≡ false
    → map on_ctx f.waiting.items ≡ filter (λ p. not (same p.0 id)) (map on_ctx f.waiting.items)
no_hook_gone f hooks hs id calls waits none =
    let on_hooks : list_any (λ (p : ℕ × Id). same p.1 id) (map hook_of (waiting hooks)) ≡ false = ap (list_any (λ (p : ℕ × Id). same p.1 id)) waits ∙ any_map (λ (p : ℕ × Id). same p.1 id) kept_of calls ∙ none in
    sym (all_stay (λ p. same p.0 id) (map on_ctx f.waiting.items)
    (any_map (λ p. same p.0 id) on_ctx f.waiting.items ∙ ap (list_any (λ r. same r.ctx id)) hs.waiting_is ∙ sym (any_map (λ (p : ℕ × Id). same p.1 id) hook_of (waiting hooks)) ∙ on_hooks))

-- the hook that is called is that of the call
module _ {H E O : Type 0} (gives : H → E → Result O AllocError → Type 0) (event : E) (id : Id) (h : H) where
  first_gives : (rs : List (Registration H)) (answer : Option (ℕ × Result O AllocError)) → hook_for id (map on_ctx rs) ≡ Some h → IsAnswerOfFirst gives event (filter (is_on id) rs) answer → IfSome answer (λ ran. gives h event ran.1)
  first_gives [] answer is of = cc
  first_gives (r ∷ rs) answer is of = grind (arith, first_gives rs answer)

  pub fired_gives : (f : AfterFuncs H) (hooks : List (Operation H)) → HooksStand f hooks → due hooks ≡ [] → (answer : Option (ℕ × Result O AllocError)) → hook_for id (map on_ctx f.waiting.items) ≡ Some h
      → IsAnswerOfFirst gives event (due (Fire id ∷ hooks)) answer → IfSome answer (λ ran. gives h event ran.1)
  fired_gives f hooks hs none answer is of = grind (arith, nat_tests, first_gives)
