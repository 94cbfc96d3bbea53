-- Contexts that are all different, as some come among them and some go.
use Rattle.call_contexts.proofs.Names.{◌≡◌, refl, sym, ap, ◌∙◌, List, [], ◌∷◌, ◌++◌, None, Some, true, false, ⊎_elim, append_assoc, arith, not, map, filter, All, list_any, list_any-append as any_append, list_any_none as none_any, cases_Bool, or_parts, All-nil, All-append, All-cons, All-head, All-tail, All-weaker, same_Some, Id, same, is_among, Life, Twig, Distinct, NoTwo, contexts, ids_in, ids_of, life_at, same_ctx, twig_ids, with_twigs, nat_tests}
use Rattle.call_contexts.proofs.Branches.{others_still}
use Rattle.call_contexts.proofs.Family.{among_in, among_right, own_first}
use Rattle.call_contexts.proofs.Lists.{all_none, any_map, all_stay, both_all, gone_first}
use Rattle.call_contexts.proofs.Trees.{not_both, same_true, same_turned}

-- none of these is among those
abbrev pub Far : List Id → List Id → Type 0
Far xs ys = All (λ x. is_among x ys ≡ false) xs

pub all_parts : {A : Type 0} (P : A → Type 0) (xs ys : List A) → All P (xs ++ ys) → All P xs × All P ys
all_parts P [] ys all = (All-nil P, all)
all_parts P (x ∷ xs) ys all = let rest = all_parts P xs ys (All-tail P x (xs ++ ys) all) in (All-cons P x xs (All-head P x (xs ++ ys) all) rest.0, rest.1)

pub far_parts : (x : Id) (xs ys : List Id) → is_among x (xs ++ ys) ≡ false → (is_among x xs ≡ false) × (is_among x ys ≡ false)
far_parts x xs ys none = or_parts (is_among x xs) (is_among x ys) (sym (any_append (same x) xs ys) ∙ none)

pub far_both : (x : Id) (xs ys : List Id) → is_among x xs ≡ false → is_among x ys ≡ false → is_among x (xs ++ ys) ≡ false
far_both x xs ys a b = any_append (same x) xs ys ∙ rw (a, b) refl

pub far_turned : (xs ys : List Id) → Far xs ys → Far ys xs
far_turned xs [] far = All-nil (λ x. is_among x xs ≡ false)
far_turned xs (y ∷ ys) far = All-cons (λ x. is_among x xs ≡ false) y ys
    (none_any (same y) xs (All-weaker (λ x. is_among x (y ∷ ys) ≡ false) (λ x. same y x ≡ false) (λ x n. same_turned y x ∙ (or_parts (same x y) (is_among x ys) n).0) xs far))
    (far_turned xs ys (All-weaker (λ x. is_among x (y ∷ ys) ≡ false) (λ x. is_among x ys ≡ false) (λ x n. (or_parts (same x y) (is_among x ys) n).1) xs far))

distinct_parts : (xs ys : List Id) → Distinct (xs ++ ys) → Distinct xs × (Distinct ys × Far xs ys)
distinct_parts [] ys d = (tt, (d, All-nil (λ x. is_among x ys ≡ false)))
distinct_parts (x ∷ xs) ys d = grind (arith, nat_tests, distinct_parts xs ys d.1, far_parts, All-cons)

distinct_both : (xs ys : List Id) → Distinct xs → Distinct ys → Far xs ys → Distinct (xs ++ ys)
distinct_both [] ys a b far = b
distinct_both (x ∷ xs) ys a b far = (
  far_both x xs ys a.0 (All-head (λ x. is_among x ys ≡ false) x xs far),
  distinct_both xs ys a.1 b (All-tail (λ x. is_among x ys ≡ false) x xs far),
)

-- others come among them
pub distinct_more : (P M Q : List Id) → Distinct (P ++ Q) → Distinct M → Far (P ++ Q) M → Distinct (P ++ (M ++ Q))
distinct_more P M Q d m far =
    let p = distinct_parts P Q d in
    let f = all_parts (λ x. is_among x M ≡ false) P Q far in
    distinct_both P (M ++ Q) p.0 (distinct_both M Q m p.1.0 (far_turned Q M f.1))
    (All-weaker (λ x. (is_among x M ≡ false) × (is_among x Q ≡ false)) (λ x. is_among x (M ++ Q) ≡ false) (λ x n. far_both x M Q n.0 n.1) P
    (both_all (λ x. is_among x M ≡ false) (λ x. is_among x Q ≡ false) P f.0 p.1.1))

-- some go
pub distinct_less : (P M Q : List Id) → Distinct (P ++ (M ++ Q)) → Distinct (P ++ Q) × (Distinct M × Far (P ++ Q) M)
distinct_less P M Q d =
    let a = distinct_parts P (M ++ Q) d in
    let b = distinct_parts M Q a.1.0 in
    let parts = All-weaker (λ x. is_among x (M ++ Q) ≡ false) (λ x. (is_among x M ≡ false) × (is_among x Q ≡ false)) (λ x n. far_parts x M Q n) P a.1.1 in
    let far_m = All-weaker (λ x. (is_among x M ≡ false) × (is_among x Q ≡ false)) (λ x. is_among x M ≡ false) (λ x n. n.0) P parts in
    let far_q = All-weaker (λ x. (is_among x M ≡ false) × (is_among x Q ≡ false)) (λ x. is_among x Q ≡ false) (λ x n. n.1) P parts in
    (distinct_both P Q a.0 b.1.0 far_q, (b.0, All-append (λ x. is_among x M ≡ false) P Q far_m (far_turned M Q b.1.1)))

-- one that is not among the rest, and not among those that go, was not among them
pub none_between : (x : Id) (P M Q : List Id) → is_among x (P ++ Q) ≡ false → is_among x M ≡ false → is_among x (P ++ (M ++ Q)) ≡ false
none_between x P M Q rest m = let two = far_parts x P Q rest in far_both x P (M ++ Q) two.0 (far_both x M Q m two.1)

pub between : (x : Id) (P M Q : List Id) → is_among x (P ++ (M ++ Q)) ≡ false → (is_among x M ≡ false) × (is_among x (P ++ Q) ≡ false)
between x P M Q none = grind (arith, nat_tests, far_parts, far_both)

-- what is among those that go is none of the rest
pub gone_from : (x : Id) (xs M : List Id) → Far xs M → is_among x M ≡ true → is_among x xs ≡ false
gone_from x xs M far there = ⊎_elim
    (λ (k : is_among x xs ≡ true). absurd (not_both (is_among x M) there (among_in (λ z. is_among z M ≡ false) x xs far k)))
    (λ (n : is_among x xs ≡ false). n)
    (cases_Bool (is_among x xs))

pub ids_between : (R before front m back after : List Id) → R ++ (before ++ ((front ++ (m ++ back)) ++ after)) ≡ (R ++ (before ++ front)) ++ (m ++ (back ++ after))
ids_between R before front m back after = grind (arith, nat_tests, append_assoc)

-- ---- the calls

own_ctx : (x ctx : Id) (holder : _) → is_among x (contexts ctx holder) ≡ false → same ctx x ≡ false
own_ctx x ctx None none = same_turned ctx x ∙ (or_parts (same x ctx) false none).0
own_ctx x ctx (Some h) none = same_turned ctx x ∙ (or_parts (same x ctx) (is_among x (h ∷ [])) none).0

pub no_call_of : (x : Id) (ls : List Life) → is_among x (ids_in ls) ≡ false → list_any (λ m. same m.ctx x) ls ≡ false
no_call_of x [] none = refl
no_call_of x (m ∷ ms) none =
    let two = far_parts x (ids_of m) (ids_in ms) none in
    let own = own_ctx x m.ctx m.holder (far_parts x (contexts m.ctx m.holder) (twig_ids m.twigs) two.0).0 in
    rw own (no_call_of x ms two.1)

calls_differ : (ls : List Life) → Distinct (ids_in ls) → NoTwo same_ctx ls
calls_differ [] d = tt
calls_differ (l ∷ ls) d =
    let p = distinct_parts (ids_of l) (ids_in ls) d in
    let q = all_parts (λ x. is_among x (ids_in ls) ≡ false) (contexts l.ctx l.holder) (twig_ids l.twigs) p.1.1 in
    (no_call_of l.ctx ls (first l.holder q.0), calls_differ ls p.1.0)
  where
    first : (holder : _) → Far (contexts l.ctx holder) (ids_in ls) → is_among l.ctx (ids_in ls) ≡ false
    first None far = All-head (λ x. is_among x (ids_in ls) ≡ false) l.ctx [] far
    first (Some h) far = All-head (λ x. is_among x (ids_in ls) ≡ false) l.ctx (h ∷ []) far

-- a context that is none of theirs
pub lives_off : (x : Id) (ls : List Life) → is_among x (ids_in ls) ≡ false → All (λ l. is_among x (ids_of l) ≡ false) ls
lives_off x [] none = All-nil (λ l. is_among x (ids_of l) ≡ false)
lives_off x (m ∷ ms) none = let two = far_parts x (ids_of m) (ids_in ms) none in All-cons (λ l. is_among x (ids_of l) ≡ false) m ms two.0 (lives_off x ms two.1)

pub ctx_off : (x : Id) (l : Life) → is_among x (ids_of l) ≡ false → same l.ctx x ≡ false
ctx_off x l none = own_ctx x l.ctx l.holder (far_parts x (contexts l.ctx l.holder) (twig_ids l.twigs) none).0

pub twigs_off : (x : Id) (l : Life) → is_among x (ids_of l) ≡ false → All (λ t. same t.ctx x ≡ false) l.twigs
twigs_off x l none = All-weaker (λ t. same x t.ctx ≡ false) (λ t. same t.ctx x ≡ false) (λ t n. same_turned t.ctx x ∙ n) l.twigs
    (all_none (λ t. same x t.ctx) l.twigs (sym (any_map (same x) (λ (t : Twig). t.ctx) l.twigs) ∙ (far_parts x (contexts l.ctx l.holder) (twig_ids l.twigs) none).1))

-- no two calls have one context
pub calls_apart : (root base : Id) (conns : List Id) (calls : List Life) → Distinct (root ∷ base ∷ conns ++ ids_in calls) → NoTwo same_ctx calls
calls_apart root base conns calls d = calls_differ calls (distinct_parts (root ∷ base ∷ conns) (ids_in calls) d).1.0

-- ---- where one stands among the contexts

-- the branches of the call of that context
pub record TwigPlace (id : Id) (l : Life) (ls : List Life) : Type 0 where
  pub before : List Id
  pub after : List Id
  pub own : is_among l.ctx before ≡ true
  pub was : ids_in ls ≡ before ++ (twig_ids l.twigs ++ after)
  pub now : (ts : List Twig) → ids_in (map (with_twigs id ts) ls) ≡ before ++ (twig_ids ts ++ after)

pub twig_place : (id : Id) (l : Life) (ls : List Life) → NoTwo same_ctx ls → life_at id ls ≡ Some l → TwigPlace id l ls
twig_place id l [] distinct found = cc
twig_place id l (m ∷ ms) distinct found = ⊎_elim
    (λ (y : same m.ctx id ≡ true).
    let e : m ≡ l = same_Some m l (rw y at found) in
    record {
      before = contexts m.ctx m.holder;
      after = ids_in ms;
      own = ap (λ (k : Life). is_among k.ctx (contexts m.ctx m.holder)) (sym e) ∙ own_first m.ctx m.holder;
      was = append_assoc (contexts m.ctx m.holder) (twig_ids m.twigs) (ids_in ms) ∙ ap (λ (k : Life). contexts m.ctx m.holder ++ (twig_ids k.twigs ++ ids_in ms)) e;
      now = λ ts. rw y (append_assoc (contexts m.ctx m.holder) (twig_ids ts) (ids_in (map (with_twigs id ts) ms))
          ∙ ap (λ ks. contexts m.ctx m.holder ++ (twig_ids ts ++ ids_in ks)) (others_still id ts ms (gone_first id m ms distinct.0 y)));
    })
    (λ (n : same m.ctx id ≡ false).
    let rest = twig_place id l ms distinct.1 (rw n at found) in
    record {
      before = ids_of m ++ rest.before;
      after = rest.after;
      own = among_right l.ctx (ids_of m) rest.before rest.own;
      was = ap (λ xs. ids_of m ++ xs) rest.was ∙ sym (append_assoc (ids_of m) rest.before (twig_ids l.twigs ++ rest.after));
      now = λ ts. rw n (ap (λ xs. ids_of m ++ xs) (rest.now ts) ∙ sym (append_assoc (ids_of m) rest.before (twig_ids ts ++ rest.after)));
    })
    (cases_Bool (same m.ctx id))

-- the call of that context
pub record LifePlace (id : Id) (l : Life) (ls : List Life) : Type 0 where
  pub before : List Id
  pub after : List Id
  pub was : ids_in ls ≡ before ++ (ids_of l ++ after)
  pub now : ids_in (filter (λ m. not (same m.ctx id)) ls) ≡ before ++ after

pub life_place : (id : Id) (l : Life) (ls : List Life) → NoTwo same_ctx ls → life_at id ls ≡ Some l → LifePlace id l ls
life_place id l [] distinct found = cc
life_place id l (m ∷ ms) distinct found = ⊎_elim
    (λ (y : same m.ctx id ≡ true). record {
      before = [];
      after = ids_in ms;
      was = ap (λ (k : Life). ids_of k ++ ids_in ms) (same_Some m l (rw y at found));
      now = rw y (ap ids_in (all_stay (λ k. same k.ctx id) ms (gone_first id m ms distinct.0 y)));
    })
    (λ (n : same m.ctx id ≡ false).
    let rest = life_place id l ms distinct.1 (rw n at found) in
    record {
      before = ids_of m ++ rest.before;
      after = rest.after;
      was = ap (λ xs. ids_of m ++ xs) rest.was ∙ sym (append_assoc (ids_of m) rest.before (ids_of l ++ rest.after));
      now = rw n (ap (λ xs. ids_of m ++ xs) rest.now ∙ sym (append_assoc (ids_of m) rest.before rest.after));
    })
    (cases_Bool (same m.ctx id))

-- the connection of that context
pub record ConnPlace (id : Id) (cs : List Id) : Type 0 where
  pub before : List Id
  pub after : List Id
  pub was : cs ≡ before ++ id ∷ after
  pub now : filter (λ c. not (same c id)) cs ≡ before ++ after

pub conn_place : (id : Id) (cs : List Id) → Distinct cs → is_among id cs ≡ true → ConnPlace id cs
conn_place id [] distinct there = cc
conn_place id (c ∷ cs) distinct there = ⊎_elim
    (λ (y : same c id ≡ true).
    let e = same_true c id y in
    let none : list_any (λ d. same d id) cs ≡ false = none_any (λ d. same d id) cs
    (All-weaker (λ d. same c d ≡ false) (λ d. same d id ≡ false) (λ d n. ap (same d) (sym e) ∙ same_turned d c ∙ n) cs (all_none (same c) cs distinct.0)) in
    record { before = []; after = cs; was = ap (λ x. x ∷ cs) e; now = rw y (all_stay (λ d. same d id) cs none) })
    (λ (n : same c id ≡ false).
    let turned : same id c ≡ false = same_turned id c ∙ n in
    let rest = conn_place id cs distinct.1 (rw turned at there) in
    record { before = c ∷ rest.before; after = rest.after; was = ap (λ xs. c ∷ xs) rest.was; now = rw n (ap (λ xs. c ∷ xs) rest.now) })
    (cases_Bool (same c id))

pub among_rest : (x id : Id) (cs : List Id) → same x id ≡ false → is_among x cs ≡ true → is_among x (filter (λ c. not (same c id)) cs) ≡ true
among_rest x id [] far there = cc
among_rest x id (c ∷ cs) far there = grind (arith, among_rest x id cs far)

-- the context of a connection is not the base, and of no call
pub none_of_conns : (id root base : Id) (conns : List Id) (calls : List Life) → Distinct (root ∷ base ∷ conns ++ ids_in calls) → is_among id conns ≡ true → (same base id ≡ false) × (is_among id (ids_in calls) ≡ false)
none_of_conns id root base conns calls d there = (
  not_same (far_parts base conns (ids_in calls) d.1.0).0,
  among_in (λ x. is_among x (ids_in calls) ≡ false) id conns (distinct_parts conns (ids_in calls) d.1.1).1.1 there,
)
  where
    not_same : is_among base conns ≡ false → same base id ≡ false
    not_same none = ⊎_elim
        (λ (y : same base id ≡ true). absurd (not_both (is_among base conns) (ap (λ z. is_among z conns) (same_true base id y) ∙ there) none))
        (λ (n : same base id ≡ false). n)
        (cases_Bool (same base id))

pub conns_part : (root base : Id) (conns : List Id) (calls : List Life) → Distinct (root ∷ base ∷ conns ++ ids_in calls) → Distinct conns
conns_part root base conns calls d = (distinct_parts conns (ids_in calls) d.1.1).0
