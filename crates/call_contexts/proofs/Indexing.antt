-- The index of the calls by their ids, as calls come and go.
use Rattle.call_contexts.proofs.Names.{◌≡◌, refl, sym, ap, ◌∙◌, ℕ, ◌<◌, List, [], ◌∷◌, ◌++◌, Option, Some, None, Bool, true, false, ⊎_elim, subst, arith, rules, not, map, filter, All, if◌then◌else◌, option_map, option_or, list_any, cases_Bool, All-cons, All-head, All-nil, All-tail, All-weaker, is_some, eqb-true, IfNone, IfSome, ◌==◌, same_Some, slice_index_or, slice_set, Id, same, CallId, Life, Twig, NoTwo, Rising, life_at, life_for, names_of, numbers_of, same_ctx, Slots, call_for, first_of, seen_call, WithHooks, nat_tests}
use Rattle.std.specs.Prelude.{cond}
use Rattle.std.specs.BTreeMap.{BTreeMap, UpdatesBy, is_at}
use Rattle.std.specs.BTreeMap.Range.{IsEntryInRange, IsLeBy, IsRangeOf}
use Rattle.std.specs.Ordering.{is_gt}
use Rattle.std.specs.Prelude.{slice_get}
use Rattle.std.specs.declared.ops.Bound.TheVariants.{Included, Unbounded}
use Rattle.gateway_model.specs.Past.{call_id, is_call}
use Rattle.call_contexts.specs.Index.{Entry, IsIndexed, Key, Sets, indexed, key_cmp, named_in, same_id}
use Rattle.call_contexts.proofs.Lists.{all_stay, gone_first}
use Rattle.call_contexts.proofs.Making.{or_none}
use Rattle.call_contexts.proofs.Order.{less_apart, set_same}
use Rattle.call_contexts.proofs.Trees.{same_refl}

-- ---- one call in the map

key_is : (a b : CallId) → is_at (key_cmp (a.conn, a.request)) (b.conn, b.request) ≡ is_call a b
key_is a b = grind (arith, nat_tests)

pub sets_by : (id : CallId) (w : Option Id) (k : Key) (m n : BTreeMap Key Id) → k ≡ (id.conn, id.request) → UpdatesBy key_cmp (key_cmp k) m n w → Sets id w m.entries n.entries
sets_by id w k m n e by other = by.0 (other.conn, other.request) ∙ ap (λ b. cond b w (indexed other m.entries)) (ap (λ j. is_at (key_cmp j) (other.conn, other.request)) e ∙ key_is id other)

-- ---- a connection's part of the map

least_key : (number request : ℕ) → is_gt (key_cmp (number, 0) (number, request)) ≡ false
least_key number request = grind (arith, nat_tests)

number_between : (number request : ℕ) (k : Key) → is_gt (key_cmp (number, 0) k) ≡ false → is_gt (key_cmp k (number, request)) ≡ false → k.0 ≡ number
number_between number request k low high = grind (arith, nat_tests)

module _ (number : ℕ) (m : BTreeMap Key Id) (es : List Entry) (part : IsRangeOf key_cmp (Included (number, 0)) Unbounded m es) where
  pub none_from : es ≡ [] → (request : ℕ) → indexed (call_id number request) m.entries ≡ None
  none_from none request = part.5 none (number, request) (least_key number request, tt)

  pub none_of_number : (k : Key) (x : Id) (rest : List Entry) → es ≡ (k, x) ∷ rest → (k.0 ≡ number → ⊥) → (request : ℕ) → indexed (call_id number request) m.entries ≡ None
  none_of_number k x rest first apart request = by (indexed (call_id number request) m.entries) refl
    where
      by : (o : Option Id) → indexed (call_id number request) m.entries ≡ o → o ≡ None
      by None is = refl
      by (Some y) is =
          let low = (subst (λ fs. IfSome (slice_get fs 0) (IsEntryInRange key_cmp (Included (number, 0)) Unbounded m)) first part.1).0.0 in
          let high = subst (λ fs. IfSome (slice_get fs 0) (λ e. IsLeBy key_cmp e.0 (number, request))) first (part.2 (number, request) (least_key number request, tt) (ap is_some is)) in
          absurd (apart (number_between number request k low high))

-- ---- ids

call_true : (a b : CallId) → is_call a b ≡ true → a ≡ b
call_true a b is = grind (arith, rules)

call_refl : (a : CallId) → is_call a a ≡ true
call_refl a = grind (arith, rules)

call_turned : (a b : CallId) → is_call a b ≡ is_call b a
call_turned a b = grind (arith, rules)

-- a call that is forgotten once more was never there
pub forgotten : (id : CallId) (ctx : Id) (old mid new : List Entry) → Sets id (Some ctx) old mid → Sets id None mid new → Sets id None old new
forgotten id ctx old mid new added gone other = gone other ∙ by (is_call id other) (added other)
  where
    by : (b : Bool) → indexed other mid ≡ (if b then Some ctx else indexed other old) → (if b then None else indexed other mid) ≡ (if b then None else indexed other old)
    by true is = refl
    by false is = is

pub unnamed : (id : CallId) (old new : List Entry) → new ≡ old → indexed id old ≡ None → Sets id None old new
unnamed id old new same none other = ap (indexed other) same ∙ by (is_call id other) refl
  where
    by : (b : Bool) → is_call id other ≡ b → indexed other old ≡ (if b then None else indexed other old)
    by true is = ap (λ a. indexed a old) (sym (call_true id other is)) ∙ none
    by false is = refl

-- ---- the names of calls

named_life : (id : CallId) (ls : List Life) → named_in id (names_of ls) ≡ option_map (λ l. l.ctx) (life_for id ls)
named_life id [] = refl
named_life id (l ∷ ls) = grind (arith, named_life id ls)

-- the call of an id is also the call of its context
life_of : (id : CallId) (l : Life) (ls : List Life) → Rising (numbers_of ls) → life_for id ls ≡ Some l → life_at l.ctx ls ≡ Some l
life_of id l [] rising is = cc
life_of id l (m ∷ ms) rising is = grind (arith, nat_tests, life_of id l ms, same_Some, same_refl, less_apart, number_above ms)
  where
    number_above : (ks : List Life) → All (λ k. m.ctx.0 < k) (numbers_of ks) → life_for id ks ≡ Some l → m.ctx.0 < l.ctx.0
    number_above [] all at = cc
    number_above (k ∷ ks) all at = ⊎_elim
        (λ (y : is_call k.id id ≡ true). subst (λ (j : Life). m.ctx.0 < j.ctx.0) (same_Some k l (rw y at at)) (All-head (λ n. m.ctx.0 < n) k.ctx.0 (numbers_of ks) all))
        (λ (n : is_call k.id id ≡ false). number_above ks (All-tail (λ n. m.ctx.0 < n) k.ctx.0 (numbers_of ks) all) (rw n at at))
        (cases_Bool (is_call k.id id))

not_begun : {C V : Type 0} (slots : Slots C V) (id : CallId) (ls : List Life) → call_for id (map (seen_call slots) ls) ≡ None → life_for id ls ≡ None
not_begun slots id [] none = refl
not_begun slots id (l ∷ ls) none = ⊎_elim (λ (y : is_call l.id id ≡ true). let clash : Some (seen_call slots l) ≡ None = rw y at none in cc) (λ (n : is_call l.id id ≡ false). rw n (not_begun slots id ls (rw n at none))) (cases_Bool (is_call l.id id))

-- none is seen of that id
pub not_seen : {C V H : Type 0} {v w : WithHooks C V H} (slots : Slots C V) (id : CallId) (ls : List Life) → v ≡ w → v.standing.calls ≡ map (seen_call slots) ls
    → call_for id w.standing.calls ≡ None → life_for id ls ≡ None
not_seen slots id ls is seen_is none = not_begun slots id ls (ap (call_for id) (sym seen_is) ∙ ap (λ x. call_for id x.standing.calls) is ∙ none)

-- ---- what the index answers

module _ (id : CallId) (ls : List Life) {es : List Entry} (i : IsIndexed es (names_of ls)) where
  pub told : indexed id es ≡ option_map (λ l. l.ctx) (life_for id ls)
  told = i.is id ∙ named_life id ls

  pub none_indexed : indexed id es ≡ None → life_for id ls ≡ None
  none_indexed none = grind (arith, told)

  -- the call that is meant
  pub call_at : (x : Id) → indexed id es ≡ Some x → (l : Life) × (life_for id ls ≡ Some l) × (l.ctx ≡ x)
  call_at x at = by (life_for id ls) refl
    where
      by : (o : Option Life) → life_for id ls ≡ o → (l : Life) × (life_for id ls ≡ Some l) × (l.ctx ≡ x)
      by None is = absurd (let clash : None ≡ Some x = sym (told ∙ ap (option_map (λ (l : Life). l.ctx)) is) ∙ at in cc)
      by (Some l) is = (l, is, same_Some l.ctx x (sym (told ∙ ap (option_map (λ (m : Life). m.ctx)) is) ∙ at))

  pub one_indexed : Rising (numbers_of ls) → (x : Id) → indexed id es ≡ Some x → life_at x ls ≡ life_for id ls
  one_indexed rising x at = grind (arith, nat_tests, told, life_of, same_Some)

  pub not_indexed : life_for id ls ≡ None → indexed id es ≡ None
  not_indexed none = told ∙ ap (option_map (λ l. l.ctx)) none

  pub call_indexed : {C V : Type 0} (slots : Slots C V) → is_some (indexed id es) ≡ true → is_some (call_for id (map (seen_call slots) ls)) ≡ true
  call_indexed slots is = by (life_for id ls) refl (sym (ap is_some told) ∙ is)
    where
      seen_for : (ms : List Life) → call_for id (map (seen_call slots) ms) ≡ option_map (seen_call slots) (life_for id ms)
      seen_for [] = refl
      seen_for (m ∷ ms) = grind (arith, seen_for ms)

      by : (o : Option Life) → life_for id ls ≡ o → is_some (option_map (λ l. l.ctx) (life_for id ls)) ≡ true → is_some (call_for id (map (seen_call slots) ls)) ≡ true
      by None at there = let clash : false ≡ true = sym (ap (λ o. is_some (option_map (λ (l : Life). l.ctx) o)) at) ∙ there in cc
      by (Some l) at there = ap is_some (seen_for ls ∙ ap (option_map (seen_call slots)) at)

pub none_then : {A P Q : Type 0} (o : Option A) → IfNone o P → (P → Q) → IfNone o Q
none_then None is goes = goes is
none_then (Some a) is goes = tt

-- each call has its context there
all_named : (ls : List Life) → All (λ l. is_some (named_in l.id (names_of ls)) ≡ true) ls
all_named [] = All-nil (λ l. is_some (named_in l.id []) ≡ true)
all_named (k ∷ ks) = All-cons (λ l. is_some (named_in l.id (names_of (k ∷ ks))) ≡ true) k ks (rw (call_refl k.id) refl)
    (All-weaker (λ l. is_some (named_in l.id (names_of ks)) ≡ true) (λ l. is_some (named_in l.id (names_of (k ∷ ks))) ≡ true)
    (λ l is. ⊎_elim (λ (y : is_call k.id l.id ≡ true). rw y refl) (λ (n : is_call k.id l.id ≡ false). rw n is) (cases_Bool (is_call k.id l.id))) ks (all_named ks))

-- where nothing is at a connection's number, no call is of it
pub none_of_conn : {C V : Type 0} (slots : Slots C V) (number : ℕ) (ls : List Life) {es : List Entry} → IsIndexed es (names_of ls) → ((request : ℕ) → indexed (call_id number request) es ≡ None)
    → first_of number (map (seen_call slots) ls) ≡ None
none_of_conn slots number ls {es} i none = no_first ls (All-weaker (λ l. is_some (named_in l.id (names_of ls)) ≡ true) (λ l. (l.id.conn == number) ≡ false) (λ l is. other l.id is) ls (all_named ls))
  where
    no_first : (ms : List Life) → All (λ l. (l.id.conn == number) ≡ false) ms → first_of number (map (seen_call slots) ms) ≡ None
    no_first [] all = refl
    no_first (m ∷ ms) all = rw (All-head (λ l. (l.id.conn == number) ≡ false) m ms all) (no_first ms (All-tail (λ l. (l.id.conn == number) ≡ false) m ms all))

    other : (id : CallId) → is_some (named_in id (names_of ls)) ≡ true → (id.conn == number) ≡ false
    other id is = grind (arith, nat_tests, eqb-true, i.is, none)

pub none_kept : IsIndexed [] []
none_kept = record { is = λ id. refl; once = tt }

-- ---- a call more

none_named : (new : CallId) (ls : List Life) → life_for new ls ≡ None → (id : CallId) → is_call new id ≡ true → named_in id (names_of ls) ≡ None
none_named new ls none id y = subst (λ j. named_in j (names_of ls) ≡ None) (call_true new id y) (named_life new ls ∙ ap (option_map (λ k. k.ctx)) none)

module _ (l : Life) where
  named_push : (id : CallId) (ls : List Life) → named_in id (names_of (ls ++ l ∷ [])) ≡ option_or (named_in id (names_of ls)) (if is_call l.id id then Some l.ctx else None)
  named_push id [] = refl
  named_push id (m ∷ ms) = grind (arith, named_push id ms)

  once_push : (ls : List Life) → NoTwo same_id (names_of ls) → life_for l.id ls ≡ None → NoTwo same_id (names_of (ls ++ l ∷ []))
  once_push [] once none = (refl, tt)
  once_push (m ∷ ms) once none = grind (arith, nat_tests, once_push ms, others, call_turned)
    where
      others : is_call l.id m.id ≡ false → (ks : List Life) → list_any (same_id (m.id, m.ctx)) (names_of ks) ≡ false → list_any (same_id (m.id, m.ctx)) (names_of (ks ++ l ∷ [])) ≡ false
      others n [] off = rw n refl
      others n (k ∷ ks) off = grind (arith, others n ks)

  pub indexed_push : (ls : List Life) {es fs : List Entry} → IsIndexed es (names_of ls) → life_for l.id ls ≡ None → Sets l.id (Some l.ctx) es fs → IsIndexed fs (names_of (ls ++ l ∷ []))
  indexed_push ls i none sets = record {
    is = λ id. grind (arith, nat_tests, sets id, named_push id ls, none_named l.id ls none id, or_none, i.is id);
    once = once_push ls i.once none;
  }

-- one that was added, and taken out again
pub indexed_back : (new : CallId) (ls : List Life) {es fs : List Entry} → IsIndexed es (names_of ls) → life_for new ls ≡ None → Sets new None es fs → IsIndexed fs (names_of ls)
indexed_back new ls i none sets = record {
  is = λ id. grind (arith, nat_tests, sets id, none_named new ls none id, i.is id);
  once = i.once;
}

-- ---- a call is gone

none_of : (id : CallId) (ctx : Id) (ls : List Life) → list_any (same_id (id, ctx)) (names_of ls) ≡ false → named_in id (names_of ls) ≡ None
none_of id ctx [] off = refl
none_of id ctx (l ∷ ls) off = grind (arith, none_of id ctx ls)

once_left : (p : Life → Bool) (ls : List Life) → NoTwo same_id (names_of ls) → NoTwo same_id (names_of (filter p ls))
once_left p [] once = tt
once_left p (l ∷ ls) once = grind (arith, once_left p ls, fewer ls)
  where
    fewer : (ks : List Life) → list_any (same_id (l.id, l.ctx)) (names_of ks) ≡ false → list_any (same_id (l.id, l.ctx)) (names_of (filter p ks)) ≡ false
    fewer [] off = refl
    fewer (k ∷ ks) off = grind (arith, fewer ks)

module _ (x : Id) (l : Life) where
  other_id : (id : CallId) (ctx : Id) (ls : List Life) → life_at x ls ≡ Some l → list_any (same_id (id, ctx)) (names_of ls) ≡ false → is_call l.id id ≡ false
  other_id id ctx [] found off = cc
  other_id id ctx (m ∷ ms) found off = grind (arith, other_id id ctx ms, same_Some)

  named_left : (id : CallId) (ls : List Life) → NoTwo same_ctx ls → life_at x ls ≡ Some l → NoTwo same_id (names_of ls)
      → named_in id (names_of (filter (λ m. not (same m.ctx x)) ls)) ≡ (if is_call l.id id then None else named_in id (names_of ls))
  named_left id [] apart found once = cc
  named_left id (m ∷ ms) apart found once = ⊎_elim
      (λ (y : same m.ctx x ≡ true).
      let e : m ≡ l = same_Some m l (rw y at found) in
      let stay : filter (λ k. not (same k.ctx x)) ms ≡ ms = all_stay (λ k. same k.ctx x) ms (gone_first x m ms apart.0 y) in
      rw y (ap (λ ks. named_in id (names_of ks)) stay ∙ subst (λ (k : Life). named_in id (names_of ms) ≡ (if is_call k.id id then None else (if is_call m.id id then Some m.ctx else named_in id (names_of ms)))) e (first id)))
      (λ (n : same m.ctx x ≡ false).
      let rest : life_at x ms ≡ Some l = rw n at found in
      rw n (later id (other_id m.id m.ctx ms rest once.0) (named_left id ms apart.1 rest once.1)))
      (cases_Bool (same m.ctx x))
    where
      first : (i : CallId) → named_in i (names_of ms) ≡ (if is_call m.id i then None else (if is_call m.id i then Some m.ctx else named_in i (names_of ms)))
      first i = grind (arith, nat_tests, call_true, none_of m.id m.ctx ms once.0)

      later : (i : CallId) → is_call l.id m.id ≡ false → named_in i (names_of (filter (λ k. not (same k.ctx x)) ms)) ≡ (if is_call l.id i then None else named_in i (names_of ms))
          → (if is_call m.id i then Some m.ctx else named_in i (names_of (filter (λ k. not (same k.ctx x)) ms))) ≡ (if is_call l.id i then None else (if is_call m.id i then Some m.ctx else named_in i (names_of ms)))
      later i other rest = grind (arith, nat_tests, call_true)

  pub indexed_left : (ls : List Life) {es fs : List Entry} → NoTwo same_ctx ls → life_at x ls ≡ Some l → IsIndexed es (names_of ls) → Sets l.id None es fs → IsIndexed fs (names_of (filter (λ m. not (same m.ctx x)) ls))
  indexed_left ls apart found i sets = record {
    is = λ id. sets id ∙ ap (λ o. if is_call l.id id then None else o) (i.is id) ∙ sym (named_left id ls apart found i.once);
    once = once_left (λ m. not (same m.ctx x)) ls i.once;
  }

-- ---- the calls have other branches

pub indexed_named : (ls ms : List Life) {es : List Entry} → names_of ms ≡ names_of ls → IsIndexed es (names_of ls) → IsIndexed es (names_of ms)
indexed_named ls ms {es} named = subst (IsIndexed es) (sym named)

pub indexed_set : (i : ℕ) (l : Life) (ts : List Twig) (ls : List Life) {es : List Entry} → l ≡ slice_index_or ls i l → IsIndexed es (names_of ls) → IsIndexed es (names_of (slice_set ls i (record l { twigs = ts })))
indexed_set i l ts ls {es} is = subst (IsIndexed es) (set_same (λ (k : Life). (k.id, k.ctx)) (λ m us. refl) i l ts ls is)
