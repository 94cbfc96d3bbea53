-- Calls in a list, by their ids.
use Rattle.std.specs.Prelude.{◌≡◌, ◌+◌, ◌<◌, ◌∷◌, ◌++◌, ◌≤◌, if◌then◌else◌}
use Rattle.gateway_theory.specs.lemmas.Names.{ℕ, zero, suc, Bool, false, List, [], map, length, filter, Some, refl, sym, ap, ◌∙◌, arith, ⊎_elim, true, Option, None, Ok, Err, nat_tests, slice_set, slice_index_or, OnErr, OnOk, is_err, is_none, is_some, not, option_map_or, option_or, cases_Bool, eq-eqb, cond_both, get_or-set_same, get_or-set_other, length-set, length-map, get_or_default, length-append, AreApart, KeptValue, call_at, gone, is_call, kept_at, no_call, IsFound, CallId, CallState, ReplyValue, count_by, filter-append, length-filter, ReplyEntry, slot_at}
use Rattle.std.proofs.Common.{Result}
use Rattle.std.proofs.lemmas.List.Kept.{AllPairs-filter}
use Rattle.gateway_theory.specs.lemmas.LimitLemmas.{same_call}

pub some_same : {A : Type 0} {a b : A} → Some a ≡ Some b → a ≡ b
some_same {a = a} e = ap (λ o. option_map_or (λ x. x) o a) e

-- ---- what is no two's

pub same_ids : (new calls : List KeptValue) → length new ≡ length calls → ((j : ℕ) → j < length calls → (kept_at j new).id ≡ (kept_at j calls).id) → AreApart calls → AreApart new
same_ids new calls size ids apart = grind arith

at_map : {A B : Type 0} (f : A → B) (a : A) (b : B) (xs : List A) (j : ℕ) → j < length xs → slice_index_or (map f xs) j b ≡ f (slice_index_or xs j a)
at_map f a b [] j lt = absurd (omega (arith, lt))
at_map f a b (x ∷ xs) zero lt = refl
at_map f a b (x ∷ xs) (suc j) lt = at_map f a b xs j (omega (arith, lt))

pub ids_mapped : (f : KeptValue → KeptValue) (calls : List KeptValue) → ((k : KeptValue) → (f k).id ≡ k.id) → AreApart calls → AreApart (map f calls)
ids_mapped f calls same = same_ids (map f calls) calls (length-map calls f)
    (λ j lt. ap (λ (x : KeptValue). x.id) (at_map f no_call no_call calls j lt) ∙ same (kept_at j calls))

pub ids_set : (i : ℕ) (new : KeptValue) (calls : List KeptValue) → i < length calls → new.id ≡ (kept_at i calls).id → AreApart calls → AreApart (slice_set calls i new)
ids_set i new calls lt same = grind (arith, nat_tests, same_ids, length-set, get_or-set_same, get_or-set_other)

pub calls_filtered : (p : KeptValue → Bool) (calls : List KeptValue) → AreApart calls → AreApart (filter p calls)
calls_filtered p calls apart = λ i j lt within. AllPairs-filter (λ (a b : KeptValue). is_call a.id b.id ≡ false) p calls
    (λ a b d less inside. ap (λ (x : KeptValue). is_call x.id (slice_index_or calls b d).id) (get_or_default calls a d no_call (omega (arith, less, inside)))
    ∙ ap (λ (x : KeptValue). is_call (kept_at a calls).id x.id) (get_or_default calls b d no_call inside) ∙ apart a b less inside)
    i j no_call lt within

-- what holds of each before it and of the last holds of each
at_append : {A : Type 0} (d x : A) (xs : List A) (P : A → Type 0) (j : ℕ) → j < length (xs ++ x ∷ []) → ((a : ℕ) → a < length xs → P (slice_index_or xs a d)) → P x
    → P (slice_index_or (xs ++ x ∷ []) j d)
at_append d x [] P zero lt each last = last
at_append d x [] P (suc j) lt each last = absurd (omega (arith, lt))
at_append d x (y ∷ xs) P zero lt each last = each 0 (omega arith)
at_append d x (y ∷ xs) P (suc j) lt each last = at_append d x xs P j (omega (arith, lt)) (λ a l. each (suc a) (omega (arith, l))) last

-- one more stands behind the others, which are apart from it
pub calls_more : (k : KeptValue) (calls : List KeptValue) → AreApart calls → ((j : ℕ) → j < length calls → is_call (kept_at j calls).id k.id ≡ false) → AreApart (calls ++ k ∷ [])
calls_more k [] apart from_it = λ i j lt within. absurd (omega (arith, lt, within))
calls_more k (x ∷ calls) apart from_it = λ i j lt within. by_place
    (calls_more k calls (λ a b less inside. apart (suc a) (suc b) (omega (arith, less)) (omega (arith, inside))) (λ a inside. from_it (suc a) (omega (arith, inside)))) i j lt within
  where
    by_place : AreApart (calls ++ k ∷ []) → (i j : ℕ) → i < j → j < length (x ∷ calls ++ k ∷ []) → is_call (kept_at i (x ∷ calls ++ k ∷ [])).id (kept_at j (x ∷ calls ++ k ∷ [])).id ≡ false
    by_place rest zero zero lt within = absurd (omega (arith, lt))
    by_place rest zero (suc j) lt within = at_append no_call k calls (λ y. is_call x.id y.id ≡ false) j (omega (arith, within))
        (λ a l. apart 0 (suc a) (omega arith) (omega (arith, l))) (from_it 0 (omega arith))
    by_place rest (suc i) zero lt within = absurd (omega (arith, lt))
    by_place rest (suc i) (suc j) lt within = rest i j (omega (arith, lt)) (omega (arith, within))

pub call_itself : (id : CallId) → is_call id id ≡ true
call_itself id = rw (eq-eqb id.conn id.conn refl, eq-eqb id.request id.request refl) refl

pub call_apart : (a b : CallId) → is_call a b ≡ false → is_call b a ≡ false
call_apart a b e = grind arith

-- ---- the store of calls

pub call_missing : (id : CallId) (calls : List KeptValue) → IsFound id calls None → call_at id calls ≡ gone
call_missing id [] f = refl
call_missing id (c ∷ calls) f = rw (f 0 (omega arith)) (call_missing id calls (λ j lt. f (suc j) (omega (arith, lt))))

pub call_found : (id : CallId) (calls : List KeptValue) (i : ℕ) → IsFound id calls (Some i) → call_at id calls ≡ (kept_at i calls).call
call_found id [] i f = absurd (let lt = f.0 in omega (arith, lt))
call_found id (c ∷ calls) zero f = rw f.1 refl
call_found id (c ∷ calls) (suc i) f =
    rw (f.2 0 (omega arith)) (call_found id calls i (let lt = f.0 in omega (arith, lt), f.1, λ j l. f.2 (suc j) (omega (arith, l))))

pub call_set : (id other : CallId) (calls : List KeptValue) (i : ℕ) (new : KeptValue) → IsFound id calls (Some i) → new.id ≡ (kept_at i calls).id
    → call_at other (slice_set calls i new) ≡ (if is_call id other then new.call else call_at other calls)
call_set id other [] i new f same = absurd (let lt = f.0 in omega (arith, lt))
call_set id other (c ∷ calls) zero new f same = grind arith
call_set id other (c ∷ calls) (suc i) new f same =
    rec (call_set id other calls i new (let lt = f.0 in omega (arith, lt), f.1, λ j l. f.2 (suc j) (omega (arith, l))) same)
  where
    rec : call_at other (slice_set calls i new) ≡ (if is_call id other then new.call else call_at other calls)
        → call_at other (c ∷ slice_set calls i new) ≡ (if is_call id other then new.call else call_at other (c ∷ calls))
    rec h = ⊎_elim (λ (here : is_call c.id other ≡ true).
        let apart : is_call id other ≡ false = ⊎_elim
        (λ (it : is_call id other ≡ true). absurd (let bad : is_call c.id id ≡ false = f.2 0 (omega arith) in
        let eq : c.id ≡ id = same_call c.id other here ∙ sym (same_call id other it) in
        let clash : true ≡ false = sym (call_itself id) ∙ ap (λ x. is_call x id) (sym eq) ∙ bad in cc))
        (λ (e : is_call id other ≡ false). e) (cases_Bool (is_call id other)) in
        rw (here, apart) refl)
        (λ (there : is_call c.id other ≡ false). rw there h)
        (cases_Bool (is_call c.id other))

pub on_ok : {T E : Type 0} (r : Result T E) (P : Type 0) → OnOk r P → is_err r ≡ false → P
on_ok (Ok t) P h e = h
on_ok (Err x) P h e = absurd (cc)

pub on_err : {T E : Type 0} (r : Result T E) (P : Type 0) → OnErr r P → is_err r ≡ true → P
on_err (Ok x) P p failed = absurd (cc)
on_err (Err e) P p failed = p

pub none_of : (o : Option ReplyValue) (b : Bool) → is_some o ≡ not b → b ≡ true → is_none o ≡ true
none_of None b e it = refl
none_of (Some r) b e it = absurd (let clash : true ≡ false = e ∙ ap not it in cc)

-- ---- calls

-- one more is kept, whose id none had
pub call_added : (k : KeptValue) (id : CallId) (calls : List KeptValue) → IsFound k.id calls None → call_at id (calls ++ k ∷ []) ≡ (if is_call k.id id then k.call else call_at id calls)
call_added k id [] f = refl
call_added k id (x ∷ calls) f = ⊎_elim
    (λ (here : is_call x.id id ≡ true).
    let apart : is_call k.id id ≡ false = ⊎_elim
    (λ (it : is_call k.id id ≡ true).
    let same : x.id ≡ k.id = same_call x.id id here ∙ sym (same_call k.id id it) in
    let clash : true ≡ false = sym (call_itself k.id) ∙ ap (λ n. is_call n k.id) (sym same) ∙ f 0 (omega arith) in
    absurd (cc))
    (λ (ne : is_call k.id id ≡ false). ne) (cases_Bool (is_call k.id id)) in
    rw (here, apart) refl)
    (λ (there : is_call x.id id ≡ false). rw there (call_added k id calls (λ j lt. f (suc j) (omega (arith, lt)))))
    (cases_Bool (is_call x.id id))

pub call_without : (id other : CallId) (calls : List KeptValue) → call_at other (filter (λ k. not (is_call k.id id)) calls) ≡ (if is_call id other then gone else call_at other calls)
call_without id other [] = cond_both (is_call id other) gone gone (λ c. gone ≡ c) (λ _. refl) (λ _. refl)
call_without id other (x ∷ calls) = ⊎_elim
    (λ (its : is_call x.id id ≡ true).
    rw its (call_without id other calls ∙ by_it its (is_call id other) refl))
    (λ (ne : is_call x.id id ≡ false). rw ne (⊎_elim
    (λ (here : is_call x.id other ≡ true).
    let apart : is_call id other ≡ false = ⊎_elim
    (λ (it : is_call id other ≡ true).
    let same : x.id ≡ id = same_call x.id other here ∙ sym (same_call id other it) in
    let clash : true ≡ false = sym (call_itself id) ∙ ap (λ n. is_call n id) (sym same) ∙ ne in
    absurd (cc))
    (λ (none : is_call id other ≡ false). none) (cases_Bool (is_call id other)) in
    rw (here, apart) refl)
    (λ (there : is_call x.id other ≡ false). rw there (call_without id other calls))
    (cases_Bool (is_call x.id other))))
    (cases_Bool (is_call x.id id))
  where
    by_it : is_call x.id id ≡ true → (b : Bool) → is_call id other ≡ b
        → (if is_call id other then gone else call_at other calls) ≡ (if is_call id other then gone else (if is_call x.id other then x.call else call_at other calls))
    by_it its true b_is = rw b_is refl
    by_it its false b_is = ap (λ (c : CallState). if is_call id other then gone else c) (sym (ap (λ b. if b then x.call else call_at other calls) (ap (λ n. is_call n other) (same_call x.id id its) ∙ b_is)))

-- ---- slots

fewer_left : (new old : List (Option ReplyEntry)) (more : ℕ → Option ReplyEntry) → length new ≡ length old
    → ((j : ℕ) → j < length old → slot_at j new ≡ option_or (slot_at j old) (more j)) → length (filter is_none new) ≤ length (filter is_none old)
fewer_left [] [] more size each = omega arith
fewer_left [] (y ∷ old) more size each = absurd (cc)
fewer_left (x ∷ new) [] more size each = absurd (cc)
fewer_left (x ∷ new) (y ∷ old) more size each =
    by_slot x y (each 0 (omega arith)) (fewer_left new old (λ j. more (suc j)) (omega (arith, size)) (λ j lt. each (suc j) (omega (arith, lt))))
  where
    by_slot : (a b : Option ReplyEntry) → a ≡ option_or b (more 0) → length (filter is_none new) ≤ length (filter is_none old)
        → length (filter is_none (a ∷ new)) ≤ length (filter is_none (b ∷ old))
    by_slot None None e rest = omega (arith, rest)
    by_slot (Some a) None e rest = omega (arith, rest)
    by_slot None (Some b) e rest = absurd (cc)
    by_slot (Some a) (Some b) e rest = rest

-- where slots are filled no more are empty
pub fewer : (new old : List (Option ReplyEntry)) (more : ℕ → Option ReplyEntry) → length new ≡ length old
    → ((j : ℕ) → j < length old → slot_at j new ≡ option_or (slot_at j old) (more j)) → count_by is_none new ≤ count_by is_none old
fewer new old more size each = omega (arith, fewer_left new old more size each, length-filter is_none new, length-filter is_none old)

-- one slot more, which is empty or is not
pub one_more : (slots : List (Option ReplyEntry)) (reply : Option ReplyEntry) → count_by is_none (slots ++ reply ∷ []) ≡ count_by is_none slots + length (filter is_none (reply ∷ []))
one_more slots reply = omega (
  arith,
  length-filter is_none slots,
  length-filter is_none (slots ++ reply ∷ []),
  ap (λ (xs : List (Option ReplyEntry)). length xs) (filter-append is_none slots (reply ∷ [])),
  length-append (filter is_none slots) (filter is_none (reply ∷ [])),
)
