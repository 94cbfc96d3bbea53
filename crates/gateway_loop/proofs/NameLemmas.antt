-- What a loop has to do with names, and what a map of them has.
use Rattle.gateway_loop.proofs.Words.{◌≡◌, ◌⊎◌, ℕ, Bool, true, false, cond, List, [], ◌∷◌, ◌++◌, Some, refl, sym, ap, ◌∙◌, subst, arith, append_assoc, inl, inr, ⊎_elim, is_some, map, ◌||◌, Contains, Contains-append_cases, Contains-append_left, Contains-append_right, Contains-push, Contains-push_cases, FoundValue}
use Rattle.std.proofs.lemmas.Map.Text.{is_eq-slice_cmp}
use Rattle.std.proofs.lemmas.Slice.Eq.{bytes_eq-Decides}
use Rattle.std.specs.BTreeMap.{insert_entry}
use Rattle.std.specs.Cmp.Lexicographic.{slice_cmp}
use Rattle.std.specs.Map.{keys_of, lookup, remove_entry}
use Rattle.std.specs.Ordering.{is_eq, match_ordering, nat_cmp}
use Rattle.std.specs.Prelude.{String, string_bytes}
use Rattle.std.specs.Str.{bytes_eq}
use Rattle.std.specs.declared.cmp.Ordering.{Ordering}
use Rattle.std.specs.declared.cmp.Ordering.TheVariants.{Less, Equal, Greater}
use Rattle.gateway_loop.specs.Names.{is_among, names_of}
use Rattle.loop_model.specs.Found.{Asked, Found, IsAwaited, LookUp, asked_in, found_in}

pub asked_append : (xs ys : List LookUp) → asked_in (xs ++ ys) ≡ asked_in xs ++ asked_in ys
asked_append [] ys = refl
asked_append (Asked name ∷ xs) ys = ap (λ (l : List (List ℕ)). name ∷ l) (asked_append xs ys)
asked_append (Found one ∷ xs) ys = asked_append xs ys

pub found_append : (xs ys : List LookUp) → found_in (xs ++ ys) ≡ found_in xs ++ found_in ys
found_append [] ys = refl
found_append (Asked name ∷ xs) ys = found_append xs ys
found_append (Found one ∷ xs) ys = ap (λ (l : List FoundValue). one ∷ l) (found_append xs ys)

pub none_there : {A : Type 0} (x : A) → Contains [] x → ⊥
none_there x (k, least, is) = omega (arith, least)

-- nothing was found for it since, either
pub awaited_since : (name : List ℕ) (lookups more : List LookUp) → IsAwaited name lookups → ((f : FoundValue) → Contains (found_in more) f → f.name ≡ name → ⊥) → IsAwaited name (lookups ++ more)
awaited_since name lookups more w none = record {
  before = w.before;
  since = w.since ++ more;
  lookups_are = ap (λ (l : List LookUp). l ++ more) w.lookups_are ∙ append_assoc w.before (Asked name ∷ w.since) more;
  not_found = λ f there.
      ⊎_elim (w.not_found f) (none f)
      (Contains-append_cases (found_in w.since) (found_in more) f (subst (λ (l : List FoundValue). Contains l f) (found_append w.since more) there));
}

-- .. since it was asked for just now
pub awaited_now : (name : List ℕ) (lookups : List LookUp) → IsAwaited name (lookups ++ Asked name ∷ [])
awaited_now name lookups = record { before = lookups; since = []; lookups_are = refl; not_found = λ f there. absurd (none_there f there) }

-- .. where one more was asked for
pub awaited_still : (name other : List ℕ) (lookups : List LookUp) → IsAwaited name lookups → IsAwaited name (lookups ++ Asked other ∷ [])
awaited_still name other lookups w = awaited_since name lookups (Asked other ∷ []) w (λ f there. absurd (none_there f there))

-- .. or something was found for another
pub awaited_beside : (name : List ℕ) (one : FoundValue) (lookups : List LookUp) → (name ≡ one.name → ⊥) → IsAwaited name lookups → IsAwaited name (lookups ++ Found one ∷ [])
awaited_beside name one lookups apart w =
    awaited_since name lookups (Found one ∷ []) w (λ f there its. apart (sym (ap (λ (x : FoundValue). x.name) (only f there) ∙ its)))
  where
    only : (f : FoundValue) → Contains (one ∷ []) f → one ≡ f
    only f there = ⊎_elim (λ (no : Contains [] f). absurd (none_there f no)) (λ (is : one ≡ f). is) (Contains-push_cases [] one f there)

-- ---- names in lists

pub there_first : {A : Type 0} (x : A) (xs : List A) → Contains (x ∷ xs) x
there_first x xs = Contains-append_left (x ∷ []) xs x (Contains-push [] x)

pub there_behind : {A : Type 0} (y x : A) (xs : List A) → Contains xs x → Contains (y ∷ xs) x
there_behind y x xs there = Contains-append_right (y ∷ []) xs x there

pub there_by : {A : Type 0} (y x : A) (xs : List A) → Contains (y ∷ xs) x → (y ≡ x) ⊎ Contains xs x
there_by {A} y x xs there =
    ⊎_elim (λ (first : Contains (y ∷ []) x). inl (⊎_elim (λ (no : Contains [] x). absurd (none_there x no)) (λ (is : y ≡ x). is) (Contains-push_cases [] y x first)))
    (λ (behind : Contains xs x). inr behind)
    (Contains-append_cases (y ∷ []) xs x there)

off_on : {A : Type 0} → false ≡ true → A
off_on e = absurd (let f : ⊥ = cc in f)

-- it is among them by the test, so it is there
pub among_there : (name : List ℕ) (names : List (List ℕ)) → is_among name names ≡ true → Contains names name
among_there name [] h = off_on h
among_there name (n ∷ names) h = by_it (bytes_eq name n) refl (among_there name names) h
  where
    by_it : (b : Bool) → bytes_eq name n ≡ b → (is_among name names ≡ true → Contains names name) → (b || is_among name names) ≡ true → Contains (n ∷ names) name
    by_it true is behind k = subst (λ (m : List ℕ). Contains (n ∷ names) m) (sym ((bytes_eq-Decides name n).0 is)) (there_first n names)
    by_it false is behind k = there_behind n name names (behind k)

-- .. and the other way round
pub there_among : (name : List ℕ) (names : List (List ℕ)) → Contains names name → is_among name names ≡ true
there_among name [] there = absurd (none_there name there)
there_among name (n ∷ names) there =
    ⊎_elim (λ (is : n ≡ name). ap (λ (b : Bool). b || is_among name names) ((bytes_eq-Decides name n).1 (sym is)))
    (λ (behind : Contains names name). ap (λ (b : Bool). bytes_eq name n || b) (there_among name names behind) ∙ or_true (bytes_eq name n))
    (there_by n name names there)
  where
    or_true : (b : Bool) → (b || true) ≡ true
    or_true true = refl
    or_true false = refl

pub not_among : (name : List ℕ) (names : List (List ℕ)) → is_among name names ≡ false → Contains names name → ⊥
not_among name names off there = off_on (sym off ∙ there_among name names there)

-- ---- names in maps

-- a look-up finds what is among them
pub some_among : {X Y : Type 0} (name : List ℕ) (entries : List (String Y × X)) → is_some (lookup (λ (k : String Y). is_eq (slice_cmp nat_cmp name (string_bytes k))) entries) ≡ is_among name (names_of entries)
some_among {X} {Y} name [] = refl
some_among {X} {Y} name (e ∷ entries) =
    ap (λ (b : Bool). is_some (cond b (Some e.1) (lookup (λ (k : String Y). is_eq (slice_cmp nat_cmp name (string_bytes k))) entries))) (is_eq-slice_cmp name (string_bytes e.0))
    ∙ by_it (bytes_eq name (string_bytes e.0)) (some_among name entries)
  where
    by_it : (b : Bool) → is_some (lookup (λ (k : String Y). is_eq (slice_cmp nat_cmp name (string_bytes k))) entries) ≡ is_among name (names_of entries)
        → is_some (cond b (Some e.1) (lookup (λ (k : String Y). is_eq (slice_cmp nat_cmp name (string_bytes k))) entries)) ≡ (b || is_among name (names_of entries))
    by_it true same = refl
    by_it false same = same

-- the same keys have the same names
pub same_names : {X Y : Type 0} (m n : List (String Y × X)) → keys_of n ≡ keys_of m → names_of n ≡ names_of m
same_names {X} {Y} m n same = of_keys n ∙ ap (λ (keys : List (String Y)). map (λ (k : String Y). string_bytes k) keys) same ∙ sym (of_keys m)
  where
    of_keys : (entries : List (String Y × X)) → names_of entries ≡ map (λ (k : String Y). string_bytes k) (keys_of entries)
    of_keys [] = refl
    of_keys (e ∷ entries) = ap (λ (l : List (List ℕ)). string_bytes e.0 ∷ l) (of_keys entries)

-- what is left was there
pub left_there : {X Y : Type 0} (test : String Y → Bool) (entries : List (String Y × X)) (n : List ℕ) → Contains (names_of (remove_entry test entries)) n → Contains (names_of entries) n
left_there {X} {Y} test [] n there = there
left_there {X} {Y} test (e ∷ entries) n there = by_it (left_there test entries n) (test e.0) there
  where
    by_it : (Contains (names_of (remove_entry test entries)) n → Contains (names_of entries) n) → (b : Bool) → Contains (names_of (cond b entries (e ∷ remove_entry test entries))) n → Contains (names_of (e ∷ entries)) n
    by_it was true kept = there_behind (string_bytes e.0) n (names_of entries) kept
    by_it was false kept =
        ⊎_elim (λ (is : string_bytes e.0 ≡ n). subst (λ (m : List ℕ). Contains (names_of (e ∷ entries)) m) is (there_first (string_bytes e.0) (names_of entries)))
        (λ (behind : Contains (names_of (remove_entry test entries)) n). there_behind (string_bytes e.0) n (names_of entries) (was behind))
        (there_by (string_bytes e.0) n (names_of (remove_entry test entries)) kept)

-- what is new is the key
pub put_there : {X Y : Type 0} (cmp : String Y → String Y → Ordering) (entries : List (String Y × X)) (key : String Y) (value : X) (n : List ℕ)
    → Contains (names_of (insert_entry cmp entries key value)) n → (n ≡ string_bytes key) ⊎ Contains (names_of entries) n
put_there {X} {Y} cmp [] key value n there =
    ⊎_elim (λ (is : string_bytes key ≡ n). inl (sym is)) (λ (no : Contains [] n). absurd (none_there n no)) (there_by (string_bytes key) n [] there)
put_there {X} {Y} cmp (e ∷ entries) key value n there = by_it (put_there cmp entries key value n) (cmp key e.0) there
  where
    by_it : (Contains (names_of (insert_entry cmp entries key value)) n → (n ≡ string_bytes key) ⊎ Contains (names_of entries) n) → (o : Ordering) → Contains (names_of (match_ordering o ((key, value) ∷ e ∷ entries) ((e.0, value) ∷ entries) (e ∷ insert_entry cmp entries key value))) n
        → (n ≡ string_bytes key) ⊎ Contains (names_of (e ∷ entries)) n
    by_it new Less kept = ⊎_elim (λ (is : string_bytes key ≡ n). inl (sym is)) (λ (behind : Contains (names_of (e ∷ entries)) n). inr behind) (there_by (string_bytes key) n (names_of (e ∷ entries)) kept)
    by_it new Equal kept = inr kept
    by_it new Greater kept =
        ⊎_elim (λ (is : string_bytes e.0 ≡ n). inr (subst (λ (m : List ℕ). Contains (names_of (e ∷ entries)) m) is (there_first (string_bytes e.0) (names_of entries))))
        (λ (behind : Contains (names_of (insert_entry cmp entries key value)) n).
        ⊎_elim (λ (is : n ≡ string_bytes key). inl is) (λ (was : Contains (names_of entries) n). inr (there_behind (string_bytes e.0) n (names_of entries) was)) (new behind))
        (there_by (string_bytes e.0) n (names_of (insert_entry cmp entries key value)) kept)

-- .. and who was there stays so, but the one that was taken out
pub stays_there : {X Y : Type 0} (name : List ℕ) (entries : List (String Y × X)) (n : List ℕ) → (n ≡ name → ⊥) → Contains (names_of entries) n
    → Contains (names_of (remove_entry (λ (k : String Y). is_eq (slice_cmp nat_cmp name (string_bytes k))) entries)) n
stays_there {X} {Y} name [] n apart there = there
stays_there {X} {Y} name (e ∷ entries) n apart there = by_it (is_eq (slice_cmp nat_cmp name (string_bytes e.0))) refl (stays_there name entries n apart)
  where
    left : List (String Y × X)
    left = remove_entry (λ (k : String Y). is_eq (slice_cmp nat_cmp name (string_bytes k))) entries

    by_it : (b : Bool) → is_eq (slice_cmp nat_cmp name (string_bytes e.0)) ≡ b → (Contains (names_of entries) n → Contains (names_of left) n)
        → Contains (names_of (cond b entries (e ∷ left))) n
    by_it true is behind =
        ⊎_elim
        (λ (its : string_bytes e.0 ≡ n).
        absurd (apart (sym its ∙ sym ((bytes_eq-Decides name (string_bytes e.0)).0 (sym (is_eq-slice_cmp name (string_bytes e.0)) ∙ is)))))
        (λ (was : Contains (names_of entries) n). was)
        (there_by (string_bytes e.0) n (names_of entries) there)
    by_it false is behind =
        ⊎_elim (λ (its : string_bytes e.0 ≡ n). subst (λ (m : List ℕ). Contains (string_bytes e.0 ∷ names_of left) m) its (there_first (string_bytes e.0) (names_of left)))
        (λ (was : Contains (names_of entries) n). there_behind (string_bytes e.0) n (names_of left) (behind was))
        (there_by (string_bytes e.0) n (names_of entries) there)

pub kept_there : {X Y : Type 0} (cmp : String Y → String Y → Ordering) (entries : List (String Y × X)) (key : String Y) (value : X) (n : List ℕ)
    → Contains (names_of entries) n → Contains (names_of (insert_entry cmp entries key value)) n
kept_there {X} {Y} cmp [] key value n there = absurd (none_there n there)
kept_there {X} {Y} cmp (e ∷ entries) key value n there = by_it (kept_there cmp entries key value n) (cmp key e.0)
  where
    by_it : (Contains (names_of entries) n → Contains (names_of (insert_entry cmp entries key value)) n) → (o : Ordering)
        → Contains (names_of (match_ordering o ((key, value) ∷ e ∷ entries) ((e.0, value) ∷ entries) (e ∷ insert_entry cmp entries key value))) n
    by_it behind Less = there_behind (string_bytes key) n (names_of (e ∷ entries)) there
    by_it behind Equal = there
    by_it behind Greater =
        ⊎_elim
        (λ (is : string_bytes e.0 ≡ n).
        subst (λ (m : List ℕ). Contains (string_bytes e.0 ∷ names_of (insert_entry cmp entries key value)) m) is (there_first (string_bytes e.0) (names_of (insert_entry cmp entries key value))))
        (λ (was : Contains (names_of entries) n). there_behind (string_bytes e.0) n (names_of (insert_entry cmp entries key value)) (behind was))
        (there_by (string_bytes e.0) n (names_of entries) there)
