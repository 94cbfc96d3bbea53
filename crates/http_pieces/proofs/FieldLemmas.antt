-- Names without case, and the fields of a name.
use Rattle.std.proofs.Common.{◌≡◌, ℕ, suc, ◌+◌, ◌<◌, ◌≤◌, ◌==◌, ◌≢◌, subst, length-append, ◌||◌, cond, Option, Some, None, nat_lt, get_or, length, take, drop, add-one, Bool, true, false, nat_eq, List, [], ◌∷◌, ◌++◌, map, refl, sym, ap, ◌∙◌, arith, ◌↔◌, IsTrue, append_assoc}
use Rattle.std.proofs.lemmas.Bool.{eqb-true, eq-eqb}
use Rattle.std.proofs.lemmas.Bool.Decides.{nat_tests}
use Rattle.std.specs.Char.{to_ascii_lowercase}
use Rattle.std.specs.List.{position_or_len, position}
use Rattle.std.specs.Cmp.Lexicographic.{pointwise}
use Rattle.http_pieces.specs.Fields.{NamedValue, same_without_case, values_of, comma_parts, is_option, has_option, IsFieldOf}
use Rattle.http_pieces.specs.declared.field.Field.{Field}
use Rattle.http_pieces.specs.declared.field.Field.TheVariants as field
use Rattle.std.specs.Borrow.{Bor}
use Rattle.std.specs.Option.{MatchOption}
use Rattle.httparse.specs.declared.spans.HeaderSpan.{HeaderSpan}
use Rattle.std.proofs.lemmas.List.{drop_more}
use Rattle.std.proofs.Math.Bool.{or-false}

pub pointwise_refl : (xs : List ℕ) → pointwise nat_eq xs xs ≡ true
pointwise_refl [] = refl
pointwise_refl (x ∷ xs) = rw (eq-eqb x x refl, pointwise_refl xs)

pub pointwise_eq : (xs ys : List ℕ) → pointwise nat_eq xs ys ≡ true → xs ≡ ys
pointwise_eq [] [] e = refl
pointwise_eq [] (y ∷ ys) e = absurd (cc)
pointwise_eq (x ∷ xs) [] e = absurd (cc)
pointwise_eq (x ∷ xs) (y ∷ ys) e = by_head (pointwise_eq xs ys) (nat_eq x y) refl
  where
    by_head : (pointwise nat_eq xs ys ≡ true → xs ≡ ys) → (t : Bool) → nat_eq x y ≡ t → (x ∷ xs) ≡ (y ∷ ys)
    by_head later true same =
        let tails : pointwise nat_eq xs ys ≡ true = rw same at e in
        rw (eqb-true x y same, later tails) refl
    by_head later false other = absurd (let wrong : false ≡ true = rw other at e in cc)

bool_from_iff : (t u : Bool) → (t ≡ true → u ≡ true) → (u ≡ true → t ≡ true) → t ≡ u
bool_from_iff true u to from = sym (to refl)
bool_from_iff false true to from = from refl
bool_from_iff false false to from = refl

-- what the test without case answers
pub same_is : (a b : List ℕ) (t : Bool) → IsTrue t ↔ (map to_ascii_lowercase a ≡ map to_ascii_lowercase b) → t ≡ same_without_case a b
unfolding same_without_case
same_is a b t h =
    bool_from_iff t _ (λ yes. rw (h.0 yes) (pointwise_refl (map to_ascii_lowercase b))) (λ yes. h.1 (pointwise_eq (map to_ascii_lowercase a) (map to_ascii_lowercase b) yes))

abbrev is_comma : ℕ → Bool
is_comma b = b == 44

-- the parts by the place of the first comma
pub record CutAtComma (xs : List ℕ) (n : ℕ) : Type 0 where
  pub found : n < length xs → comma_parts xs ≡ take n xs ∷ comma_parts (drop (n + 1) xs)
  pub none : length xs ≤ n → comma_parts xs ≡ xs ∷ []

cut_later : (x : ℕ) (xs : List ℕ) (n : ℕ) → is_comma x ≡ false → CutAtComma xs n → CutAtComma (x ∷ xs) (1 + n)
cut_later x xs n other cut =
    let suc_n : 1 + n ≡ suc n = omega arith in
    record {
      found = λ lt. rw (other, suc_n, add-one (suc n), cut.found (omega arith), add-one n);
      none = λ le. rw (other, cut.none (omega arith));
    }

pub comma_cut : (xs : List ℕ) → CutAtComma xs (position_or_len is_comma xs)
comma_cut [] = record { found = λ lt. absurd (omega arith); none = λ le. refl }
comma_cut (x ∷ xs) = by_first (comma_cut xs) (is_comma x) refl
  where
    by_first : CutAtComma xs (position_or_len is_comma xs) → (t : Bool) → is_comma x ≡ t → CutAtComma (x ∷ xs) (position_or_len is_comma (x ∷ xs))
    by_first later true comma = rw comma (record { found = λ lt. rw comma; none = λ le. absurd (omega arith) })
    by_first later false other = rw other (cut_later x xs _ other later)

position_some : (xs : List ℕ) (i : ℕ) → position is_comma xs ≡ Some i → (position_or_len is_comma xs ≡ i) × (i < length xs)
position_some xs i e = by_test (nat_lt n (length xs)) refl
  where
    n : ℕ
    n = position_or_len is_comma xs

    by_test : (t : Bool) → nat_lt n (length xs) ≡ t → (n ≡ i) × (i < length xs)
    by_test true lt =
        let some : Some n ≡ Some i = rw lt at e in
        let same : n ≡ i = cc in
        let below : n < length xs = grind (arith, nat_tests) in
        (same, omega arith)
    by_test false ge = absurd (let none : None ≡ Some i = rw ge at e in cc)

position_none : (xs : List ℕ) → position is_comma xs ≡ None → length xs ≤ position_or_len is_comma xs
position_none xs e = by_test (nat_lt n (length xs)) refl
  where
    n : ℕ
    n = position_or_len is_comma xs

    by_test : (t : Bool) → nat_lt n (length xs) ≡ t → length xs ≤ n
    by_test true lt = absurd (let some : Some n ≡ None = rw lt at e in cc)
    by_test false ge = grind (arith, nat_tests)

-- the first comma splits off the first part
pub cut_at : (xs : List ℕ) (i : ℕ) → position is_comma xs ≡ Some i → comma_parts xs ≡ take i xs ∷ comma_parts (drop (i + 1) xs)
cut_at xs i e =
    let h = position_some xs i e in
    let cut = comma_cut xs in
    rw (sym h.0) (cut.found (omega arith))

-- with no comma the text is one part
pub cut_nowhere : (xs : List ℕ) → position is_comma xs ≡ None → comma_parts xs ≡ xs ∷ []
cut_nowhere xs e = (comma_cut xs).none (position_none xs e)

pub has_option_last : (name xs part : List ℕ) → comma_parts xs ≡ part ∷ [] → has_option name xs ≡ is_option name part
unfolding has_option
has_option_last name xs part e = rw e (or-false _)

pub has_option_step : (name xs part rest : List ℕ) → comma_parts xs ≡ part ∷ comma_parts rest → has_option name xs ≡ (is_option name part || has_option name rest)
unfolding has_option
has_option_step name xs part rest e = rw e refl

pub values_step : (name : List ℕ) (f : HeaderSpan → NamedValue) (hs : List HeaderSpan) (i : ℕ) (d : HeaderSpan) → i < length hs
    → values_of name (map f (drop i hs))
    ≡ cond (same_without_case (f (get_or hs i d)).0 name) ((f (get_or hs i d)).1 ∷ values_of name (map f (drop (i + 1) hs))) (values_of name (map f (drop (i + 1) hs)))
values_step name f hs i d lt = rw (drop_more hs i d lt) refl

-- an option of the name decides
pub has_option_found : (name xs part : List ℕ) (o : Option (Bor (List ℕ)))
    → MatchOption o (comma_parts xs ≡ part ∷ []) (λ after. comma_parts xs ≡ part ∷ comma_parts after.now)
    → is_option name part ≡ true → has_option name xs ≡ true
has_option_found name xs part None e decided = has_option_last name xs part e ∙ decided
has_option_found name xs part (Some after) e decided =
    has_option_step name xs part after.now e ∙ ap (λ t. t || has_option name after.now) decided

-- another leaves it to what follows its comma
pub has_option_left : (name xs part : List ℕ) (o : Option (Bor (List ℕ))) (after : Bor (List ℕ))
    → MatchOption o (comma_parts xs ≡ part ∷ []) (λ later. comma_parts xs ≡ part ∷ comma_parts later.now)
    → is_option name part ≡ false → o ≡ Some after → has_option name xs ≡ has_option name after.now
has_option_left name xs part None after e other some = absurd (cc)
has_option_left name xs part (Some later) after e other some =
    let same : later ≡ after = cc in
    has_option_step name xs part later.now e ∙ ap (λ t. t || has_option name later.now) other ∙ ap (λ x. has_option name x.now) same

-- what is found after one more value of the name
pub found_first : (front : List (List ℕ)) (found : Field) (value : Bor (List ℕ)) (rest all : List (List ℕ)) → IsFieldOf front found → found ≡ field.None
    → all ≡ front ++ (value.now ∷ rest)
    → (longer : List (List ℕ)) × IsFieldOf longer (field.One value) × (all ≡ longer ++ rest)
found_first front found value rest all is none e =
    let empty : front ≡ [] = subst (IsFieldOf front) none is in
    (value.now ∷ [], refl, e ∙ ap (λ xs. xs ++ (value.now ∷ rest)) empty)

pub found_again : (front : List (List ℕ)) (found : Field) (v : List ℕ) (rest all : List (List ℕ)) → IsFieldOf front found → found ≢ field.None
    → all ≡ front ++ (v ∷ rest)
    → (longer : List (List ℕ)) × IsFieldOf longer field.Many × (all ≡ longer ++ rest)
found_again front field.None v rest all is some e = absurd (some refl)
found_again front (field.One value) v rest all is some e =
    (front ++ v ∷ [], omega (arith, length-append {A = List ℕ} front (v ∷ []), ap length is), e ∙ sym (append_assoc front (v ∷ []) rest))
found_again front field.Many v rest all is some e =
    (front ++ v ∷ [], omega (arith, length-append {A = List ℕ} front (v ∷ [])), e ∙ sym (append_assoc front (v ∷ []) rest))
