-- How many clients have a connection.
use Rattle.gateway_loop.proofs.Words.{◌≡◌, ◌≢◌, ℕ, suc, ◌+◌, Bool, false, cond, List, [], ◌∷◌, ◌++◌, Option, None, Some, refl, ap, ◌∙◌, arith, ◌==◌, count_by, option_map_or, sum_by-append, sum_by-cons, ClientValue, LoopValue, at, count_of, entries_from, is_some, map, one_below, option_map, slice_index_or, true, zero}
use Rattle.gateway_loop.proofs.Places.{Put}
use Rattle.std.proofs.lemmas.Bool.Decides.{nat_tests}
use Rattle.gateway_loop.proofs.SumLemmas.{sum_put}

abbrev has_conn : ℕ → Option ClientValue → Bool
has_conn c o = option_map_or (λ (x : ClientValue). x.conn == c) o false

-- one, if there is a client that has it
abbrev one_conn : ℕ → Option ClientValue → ℕ
one_conn c o = cond (has_conn c o) 1 0

-- how many have it that are there, and that are gone
abbrev there_with : ℕ → LoopValue → ℕ
there_with c l = count_by (has_conn c) l.clients

abbrev gone_with : ℕ → List ClientValue → ℕ
gone_with c gone = count_by (λ (x : ClientValue). x.conn == c) gone

-- what stands in that place changed, and no other
module _ (l m : LoopValue) (i : ℕ) (there : (j : ℕ) → j ≢ i → at j m.clients ≡ at j l.clients) (c : ℕ) where
  count_changed : (o n : Option ClientValue) → at i l.clients ≡ o → at i m.clients ≡ n → there_with c m + one_conn c o ≡ there_with c l + one_conn c n
  count_changed o n was now = grind (arith, nat_tests, sum_put)

  pub count_steps : (x y : ClientValue) → at i l.clients ≡ Some x → at i m.clients ≡ Some y → y.conn ≡ x.conn → m.gone ≡ l.gone → count_of c m ≡ count_of c l
  count_steps x y was now same gone =
      let changed : there_with c m + cond (x.conn == c) 1 0 ≡ there_with c l + cond (y.conn == c) 1 0 = count_changed (Some x) (Some y) was now in
      let alike : ◌≡◌ {A = ℕ} (cond (y.conn == c) 1 0) (cond (x.conn == c) 1 0) = ap (λ (n : ℕ). cond (n == c) 1 0) same in
      let rest : gone_with c m.gone ≡ gone_with c l.gone = ap (gone_with c) gone in
      let all : there_with c m + gone_with c m.gone ≡ there_with c l + gone_with c l.gone = omega (arith, changed, alike, rest) in
      all

  pub count_goes : (x : ClientValue) → at i l.clients ≡ Some x → at i m.clients ≡ None → m.gone ≡ l.gone ++ x ∷ [] → count_of c m ≡ count_of c l
  count_goes x was now gone =
      let changed : there_with c m + cond (x.conn == c) 1 0 ≡ there_with c l + 0 = count_changed (Some x) None was now in
      let more : gone_with c m.gone ≡ gone_with c l.gone + gone_with c (x ∷ []) =
      ap (gone_with c) gone ∙ sum_by-append (λ (z : ClientValue). cond (z.conn == c) 1 0) l.gone (x ∷ []) in
      let last : gone_with c (x ∷ []) ≡ cond (x.conn == c) 1 0 + 0 = sum_by-cons (λ (z : ClientValue). cond (z.conn == c) 1 0) x [] in
      let all : there_with c m + gone_with c m.gone ≡ there_with c l + gone_with c l.gone = omega (arith, changed, more, last) in
      all

  pub count_comes : (y : ClientValue) → at i l.clients ≡ None → at i m.clients ≡ Some y → m.gone ≡ l.gone → count_of c m ≡ count_of c l + cond (y.conn == c) 1 0
  count_comes y was now gone =
      let changed : there_with c m + 0 ≡ there_with c l + cond (y.conn == c) 1 0 = count_changed None (Some y) was now in
      let rest : gone_with c m.gone ≡ gone_with c l.gone = ap (gone_with c) gone in
      let all : there_with c m + gone_with c m.gone ≡ there_with c l + gone_with c l.gone + cond (y.conn == c) 1 0 = omega (arith, changed, rest) in
      all

-- nobody came or went
pub count_same : (l m : LoopValue) (c : ℕ) → m.clients ≡ l.clients → m.gone ≡ l.gone → count_of c m ≡ count_of c l
count_same l m c clients gone = rw (clients, gone) refl

-- one connection more
pub one_more : (c n : ℕ) → one_below c n + cond (n == c) 1 0 ≡ one_below c (suc n)
one_more c n = search arith

-- ---- how many are there

module _ {A : Type 0} (old new : List (Option A)) (i : ℕ) where
  abbrev one_there : Option A → ℕ
  one_there o = cond (is_some o) 1 0

  there_put : (o n : Option A) → slice_index_or old i None ≡ o → Put old new i n → count_by is_some new + one_there o ≡ count_by is_some old + one_there n
  there_put o n was put =
      let changed : count_by is_some new + one_there (slice_index_or old i None) ≡ count_by is_some old + one_there (slice_index_or new i None) = sum_put one_there refl old new i put.there in
      let before = ap one_there was in
      let after = ap one_there put.here in
      omega (arith, changed, before, after)

  pub there_still : (x y : A) → slice_index_or old i None ≡ Some x → Put old new i (Some y) → count_by is_some new ≡ count_by is_some old
  there_still x y was put = let changed : count_by is_some new + 1 ≡ count_by is_some old + 1 = there_put (Some x) (Some y) was put in omega (arith, changed)

  pub there_goes : (x : A) → slice_index_or old i None ≡ Some x → Put old new i None → count_by is_some old ≡ count_by is_some new + 1
  there_goes x was put = let changed : count_by is_some new + 1 ≡ count_by is_some old + 0 = there_put (Some x) None was put in omega (arith, changed)

  pub there_comes : (y : A) → slice_index_or old i None ≡ None → Put old new i (Some y) → count_by is_some new ≡ count_by is_some old + 1
  there_comes y was put = let changed : count_by is_some new + 0 ≡ count_by is_some old + 1 = there_put None (Some y) was put in omega (arith, changed)

-- .. as they are shown
shown_there : {A B : Type 0} (f : A → B) (slots : List (Option A)) → count_by is_some (map (λ (o : Option A). option_map f o) slots) ≡ count_by is_some slots
shown_there f [] = refl
shown_there f (None ∷ rest) = search (arith, nat_tests, shown_there f rest)
shown_there f (Some x ∷ rest) = search (arith, nat_tests, shown_there f rest, sum_by-cons)

pub shown_goes : {A B : Type 0} (f : A → B) (old new : List (Option A)) (i : ℕ) (x : A) → slice_index_or old i None ≡ Some x → Put old new i None
    → count_by is_some (map (λ (o : Option A). option_map f o) old) ≡ count_by is_some (map (λ (o : Option A). option_map f o) new) + 1
shown_goes f old new i x was put =
    let before = shown_there f old in
    let after = shown_there f new in
    let goes = there_goes old new i x was put in
    omega (arith, before, after, goes)

-- ---- the first of them

pub none_first : {A : Type 0} (key : ℕ) (slots : List (Option A)) → entries_from key slots ≡ [] → count_by is_some slots ≡ 0
none_first key [] is = refl
none_first key (None ∷ rest) is = search (arith, nat_tests, none_first (key + 1) rest is)
none_first key (Some x ∷ rest) is = absurd (let f : ⊥ = cc in f)

pub first_there : {A : Type 0} (key : ℕ) (slots : List (Option A)) (e : ℕ × A) (others : List (ℕ × A)) → entries_from key slots ≡ e ∷ others
    → (i : ℕ) × (e.0 ≡ key + i) × (slice_index_or slots i None ≡ Some e.1)
first_there key [] e others is = absurd (let f : ⊥ = cc in f)
first_there key (None ∷ rest) e others is = let f = first_there (key + 1) rest e others is in (suc f.0, omega (arith, f.1), f.2)
first_there key (Some x ∷ rest) e others is = (0, search arith, search arith)

mapped_at : {A B : Type 0} (f : A → B) (slots : List (Option A)) (i : ℕ)
    → slice_index_or (map (λ (o : Option A). option_map f o) slots) i None ≡ option_map f (slice_index_or slots i None)
mapped_at f [] i = refl
mapped_at f (o ∷ rest) zero = refl
mapped_at f (o ∷ rest) (suc i) = mapped_at f rest i

-- somebody is in its place
pub first_is_there : {A : Type 0} (slots : List (Option A)) (e : ℕ × A) (others : List (ℕ × A)) → entries_from 0 slots ≡ e ∷ others
    → is_some (slice_index_or slots e.0 None) ≡ true
first_is_there {A} slots e others is =
    let found = first_there 0 slots e others is in
    let place : e.0 ≡ found.0 = omega (arith, found.1) in
    ap (λ (n : ℕ). is_some (slice_index_or slots n None)) place ∙ ap (λ (o : Option A). is_some o) found.2

-- .. as they are shown
pub first_is_shown : {A B : Type 0} (f : A → B) (slots : List (Option A)) (e : ℕ × A) (others : List (ℕ × A)) → entries_from 0 slots ≡ e ∷ others
    → is_some (slice_index_or (map (λ (o : Option A). option_map f o) slots) e.0 None) ≡ true
first_is_shown {A} {B} f slots e others is =
    let found = first_there 0 slots e others is in
    let place : e.0 ≡ found.0 = omega (arith, found.1) in
    ap (λ (n : ℕ). is_some (slice_index_or (map (λ (o : Option A). option_map f o) slots) n None)) place
    ∙ ap (λ (o : Option B). is_some o) (mapped_at f slots found.0)
    ∙ ap (λ (o : Option A). is_some (option_map f o)) found.2

pub none_is_shown : {A B : Type 0} (f : A → B) (slots : List (Option A)) → entries_from 0 slots ≡ []
    → count_by is_some (map (λ (o : Option A). option_map f o) slots) ≡ 0
none_is_shown f slots is = shown_there f slots ∙ none_first 0 slots is
