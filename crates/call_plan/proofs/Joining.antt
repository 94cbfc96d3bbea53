-- The text of the members so far, as a loop adds them one by one.
use Rattle.std.proofs.Common.{◌≡◌, ℕ, zero, suc, ◌+◌, ◌<◌, ◌≤◌, List, [], ◌∷◌, ◌++◌, length, get_or, take, codes, refl, sym, ◌∙◌, ap, arith, append_assoc, add-one}
use Rattle.std.specs.List.{join_with_byte}
use Rattle.call_plan.specs.declared.branch.Branch.{Branch}
use Rattle.call_plan.specs.Plan.{member_text, member_texts, join_text}

-- the text before the member at i, with no comma at its end
abbrev pub joined_to : List Branch → List (List ℕ) → ℕ → List ℕ
joined_to branches answers i = codes "{" ++ join_with_byte 44 (take i (member_texts branches answers))

join-push : (c : ℕ) (x : List ℕ) (xs : List (List ℕ)) (y : List ℕ) → join_with_byte c (x ∷ xs ++ y ∷ []) ≡ join_with_byte c (x ∷ xs) ++ c ∷ y
join-push c x [] y = refl
join-push c x (z ∷ zs) y = ap (λ rest. x ++ (c ∷ rest)) (join-push c z zs y) ∙ sym (append_assoc x (c ∷ join_with_byte c (z ∷ zs)) (c ∷ y))

take-member_texts : (branches : List Branch) (answers : List (List ℕ)) (i : ℕ) (b : Branch) (a : List ℕ) → i < length branches → i < length answers
    → take (suc i) (member_texts branches answers) ≡ take i (member_texts branches answers) ++ member_text (get_or branches i b).name (get_or answers i a) ∷ []
take-member_texts [] answers i b a h g = absurd (omega arith)
take-member_texts (x ∷ branches) [] i b a h g = absurd (omega arith)
take-member_texts (x ∷ branches) (y ∷ answers) zero b a h g = refl
take-member_texts (x ∷ branches) (y ∷ answers) (suc i) b a h g =
    ap (λ texts. member_text x.name y ∷ texts) (take-member_texts branches answers i b a (omega arith) (omega arith))

take_none : (n : ℕ) → take {A = List ℕ} n [] ≡ []
take_none zero = refl
take_none (suc n) = refl

take_all-member_texts : (branches : List Branch) (answers : List (List ℕ)) (i : ℕ) → length branches ≤ i → take i (member_texts branches answers) ≡ member_texts branches answers
take_all-member_texts [] answers i h = take_none i
take_all-member_texts (x ∷ branches) [] i h = take_none i
take_all-member_texts (x ∷ branches) (y ∷ answers) zero h = absurd (omega arith)
take_all-member_texts (x ∷ branches) (y ∷ answers) (suc i) h = ap (λ texts. member_text x.name y ∷ texts) (take_all-member_texts branches answers i (omega arith))

-- the first member has no comma before it
pub joined-first : (branches : List Branch) (answers : List (List ℕ)) (i : ℕ) (b : Branch) (a : List ℕ) → i ≡ 0 → i < length branches → i < length answers
    → b ≡ get_or branches i b → a ≡ get_or answers i a → joined_to branches answers i ++ member_text b.name a ≡ joined_to branches answers (i + 1)
joined-first [] answers i b a first h g is was = absurd (omega arith)
joined-first (x ∷ branches) [] i b a first h g is was = absurd (omega arith)
joined-first (x ∷ branches) (y ∷ answers) zero b a first h g is was = rw (is, was)
joined-first (x ∷ branches) (y ∷ answers) (suc i) b a first h g is was = cc

-- a later one has
pub joined-more : (branches : List Branch) (answers : List (List ℕ)) (i : ℕ) (b : Branch) (a : List ℕ) → 0 < i → i < length branches → i < length answers
    → b ≡ get_or branches i b → a ≡ get_or answers i a → joined_to branches answers i ++ 44 ∷ [] ++ member_text b.name a ≡ joined_to branches answers (i + 1)
joined-more [] answers i b a later h g is was = absurd (omega arith)
joined-more (x ∷ branches) [] i b a later h g is was = absurd (omega arith)
joined-more (x ∷ branches) (y ∷ answers) zero b a later h g is was = absurd (omega arith)
joined-more (x ∷ branches) (y ∷ answers) (suc i) b a later h g is was =
    let before = take i (member_texts branches answers) in
    let so_far = join_with_byte 44 (member_text x.name y ∷ before) in
    let next : join_with_byte 44 (member_text x.name y ∷ take (suc i) (member_texts branches answers)) ≡ so_far ++ 44 ∷ member_text b.name a =
    rw (take-member_texts branches answers i b a (omega arith) (omega arith), ← is, ← was) (join-push 44 (member_text x.name y) before (member_text b.name a)) in
    ap (λ text. 123 ∷ text) (append_assoc so_far (44 ∷ []) (member_text b.name a) ∙ sym next)
    ∙ ap (λ n. joined_to (x ∷ branches) (y ∷ answers) n) (sym (add-one (suc i)))

pub joined-all : (branches : List Branch) (answers : List (List ℕ)) (i : ℕ) → length branches ≤ i → joined_to branches answers i ++ codes "}" ≡ join_text branches answers
unfolding join_text
joined-all branches answers i h = ap (λ texts. codes "{" ++ join_with_byte 44 texts ++ codes "}") (take_all-member_texts branches answers i h)
