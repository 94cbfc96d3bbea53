-- The names of a plan's branches, as a loop adds them one by one.
use Rattle.std.proofs.Common.{◌≡◌, ℕ, zero, suc, ◌+◌, ◌<◌, ◌≤◌, List, [], ◌∷◌, ◌++◌, length, get_or, take, refl, sym, ◌∙◌, ap, arith, append_assoc, add-one}
use Rattle.call_plan.specs.declared.branch.Branch.{Branch}
use Rattle.admin.specs.declared.names.BranchName.{BranchName}
use Rattle.admin.specs.Names.{named_from}

abbrev pub named : List ℕ → ℕ → List ℕ → BranchName
named path n name = record { plan = path; number = n; name = name }

take_named : (path : List ℕ) (n : ℕ) (bs : List Branch) (i : ℕ) (b : Branch) → i < length bs
    → take (suc i) (named_from path n bs) ≡ take i (named_from path n bs) ++ named path (n + i) (get_or bs i b).name ∷ []
take_named path n [] i b h = absurd (omega arith)
take_named path n (x ∷ bs) zero b h = ap (λ m. named path m x.name ∷ []) (omega arith)
take_named path n (x ∷ bs) (suc i) b h =
    ap (λ names. named path n x.name ∷ names)
    (take_named path (suc n) bs i b (omega arith)
    ∙ ap (λ m. take i (named_from path (suc n) bs) ++ named path m (get_or bs i b).name ∷ []) (omega arith))

from_none : (i : ℕ) → i ≡ 0 + i
from_none i = omega arith

-- one more
pub named-more : (old : List BranchName) (path : List ℕ) (bs : List Branch) (i : ℕ) (b : Branch) → i < length bs → b ≡ get_or bs i b
    → (old ++ take i (named_from path 0 bs)) ++ named path i b.name ∷ [] ≡ old ++ take (i + 1) (named_from path 0 bs)
named-more old path bs i b h is =
    append_assoc old (take i (named_from path 0 bs)) (named path i b.name ∷ [])
    ∙ ap (λ rest. old ++ rest)
    (ap (λ (x : Branch). take i (named_from path 0 bs) ++ named path i x.name ∷ []) is
    ∙ ap (λ n. take i (named_from path 0 bs) ++ named path n (get_or bs i b).name ∷ []) (from_none i)
    ∙ sym (take_named path 0 bs i b h) ∙ ap (λ n. take n (named_from path 0 bs)) (sym (add-one i)))

take_none : (n : ℕ) → take {A = BranchName} n [] ≡ []
take_none zero = refl
take_none (suc n) = refl

pub named-all : (path : List ℕ) (n : ℕ) (bs : List Branch) (i : ℕ) → length bs ≤ i → take i (named_from path n bs) ≡ named_from path n bs
named-all path n [] i h = take_none i
named-all path n (x ∷ bs) zero h = absurd (omega arith)
named-all path n (x ∷ bs) (suc i) h = ap (λ names. named path n x.name ∷ names) (named-all path (suc n) bs i (omega arith))
