-- Each hook has one place.
use Rattle.std.proofs.Common.{◌≡◌, ℕ, ◌+◌, true, false, not, nat_eq, nat_lt, if◌then◌else◌, List, [], ◌∷◌, ◌++◌, take, refl, arith}
use Rattle.std.specs.List.{filter, count_by}
use Rattle.std.proofs.lemmas.List.Sums.{sum_by-append, sum_by-take-drop}
use Rattle.std.proofs.lemmas.List.Filters.{sum_by-filter_both}
use Rattle.std.proofs.lemmas.Bool.Decides.{nat_tests}
use Rattle.after_funcs.specs.declared.registration.Registration.{Registration}
use Rattle.after_funcs.specs.Hooks.{Operation, AfterFunc, Fire, RunNext, Stop, registered, next, is_on, is_named, waiting, due}
use Rattle.after_funcs.specs.Whole.{called, stopped}

-- in how many of the four lists that hook stands, and how often
abbrev places : {H : Type 0} → ℕ → List (Operation H) → ℕ
places id past =
    count_by (is_named id) (waiting past) + count_by (is_named id) (due past) + count_by (is_named id) (called past) + count_by (is_named id) (stopped past)

abbrev count : {H : Type 0} → ℕ → List (Registration H) → ℕ
count id rs = count_by (is_named id) rs

count-append : {H : Type 0} (id : ℕ) (rs ss : List (Registration H)) → count id (rs ++ ss) ≡ count id rs + count id ss
count-append id rs ss = sum_by-append _ rs ss

-- one hook more
one_more : (id n : ℕ) → (if nat_lt id (n + 1) then 1 else 0) ≡ (if nat_lt id n then 1 else 0) + (if nat_eq n id then 1 else 0)
one_more id n = grind (arith, nat_tests)

pub one_place : {H : Type 0} (past : List (Operation H)) (id : ℕ) → places id past ≡ (if nat_lt id (registered past) then 1 else 0)
one_place [] id = grind (arith, nat_tests)
one_place (AfterFunc ctx true hook ∷ past) id =
    rw (one_more id (registered past)) (omega (arith, count-append id (due past) (next ctx hook past), one_place past id))
one_place (AfterFunc ctx false hook ∷ past) id =
    rw (one_more id (registered past)) (omega (arith, count-append id (waiting past) (next ctx hook past), one_place past id))
one_place (Fire ctx ∷ past) id =
    omega (arith, count-append id (due past) (filter (is_on ctx) (waiting past)), sum_by-filter_both (is_on ctx) (λ r. not (is_on ctx r)) (λ r. refl) (λ r. if is_named id r then 1 else 0) (waiting past), one_place past id)
one_place (RunNext ∷ past) id =
    omega (arith, count-append id (called past) (take 1 (due past)), sum_by-take-drop (λ r. if is_named id r then 1 else 0) (due past) 1, one_place past id)
one_place (Stop other ∷ past) id =
    omega (arith, count-append id (stopped past) (filter (is_named other) (waiting past)), sum_by-filter_both (is_named other) (λ r. not (is_named other r)) (λ r. refl) (λ r. if is_named id r then 1 else 0) (waiting past), one_place past id)
