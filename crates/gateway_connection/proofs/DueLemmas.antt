-- What the contexts of a call and of its branches tell is what a moment brings.
use Rattle.gateway_connection.specs.lemmas.Names.{◌==◌, min, true, false, sym, ap, ◌∙◌, ⊎_elim, ◌≡◌, ℕ, suc, List, [], ◌∷◌, Option, None, Some, refl, arith, nat_le, is_some, if◌then◌else◌, option_map, cases_Bool, eq-eqb, sooner_branch, branch_before, first_branch, if_before, option_or, option_map_or, CallEvent, BranchExpired, Expired, CallId, due_by, first_at, is_at, is_due, least_of, smaller, TimedBranch, by_deadline, event_of, Reached, Over, over_by, timed, nat_tests}

-- the branch that stands first, of these deadlines
abbrev pub first_of_least : Over → CallId → Option ℕ → ℕ → List (Option ℕ) → ℕ → TimedBranch
first_of_least over id call k ds at = record { branch = first_at at k ds; deadline = at; ended = option_or (over id call) (over id (Some at)) }

le_min : (x y : ℕ) → nat_le x y ≡ true → min x y ≡ x
le_min x y le = grind (arith, le)

gt_min : (x y : ℕ) → nat_le x y ≡ false → min x y ≡ y
gt_min x y gt = grind (arith, gt)

gt_not : (x y : ℕ) → nat_le x y ≡ false → (x == y) ≡ false
gt_not x y gt = grind (arith, gt)

-- the branch of the least deadline stands at the first place that has it
pub least_first : (over : Over) (id : CallId) (call : Option ℕ) (k : ℕ) (ds : List (Option ℕ)) → first_branch (timed over id call k ds) ≡ option_map (first_of_least over id call k ds) (least_of ds)
least_first over id call k [] = refl
least_first over id call k (None ∷ ds) = least_first over id call (suc k) ds
least_first over id call k (Some x ∷ ds) = ap (λ o. Some (sooner_branch here o)) (least_first over id call (suc k) ds) ∙ by (least_of ds) refl
  where
    here : TimedBranch
    here = record { branch = k; deadline = x; ended = option_or (over id call) (over id (Some x)) }

    by : (o : Option ℕ) → least_of ds ≡ o
        → Some (sooner_branch here (option_map (first_of_least over id call (suc k) ds) o)) ≡ option_map (first_of_least over id call k (Some x ∷ ds)) (smaller (Some x) o)
    by None o_is = rw (eq-eqb x x refl) refl
    by (Some y) o_is = ⊎_elim
        (λ (le : nat_le x y ≡ true). rw (le, le_min x y le, eq-eqb x x refl) refl)
        (λ (gt : nat_le x y ≡ false).
        ap (λ b. Some (if b then here else first_of_least over id call (suc k) ds y)) gt
        ∙ sym (ap (λ m. Some (first_of_least over id call k (Some x ∷ ds) m)) (gt_min x y gt)
        ∙ ap (λ b. Some (record { branch = if b then k else first_at y (suc k) ds; deadline = y; ended = option_or (over id call) (over id (Some y)) })) (gt_not x y gt)))
        (cases_Bool (nat_le x y))

-- what the contexts tell, where the least of the branches' deadlines is that
pub told_by : ℕ → Option ℕ → Option ℕ → (ℕ → ℕ) → Option CallEvent
told_by now call None place = event_of now (by_deadline now call) None
told_by now call (Some y) place = event_of now (by_deadline now call) (if is_some (option_or (by_deadline now call) (by_deadline now (Some y))) then if_before call y (place y) else None)

-- what the moment brings there
pub brought : ℕ → Option ℕ → Option ℕ → (ℕ → ℕ) → Option CallEvent
brought now call least place =
    if is_due now (smaller call least) then Some (option_map_or (λ at. if is_at at call then Expired now else BranchExpired (place at) now) (smaller call least) (Expired now)) else None

pub same_event : (now : ℕ) (call least : Option ℕ) (place : ℕ → ℕ) → told_by now call least place ≡ brought now call least place
unfolding told_by brought
same_event now call least place = grind (arith, nat_tests)

-- a moment ends the call by what its contexts tell
pub moment_event : (now : ℕ) (id : CallId) (call : Option ℕ) (ds : List (Option ℕ))
    → event_of now (by_deadline now call) (branch_before call (timed (over_by (Reached now)) id call 0 ds)) ≡ due_by now call ds
unfolding told_by brought
moment_event now id call ds = grind (arith, nat_tests, least_first, same_event)
