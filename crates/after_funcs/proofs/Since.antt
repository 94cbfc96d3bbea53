-- The hooks that wait are those that nothing since their registration made due or stopped.
use Rattle.std.proofs.Common.{◌≡◌, Bool, true, false, not, List, [], ◌∷◌, ◌++◌, refl, ap, subst, arith, ⊎_elim}
use Rattle.std.specs.List.{Contains, filter, list_any}
use Rattle.std.proofs.lemmas.Bool.{cond_both, or_parts, not-true}
use Rattle.std.proofs.lemmas.List.Elements.{All-contains, All-contains_itself, All-filter, filter_passes, Contains-append_left, Contains-append_right, Contains-push, Contains-push_cases, Contains-append_cases}
use Rattle.after_funcs.specs.declared.registration.Registration.{Registration}
use Rattle.after_funcs.specs.Hooks.{Operation, AfterFunc, Fire, RunNext, Stop, registered, is_on, is_named, waiting}
use Rattle.after_funcs.specs.Whole.{HasWaitedSince, ends_waiting}

-- what a filter keeps was there, and passes
kept_was : {X : Type 0} (p : X → Bool) (xs : List X) (x : X) → Contains (filter p xs) x → Contains xs x
kept_was p xs x kept = All-contains (Contains xs) (filter p xs) x (All-filter p (Contains xs) xs (All-contains_itself xs)) kept

kept_passes : {X : Type 0} (p : X → Bool) (xs : List X) (x : X) → Contains (filter p xs) x → p x ≡ true
kept_passes p xs x kept = All-contains (λ y. p y ≡ true) (filter p xs) x (filter_passes p xs) kept

-- what passes is kept
keeps : {X : Type 0} (p : X → Bool) (xs : List X) (x : X) → p x ≡ true → Contains xs x → Contains (filter p xs) x
keeps p [] x passes there = absurd (omega (arith, there.1))
keeps p (y ∷ ys) x passes there =
    let later : Contains ys x → Contains (filter p (y ∷ ys)) x =
    λ there. cond_both (p y) (y ∷ filter p ys) (filter p ys) (λ zs. Contains zs x) (λ yes. Contains-append_right (y ∷ []) (filter p ys) x (keeps p ys x passes there)) (λ no. keeps p ys x passes there) in
    let first : y ≡ x → Contains (filter p (y ∷ ys)) x = λ same. rw (same, passes) (0, omega arith, refl) in
    ⊎_elim (λ one. ⊎_elim (λ none. absurd (omega (arith, none.1))) first (Contains-push_cases [] y x one)) later (Contains-append_cases (y ∷ []) ys x there)

-- nothing that happens next ends the waiting
goes_on : {H : Type 0} (r : Registration H) (op : Operation H) (past : List (Operation H)) → ends_waiting r op ≡ false → HasWaitedSince r past → HasWaitedSince r (op ∷ past)
goes_on r op past not_now since = record {
  later = op ∷ since.later;
  earlier = since.earlier;
  splits = ap (λ ops. op ∷ ops) since.splits;
  number_is = since.number_is;
  still = rw (not_now, since.still) refl;
}

pub waits_since : {H : Type 0} (past : List (Operation H)) (r : Registration H) → Contains (waiting past) r → HasWaitedSince r past
waits_since [] r there = absurd (omega (arith, there.1))
waits_since (AfterFunc ctx true hook ∷ past) r there = goes_on r _ past refl (waits_since past r there)
waits_since (AfterFunc ctx false hook ∷ past) r there =
    ⊎_elim (λ before. goes_on r _ past refl (waits_since past r before)) (λ same. subst (λ s. HasWaitedSince s (AfterFunc ctx false hook ∷ past)) same (record { later = []; earlier = past; splits = refl; number_is = refl; still = refl })) (Contains-push_cases (waiting past) _ r there)
waits_since (Fire ctx ∷ past) r there =
    goes_on r _ past (not-true (is_on ctx r) (kept_passes _ (waiting past) r there)) (waits_since past r (kept_was _ (waiting past) r there))
waits_since (RunNext ∷ past) r there = goes_on r _ past refl (waits_since past r there)
waits_since (Stop id ∷ past) r there =
    goes_on r _ past (not-true (is_named id r) (kept_passes _ (waiting past) r there)) (waits_since past r (kept_was _ (waiting past) r there))

-- a hook that waits goes on to, where the operation does not end its waiting
still_waits : {H : Type 0} (r : Registration H) (op : Operation H) (past : List (Operation H)) → ends_waiting r op ≡ false → Contains (waiting past) r → Contains (waiting (op ∷ past)) r
still_waits r (AfterFunc ctx true hook) past on there = there
still_waits r (AfterFunc ctx false hook) past on there = Contains-append_left (waiting past) _ r there
still_waits r (Fire ctx) past on there = keeps _ (waiting past) r (ap not on) there
still_waits r RunNext past on there = there
still_waits r (Stop id) past on there = keeps _ (waiting past) r (ap not on) there

waits_after : {H : Type 0} (r : Registration H) (later earlier : List (Operation H)) → r.id ≡ registered earlier → list_any (ends_waiting r) later ≡ false
    → Contains (waiting (later ++ AfterFunc r.ctx false r.hook ∷ earlier)) r
waits_after r [] earlier number still =
    subst (λ n. Contains (waiting earlier ++ record { id = n; ctx = r.ctx; hook = r.hook } ∷ []) r) number (Contains-push (waiting earlier) r)
waits_after r (op ∷ later) earlier number still =
    let both = or_parts (ends_waiting r op) (list_any (ends_waiting r) later) still in
    still_waits r op (later ++ AfterFunc r.ctx false r.hook ∷ earlier) both.0 (waits_after r later earlier number both.1)

pub since_waits : {H : Type 0} (past : List (Operation H)) (r : Registration H) → HasWaitedSince r past → Contains (waiting past) r
since_waits past r since =
    rw since.splits (waits_after r since.later since.earlier since.number_is since.still)
