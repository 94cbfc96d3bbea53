-- What is known of the deadlines of branches, of the one that decides, and of the least.
use Rattle.std.specs.Prelude.{◌≡◌, ◌+◌, ◌<◌, ◌≤◌, ◌∷◌, ◌++◌, ◌⊎◌, ◌||◌, if◌then◌else◌}
use Rattle.gateway_theory.specs.lemmas.Names.{ℕ, zero, suc, Bool, true, false, List, [], map, length, Option, None, Some, refl, sym, ap, ◌∙◌, arith, ⊎_elim, inl, inr, nat_tests, nat_le, slice_index_or, option_and_then, option_map_or, list_any, range_with_len, cases_Bool, eqb-true, le-ltb, length-map-range_with_len, get_or-map-range_with_len, map-range_with_len_more, ext_get_or, PlanRecord, time_of, CallId, CallEvent, Expired, BranchExpired, Mark, Past, ArrivedCall, call, started, started_when, is_out, now, smaller, is_due, least_of, first_at, due_by, deadline_from, branch_deadlines, deadlines_out, deadlines_in, is_some, Reached, ended_call, KeptValue, Live}
use Rattle.gateway_model.specs.Past.{is_at}
use Rattle.gateway_theory.specs.lemmas.LimitLemmas.{out_started}
use Rattle.gateway_theory.specs.Least.{deadline_of, ends_any, least_deadline}

-- the deadline of a branch that has started
abbrev pub branch_deadline : CallId → PlanRecord → Past → ℕ → Option ℕ
branch_deadline id plan past i = deadline_from (started_when id i past) plan i

-- that of a branch while it is out
abbrev pub deadline_out : CallId → PlanRecord → Past → ℕ → Option ℕ
deadline_out id plan past i = option_and_then (λ t. if is_out id i past then Some (started_when id i past + t) else None) (time_of plan i)

-- ---- the least

pub due_smaller : (m : ℕ) (a b : Option ℕ) → is_due m (smaller a b) ≡ (is_due m a || is_due m b)
due_smaller m a b = grind (arith, nat_tests)

at_is : (at : ℕ) (d : Option ℕ) → is_at at d ≡ true → d ≡ Some at
at_is at None e = absurd (cc)
at_is at (Some d) e = ap (λ n. Some n) (eqb-true d at e)

-- the smaller of two is the one or the other
smaller_other : (at : ℕ) (d l : Option ℕ) → smaller d l ≡ Some at → is_at at d ≡ false → l ≡ Some at
smaller_other at d l is also = grind (arith, nat_tests)

-- the least is one of them
pub least_found : (ds : List (Option ℕ)) (at : ℕ) → least_of ds ≡ Some at → list_any (is_at at) ds ≡ true
least_found [] at e = absurd (cc)
least_found (d ∷ ds) at e = grind (arith, least_found ds at)

-- it stands at the first place that has it
pub first_found : (ds : List (Option ℕ)) (at k : ℕ) → list_any (is_at at) ds ≡ true
    → (j : ℕ) × (first_at at k ds ≡ k + j) × (slice_index_or ds j None ≡ Some at) × (j < length ds)
first_found [] at k is = absurd (cc)
first_found (d ∷ ds) at k is = ⊎_elim
    (λ (y : is_at at d ≡ true). (0, rw y (omega arith), at_is at d y, omega arith))
    (λ (n : is_at at d ≡ false). let r = first_found ds at (suc k) (rw n at is) in (suc r.0, rw n (r.1 ∙ omega arith), r.2, omega (arith, r.3)))
    (cases_Bool (is_at at d))

-- what a moment brings is the expiry of the call, whose deadline it has reached, or that of a branch, whose deadline it has reached
abbrev pub ExpiresBy : ℕ → Option ℕ → List (Option ℕ) → CallEvent → Type 0
ExpiresBy moment deadline outs e =
    ((e ≡ Expired moment) × (is_due moment deadline ≡ true))
    ⊎ ((k : ℕ) × (e ≡ BranchExpired k moment) × (k < length outs) × (is_due moment (slice_index_or outs k None) ≡ true))

pub expires : (moment : ℕ) (deadline : Option ℕ) (outs : List (Option ℕ)) (e : CallEvent) → due_by moment deadline outs ≡ Some e → ExpiresBy moment deadline outs e
expires moment deadline outs e is = by_least (smaller deadline (least_of outs)) refl
  where
    by_at : (at : ℕ) → smaller deadline (least_of outs) ≡ Some at → (reached own : Bool) → nat_le at moment ≡ reached → is_at at deadline ≡ own
        → (if reached then Some (if own then Expired moment else BranchExpired (first_at at 0 outs) moment) else None) ≡ Some e → ExpiresBy moment deadline outs e
    by_at at s_is false own r_is o_is x = absurd (cc)
    by_at at s_is true true r_is o_is x = inl (cc, rw (at_is at deadline o_is) r_is)
    by_at at s_is true false r_is o_is x =
        let found = first_found outs at 0 (least_found outs at (smaller_other at deadline (least_of outs) s_is o_is)) in
        let place : first_at at 0 outs ≡ found.0 = found.1 ∙ omega arith in
        let event : BranchExpired (first_at at 0 outs) moment ≡ e = cc in
        inr (found.0, sym event ∙ ap (λ k. BranchExpired k moment) place, found.3, rw found.2 r_is)

    by_least : (s : Option ℕ) → smaller deadline (least_of outs) ≡ s → ExpiresBy moment deadline outs e
    by_least s reached = grind (arith, by_at)

-- ---- lists of deadlines

on_range : {X : Type 0} (d : X) (f g : ℕ → X) (n : ℕ) → ((i : ℕ) → i < n → f i ≡ g i) → map f (range_with_len 0 n) ≡ map g (range_with_len 0 n)
on_range d f g n same =
    ext_get_or d (map f (range_with_len 0 n)) (map g (range_with_len 0 n)) (length-map-range_with_len f 0 n ∙ sym (length-map-range_with_len g 0 n))
    (λ i lt. let below : i < n = omega (arith, lt, length-map-range_with_len f 0 n) in
    get_or-map-range_with_len f 0 n i i d below (omega arith) ∙ same i below ∙ sym (get_or-map-range_with_len g 0 n i i d below (omega arith)))

when_now : (id : CallId) (i : ℕ) (m : Mark) (past : Past) → started id past ≤ i → started_when id i (m ∷ past) ≡ now past
when_now id i m past ge = rw (le-ltb i (started id past) ge) refl

-- those of the branches that had started stay
stay : (id : CallId) (plan : PlanRecord) (m : Mark) (past : Past) → map (branch_deadline id plan (m ∷ past)) (range_with_len 0 (started id past)) ≡ map (branch_deadline id plan past) (range_with_len 0 (started id past))
stay id plan m past = grind (arith, nat_tests, on_range)

-- where no more branches have started they are those of before
pub deadlines_same : (id : CallId) (m : Mark) (past : Past) → call id (m ∷ past) ≡ call id past → started id (m ∷ past) ≡ started id past
    → branch_deadlines id (m ∷ past) ≡ branch_deadlines id past
deadlines_same id m past call_is same =
    ap (λ o. option_map_or (λ c. map (branch_deadline id c.plan (m ∷ past)) (range_with_len 0 (started id (m ∷ past)))) o []) call_is ∙ by_call (call id past)
  where
    by_call : (o : Option ArrivedCall)
        → option_map_or (λ c. map (branch_deadline id c.plan (m ∷ past)) (range_with_len 0 (started id (m ∷ past)))) o []
        ≡ option_map_or (λ c. map (branch_deadline id c.plan past) (range_with_len 0 (started id past))) o []
    by_call o = grind (arith, nat_tests, branch_deadline, stay)

pub deadlines_of : (id : CallId) (a : ArrivedCall) (past : Past) → call id past ≡ Some a
    → branch_deadlines id past ≡ map (branch_deadline id a.plan past) (range_with_len 0 (started id past))
deadlines_of id a past call_is = rw call_is refl

-- where one more has started, its own stands behind them
pub deadlines_more : (id : CallId) (a : ArrivedCall) (m : Mark) (past : Past) → call id past ≡ Some a → call id (m ∷ past) ≡ Some a → started id (m ∷ past) ≡ started id past + 1
    → branch_deadlines id (m ∷ past) ≡ branch_deadlines id past ++ deadline_from (now past) a.plan (started id past) ∷ []
deadlines_more id a m past was is one =
    deadlines_of id a (m ∷ past) is ∙ ap (λ n. map (branch_deadline id a.plan (m ∷ past)) (range_with_len 0 n)) one
    ∙ map-range_with_len_more (branch_deadline id a.plan (m ∷ past)) 0 (started id past) (started id past) (omega arith)
    ∙ ap (λ ds. ds ++ branch_deadline id a.plan (m ∷ past) (started id past) ∷ []) (stay id a.plan m past ∙ sym (deadlines_of id a past was))
    ∙ ap (λ moment. branch_deadlines id past ++ deadline_from moment a.plan (started id past) ∷ []) (when_now id (started id past) m past (omega arith))

-- where the first ones start
pub deadlines_first : (id : CallId) (a : ArrivedCall) (m : Mark) (past : Past) (n : ℕ) → call id (m ∷ past) ≡ Some a → started id past ≡ 0 → started id (m ∷ past) ≡ n
    → branch_deadlines id (m ∷ past) ≡ map (deadline_from (now past) a.plan) (range_with_len 0 n)
deadlines_first id a m past n call_is none first = grind arith

-- ---- those of the branches that are out

in_length : (out : List Bool) (ds : List (Option ℕ)) → length (deadlines_in out ds) ≡ length out
in_length [] ds = refl
in_length (b ∷ out) [] = ap suc (in_length out [])
in_length (b ∷ out) (d ∷ ds) = ap suc (in_length out ds)

either : (b : Bool) (o : Option ℕ) → o ≡ (if b then o else o)
either true o = refl
either false o = refl

abbrev none : List (Option ℕ)
none = []

none_at : (j : ℕ) → slice_index_or none j None ≡ slice_index_or none (suc j) None
none_at zero = refl
none_at (suc j) = refl

in_at : (out : List Bool) (ds : List (Option ℕ)) (j : ℕ) → j < length out
    → slice_index_or (deadlines_in out ds) j None ≡ (if slice_index_or out j false then slice_index_or ds j None else None)
in_at [] ds j lt = absurd (omega (arith, lt))
in_at (b ∷ out) [] zero lt = either b None
in_at (b ∷ out) (d ∷ ds) zero lt = refl
in_at (b ∷ out) [] (suc j) lt = in_at out [] j (omega (arith, lt)) ∙ ap (λ (o : Option ℕ). if slice_index_or out j false then o else None) (none_at j)
in_at (b ∷ out) (d ∷ ds) (suc j) lt = in_at out ds j (omega (arith, lt))

out_deadline : (id : CallId) (plan : PlanRecord) (past : Past) (j : ℕ) (b : Bool) → is_out id j past ≡ b
    → deadline_out id plan past j ≡ (if b then branch_deadline id plan past j else None)
out_deadline id plan past j b b_is = grind arith

-- the deadline of one that has started stands at its place
pub deadline_at : (id : CallId) (a : ArrivedCall) (past : Past) (j : ℕ) → call id past ≡ Some a → j < started id past
    → slice_index_or (branch_deadlines id past) j None ≡ branch_deadline id a.plan past j
deadline_at id a past j call_is lt = grind (arith, nat_tests, deadlines_of, get_or-map-range_with_len)

-- what is kept of the deadlines says which ones stand
pub outs_are : (id : CallId) (a : ArrivedCall) (out : List Bool) (past : Past) → call id past ≡ Some a → length out ≡ length a.plan.branches
    → ((i : ℕ) → slice_index_or out i false ≡ is_out id i past) → deadlines_out id a.plan past ≡ deadlines_in out (branch_deadlines id past)
outs_are id a out past call_is size out_is =
    ext_get_or None (deadlines_out id a.plan past) (deadlines_in out (branch_deadlines id past))
    (length-map-range_with_len (deadline_out id a.plan past) 0 n ∙ sym (in_length out (branch_deadlines id past) ∙ size))
    (λ j lt. let below : j < n = omega (arith, lt, length-map-range_with_len (deadline_out id a.plan past) 0 n) in
    get_or-map-range_with_len (deadline_out id a.plan past) 0 n j j None below (omega arith)
    ∙ by_out j (is_out id j past) refl
    ∙ sym (in_at out (branch_deadlines id past) j (omega (arith, below, size)) ∙ ap (λ b. if b then slice_index_or (branch_deadlines id past) j None else None) (out_is j)))
  where
    n : ℕ
    n = length a.plan.branches

    by_out : (j : ℕ) (b : Bool) → is_out id j past ≡ b
        → deadline_out id a.plan past j ≡ (if is_out id j past then slice_index_or (branch_deadlines id past) j None else None)
    by_out j true b_is = out_deadline id a.plan past j true b_is ∙ rw b_is (sym (deadline_at id a past j call_is (out_started id j past b_is)))
    by_out j false b_is = out_deadline id a.plan past j false b_is ∙ rw b_is refl

-- the branch whose deadline a moment reached is out, and its deadline is among those of the branches that have started
pub reached_out : (id : CallId) (a : ArrivedCall) (past : Past) (moment k : ℕ) → call id past ≡ Some a → k < length (deadlines_out id a.plan past)
    → is_due moment (slice_index_or (deadlines_out id a.plan past) k None) ≡ true
    → (is_out id k past ≡ true) × (is_due moment (slice_index_or (branch_deadlines id past) k None) ≡ true)
reached_out id a past moment k call_is lt due = grind (arith, nat_tests, get_or-map-range_with_len, length-map-range_with_len, deadline_at, out_started, out_deadline)

one_ends : (moment : ℕ) (k : KeptValue) → is_some (ended_call (Reached moment) k.id k.call).reply ≡ is_due moment (deadline_of k)
one_ends moment k = by k.call.live refl
  where
    by : (o : Option Live) → k.call.live ≡ o → is_some (ended_call (Reached moment) k.id k.call).reply ≡ is_due moment (deadline_of k)
    by None is = rw is refl
    by (Some l) is = rw is (⊎_elim
        (λ (due : is_due moment (smaller l.asked.deadline (least_of (deadlines_in k.call.out l.deadlines))) ≡ true). rw due refl)
        (λ (low : is_due moment (smaller l.asked.deadline (least_of (deadlines_in k.call.out l.deadlines))) ≡ false). rw low refl)
        (cases_Bool (is_due moment (smaller l.asked.deadline (least_of (deadlines_in k.call.out l.deadlines))))))

pub ends_due : (moment : ℕ) (calls : List KeptValue) → ends_any moment calls ≡ is_due moment (least_deadline calls)
ends_due moment [] = refl
ends_due moment (k ∷ ks) =
    ap (λ b. b || ends_any moment ks) (one_ends moment k)
    ∙ ap (λ b. is_due moment (deadline_of k) || b) (ends_due moment ks)
    ∙ sym (due_smaller moment (deadline_of k) (least_deadline ks))
