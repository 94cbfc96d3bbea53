-- The contexts of branches, as their call begins and as it goes on.
use Rattle.gateway_connection.specs.lemmas.Names.{◌≡◌, ℕ, zero, suc, ◌+◌, ◌-◌, ◌<◌, ◌≤◌, Bool, true, false, List, [], ◌∷◌, ◌++◌, map, length, Option, None, Some, refl, sym, ap, ◌∙◌, arith, ⊎_elim, append-nil, slice_index_or, ◌==◌, ◌||◌, if◌then◌else◌, slice_get, slice_set, option_map, option_and_then, option_or, range_with_len, cases_Bool, eq-eqb, lt-ltb, ne_eqb, or_parts, length-map-range_with_len, get_or-map-range_with_len, map-range_with_len_more, drop_branch, PlanRecord, CallId, ArrivedCall, deadline_from, is_call, ContextsValue, Ended, KeepsOthers, LifeValue, TimedBranch, contexts_value, finished, is_life, on_branches, others, with_branches, GoesOn, Over, branch_started, first_started, none_over, timed, first_deadlines, first_out, deadlines_in, deadlines_next, next_out, Live, task_of, nat_tests}

-- ---- the branches of a list of deadlines

module _ (over : Over) (id : CallId) (call : Option ℕ) where
  timed_nones : (k : ℕ) (out : List Bool) → timed over id call k (deadlines_in out []) ≡ []
  timed_nones k [] = refl
  timed_nones k (b ∷ out) = timed_nones (suc k) out

  pub timed_more : (k : ℕ) (ds : List (Option ℕ)) (d : Option ℕ) → timed over id call k (ds ++ d ∷ []) ≡ timed over id call k ds ++ timed over id call (k + length ds) (d ∷ [])
  timed_more k [] d = ap (λ n. timed over id call n (d ∷ [])) (let e : k ≡ k + 0 = omega arith in e)
  timed_more k (None ∷ ds) d =
      timed_more (suc k) ds d ∙ ap (λ n. timed over id call (suc k) ds ++ timed over id call n (d ∷ [])) (let e : suc k + length ds ≡ k + suc (length ds) = omega arith in e)
  timed_more k (Some at ∷ ds) d =
      ap (λ bs. record { branch = k; deadline = at; ended = option_or (over id call) (over id (Some at)) } ∷ bs)
      (timed_more (suc k) ds d ∙ ap (λ n. timed over id call (suc k) ds ++ timed over id call n (d ∷ [])) (let e : suc k + length ds ≡ k + suc (length ds) = omega arith in e))

  -- those whose deadlines these are, where all are out
  pub timed_all : (k : ℕ) (out : List Bool) (ds : List (Option ℕ)) → length ds ≤ length out → ((j : ℕ) → j < length ds → slice_index_or out j false ≡ true)
      → timed over id call k (deadlines_in out ds) ≡ timed over id call k ds
  timed_all k [] [] le all = refl
  timed_all k [] (d ∷ ds) le all = absurd (omega (arith, le))
  timed_all k (b ∷ out) [] le all = timed_nones (suc k) out
  timed_all k (b ∷ out) (None ∷ ds) le all =
      let here : b ≡ true = all 0 (omega arith) in
      rw here (timed_all (suc k) out ds (omega (arith, le)) (λ j lt. all (suc j) (omega (arith, lt))))
  timed_all k (b ∷ out) (Some at ∷ ds) le all =
      let here : b ≡ true = all 0 (omega arith) in
      rw here (ap (λ bs. record { branch = k; deadline = at; ended = option_or (over id call) (over id (Some at)) } ∷ bs)
      (timed_all (suc k) out ds (omega (arith, le)) (λ j lt. all (suc j) (omega (arith, lt)))))

  -- the next one starts
  pub timed_next : (k : ℕ) (out : List Bool) (ds : List (Option ℕ)) (d : Option ℕ) → length ds < length out
      → timed over id call k (deadlines_in (slice_set out (length ds) true) (ds ++ d ∷ [])) ≡ timed over id call k (deadlines_in out ds) ++ timed over id call (k + length ds) (d ∷ [])
  timed_next k [] ds d lt = absurd (omega (arith, lt))
  timed_next k (b ∷ out) [] d lt = grind (arith, nat_tests, timed_nones)
  timed_next k (b ∷ out) (e ∷ ds) d lt = by (if b then e else None) (timed_next (suc k) out ds d (omega (arith, lt))
      ∙ ap (λ n. timed over id call (suc k) (deadlines_in out ds) ++ timed over id call n (d ∷ [])) (let e : suc k + length ds ≡ k + suc (length ds) = omega arith in e))
    where
      by : (o : Option ℕ) → timed over id call (suc k) (deadlines_in (slice_set out (length ds) true) (ds ++ d ∷ [])) ≡ timed over id call (suc k) (deadlines_in out ds) ++ timed over id call (k + suc (length ds)) (d ∷ [])
          → timed over id call k (o ∷ deadlines_in (slice_set out (length ds) true) (ds ++ d ∷ [])) ≡ timed over id call k (o ∷ deadlines_in out ds) ++ timed over id call (k + suc (length ds)) (d ∷ [])
      by None rest = rest
      by (Some at) rest = ap (λ bs. record { branch = k; deadline = at; ended = option_or (over id call) (over id (Some at)) } ∷ bs) rest

  -- one that is not among them is not dropped
  none_dropped : (n k : ℕ) (ds : List (Option ℕ)) → n < k → drop_branch n (timed over id call k ds) ≡ timed over id call k ds
  none_dropped n k [] lt = refl
  none_dropped n k (None ∷ ds) lt = none_dropped n (suc k) ds (omega (arith, lt))
  none_dropped n k (Some at ∷ ds) lt =
      let off : (k == n) ≡ false = ne_eqb k n (λ e. absurd (omega (arith, lt, e))) in
      rw off (ap (λ bs. record { branch = k; deadline = at; ended = option_or (over id call) (over id (Some at)) } ∷ bs) (none_dropped n (suc k) ds (omega (arith, lt))))

  -- one that is no longer out is dropped
  pub timed_dropped : (k i : ℕ) (out : List Bool) (ds : List (Option ℕ)) → timed over id call k (deadlines_in (slice_set out i false) ds) ≡ drop_branch (k + i) (timed over id call k (deadlines_in out ds))
  timed_dropped k i [] ds = refl
  timed_dropped k zero (b ∷ out) [] = timed_nones (suc k) out ∙ sym (ap (drop_branch (k + 0)) (timed_nones (suc k) out))
  timed_dropped k zero (b ∷ out) (d ∷ ds) = grind (arith, nat_tests, none_dropped, eq-eqb)
  timed_dropped k (suc i) (b ∷ out) [] = timed_nones (suc k) (slice_set out i false) ∙ sym (ap (drop_branch (k + suc i)) (timed_nones (suc k) out))
  timed_dropped k (suc i) (b ∷ out) (d ∷ ds) = by (if b then d else None) (timed_dropped (suc k) i out ds
      ∙ ap (λ n. drop_branch n (timed over id call (suc k) (deadlines_in out ds))) (let e : suc k + i ≡ k + suc i = omega arith in e))
    where
      by : (o : Option ℕ) → timed over id call (suc k) (deadlines_in (slice_set out i false) ds) ≡ drop_branch (k + suc i) (timed over id call (suc k) (deadlines_in out ds))
          → timed over id call k (o ∷ deadlines_in (slice_set out i false) ds) ≡ drop_branch (k + suc i) (timed over id call k (o ∷ deadlines_in out ds))
      by None rest = rest
      by (Some at) rest =
          let off : (k == (k + suc i)) ≡ false = ne_eqb k (k + suc i) (λ e. absurd (omega (arith, e))) in
          rw off (ap (λ bs. record { branch = k; deadline = at; ended = option_or (over id call) (over id (Some at)) } ∷ bs) rest)

  dropped_more : (n : ℕ) (bs cs : List TimedBranch) → drop_branch n cs ≡ cs → drop_branch n (bs ++ cs) ≡ drop_branch n bs ++ cs
  dropped_more n [] cs same = same
  dropped_more n (b ∷ bs) cs same = grind (arith, dropped_more n bs cs same)

-- ---- the calls of the contexts

abbrev pub with_last : ContextsValue → LifeValue → ContextsValue
with_last c l = contexts_value c.drained c.conns (c.calls ++ l ∷ [])

abbrev pub mapped : CallId → (LifeValue → LifeValue) → List LifeValue → List LifeValue
mapped id h ls = map (λ l. if is_call l.id id then h l else l) ls

pub none_mapped : (id : CallId) (h : LifeValue → LifeValue) (ls : List LifeValue) → is_life id ls ≡ false → mapped id h ls ≡ ls
none_mapped id h [] none = refl
none_mapped id h (l ∷ ls) none =
    let two = or_parts (is_call l.id id) (is_life id ls) none in
    rw two.0 (ap (λ ms. l ∷ ms) (none_mapped id h ls two.1))

last_mapped : (id : CallId) (h : LifeValue → LifeValue) (ls : List LifeValue) (l : LifeValue) → is_life id ls ≡ false → is_call l.id id ≡ true → mapped id h (ls ++ l ∷ []) ≡ ls ++ h l ∷ []
last_mapped id h [] l none its = rw its refl
last_mapped id h (m ∷ ms) l none its =
    let two = or_parts (is_call m.id id) (is_life id ms) none in
    rw two.0 (ap (λ xs. m ∷ xs) (last_mapped id h ms l two.1 its))

-- the call's branches alone change
pub branches_known : (id x : CallId) (f : LifeValue → List TimedBranch) (c : ContextsValue) → is_life x (on_branches id f c).calls ≡ is_life x c.calls
branches_known id x f c = by c.calls
  where
    one : (l : LifeValue) → is_call (if is_call l.id id then with_branches (f l) l else l).id x ≡ is_call l.id x
    one l = ⊎_elim
        (λ (y : is_call l.id id ≡ true). rw y refl)
        (λ (n : is_call l.id id ≡ false). rw n refl)
        (cases_Bool (is_call l.id id))

    by : (ls : List LifeValue) → is_life x (mapped id (λ l. with_branches (f l) l) ls) ≡ is_life x ls
    by [] = refl
    by (l ∷ ls) = ap (λ b. b || is_life x (mapped id (λ l. with_branches (f l) l) ls)) (one l) ∙ ap (λ b. is_call l.id x || b) (by ls)

pub branches_others : (id : CallId) (f : LifeValue → List TimedBranch) (c : ContextsValue) → KeepsOthers id.conn c (on_branches id f c)
branches_others id f c = record { drained_is = refl; conns_are = refl; others_are = by c.calls }
  where
    by : (ls : List LifeValue) → others id.conn (mapped id (λ l. with_branches (f l) l) ls) ≡ others id.conn ls
    by [] = refl
    by (l ∷ ls) = ⊎_elim
        (λ (y : is_call l.id id ≡ true). ⊎_elim
        (λ (its : (l.id.conn == id.conn) ≡ true). rw (y, its) (by ls))
        (λ (far : (l.id.conn == id.conn) ≡ false). rw (y, far) (absurd (far_call l.id id y far)))
        (cases_Bool (l.id.conn == id.conn)))
        (λ (n : is_call l.id id ≡ false). ⊎_elim
        (λ (its : (l.id.conn == id.conn) ≡ true). rw (n, its) (by ls))
        (λ (far : (l.id.conn == id.conn) ≡ false). rw (n, far) (ap (λ ms. l ∷ ms) (by ls)))
        (cases_Bool (l.id.conn == id.conn)))
        (cases_Bool (is_call l.id id))
      where
        far_call : (a b : CallId) → is_call a b ≡ true → (a.conn == b.conn) ≡ false → ⊥
        far_call a b y far = let clash : true ≡ false = sym (eq-eqb a.conn b.conn (ap (λ (d : CallId). d.conn) (Rattle.gateway_theory.specs.lemmas.LimitLemmas.same_call a b y))) ∙ far in cc

pub started_known : (id x : CallId) (k : ℕ) (d : Option ℕ) (c : ContextsValue) → is_life x (branch_started id k d c).calls ≡ is_life x c.calls
started_known id x k None c = refl
started_known id x k (Some at) c = branches_known id x (λ l. l.branches ++ record { branch = k; deadline = at; ended = l.ended } ∷ []) c

pub started_others : (id : CallId) (k : ℕ) (d : Option ℕ) (c : ContextsValue) → KeepsOthers id.conn c (branch_started id k d c)
started_others id k None c = record { drained_is = refl; conns_are = refl; others_are = refl }
started_others id k (Some at) c = branches_others id (λ l. l.branches ++ record { branch = k; deadline = at; ended = l.ended } ∷ []) c

pub first_known : (id : CallId) (moment : ℕ) (plan : PlanRecord) (n : ℕ) (c : ContextsValue) → is_life id (first_started id moment plan n c).calls ≡ is_life id c.calls
first_known id moment plan zero c = refl
first_known id moment plan (suc n) c = started_known id id n (deadline_from moment plan n) (first_started id moment plan n c) ∙ first_known id moment plan n c

pub first_others : (id : CallId) (moment : ℕ) (plan : PlanRecord) (n : ℕ) (c : ContextsValue) → KeepsOthers id.conn c (first_started id moment plan n c)
first_others id moment plan zero c = record { drained_is = refl; conns_are = refl; others_are = refl }
first_others id moment plan (suc n) c = grind (arith, nat_tests, first_others id moment plan n c, started_others)

-- ---- a call that begins

-- a call's context, which has not ended, and those of these branches
abbrev pub life_on : CallId → ArrivedCall → List TimedBranch → LifeValue
life_on id a branches = record { id = id; deadline = a.deadline; request_id = a.request_id; ended = None; branches = branches }

last_started : (id : CallId) (a : ArrivedCall) (k : ℕ) (d : Option ℕ) (c : ContextsValue) (bs : List TimedBranch) → is_life id c.calls ≡ false → is_call id id ≡ true
    → branch_started id k d (with_last c (life_on id a bs)) ≡ with_last c (life_on id a (bs ++ timed none_over id a.deadline k (d ∷ [])))
last_started id a k None c bs fresh its = ap (λ xs. with_last c (life_on id a xs)) (sym (append-nil bs))
last_started id a k (Some at) c bs fresh its =
    ap (contexts_value c.drained c.conns)
    (last_mapped id (λ l. with_branches (l.branches ++ record { branch = k; deadline = at; ended = l.ended } ∷ []) l) c.calls (life_on id a bs) fresh its)

pub first_is : (id : CallId) (a : ArrivedCall) (moment n : ℕ) (c : ContextsValue) → is_life id c.calls ≡ false → is_call id id ≡ true
    → first_started id moment a.plan n (with_last c (life_on id a [])) ≡ with_last c (life_on id a (timed none_over id a.deadline 0 (map (deadline_from moment a.plan) (range_with_len 0 n))))
first_is id a moment zero c fresh its = refl
first_is id a moment (suc n) c fresh its =
    let d : Option ℕ = deadline_from moment a.plan n in
    let ds : List (Option ℕ) = map (deadline_from moment a.plan) (range_with_len 0 n) in
    let more : map (deadline_from moment a.plan) (range_with_len 0 (suc n)) ≡ ds ++ d ∷ [] =
    ap (λ m. map (deadline_from moment a.plan) (range_with_len 0 m)) (let e : suc n ≡ n + 1 = omega arith in e) ∙ map-range_with_len_more (deadline_from moment a.plan) 0 n n (omega arith) in
    ap (branch_started id n d) (first_is id a moment n c fresh its)
    ∙ last_started id a n d c (timed none_over id a.deadline 0 ds) fresh its
    ∙ ap (λ m. with_last c (life_on id a (timed none_over id a.deadline 0 ds ++ timed none_over id a.deadline m (d ∷ [])))) (let e : n ≡ 0 + length ds = omega (arith, length-map-range_with_len (deadline_from moment a.plan) 0 n) in e)
    ∙ ap (λ bs. with_last c (life_on id a bs)) (sym (timed_more none_over id a.deadline 0 ds d) ∙ ap (timed none_over id a.deadline 0) (sym more))

pub first_timed : (id : CallId) (a : ArrivedCall) (moment : ℕ) → timed none_over id a.deadline 0 (deadlines_in (first_out a) (first_deadlines moment a)) ≡ timed none_over id a.deadline 0 (first_deadlines moment a)
first_timed id a moment = grind (arith, nat_tests, length-map-range_with_len, timed_all, get_or-map-range_with_len, lt-ltb)

-- ---- a call that goes on

on_same : (id : CallId) (f g : LifeValue → List TimedBranch) (c : ContextsValue) → ((l : LifeValue) → f l ≡ g l) → on_branches id f c ≡ on_branches id g c
on_same id f g c same = grind arith

on_twice : (id : CallId) (f g : LifeValue → List TimedBranch) (c : ContextsValue) → on_branches id g (on_branches id f c) ≡ on_branches id (λ l. g (with_branches (f l) l)) c
on_twice id f g c = ap (contexts_value c.drained c.conns) (by c.calls)
  where
    by : (ls : List LifeValue) → mapped id (λ l. with_branches (g l) l) (mapped id (λ l. with_branches (f l) l) ls) ≡ mapped id (λ l. with_branches (g (with_branches (f l) l)) l) ls
    by [] = refl
    by (l ∷ ls) = ⊎_elim
        (λ (y : is_call l.id id ≡ true). rw (y, y) (ap (λ ms. with_branches (g (with_branches (f l) l)) l ∷ ms) (by ls)))
        (λ (n : is_call l.id id ≡ false). rw (n, n) (ap (λ ms. l ∷ ms) (by ls)))
        (cases_Bool (is_call l.id id))

-- the branch that starts, where its call's context ended so
abbrev pub started_of : ℕ → Option ℕ → Ended → List TimedBranch
started_of k None ended = []
started_of k (Some at) ended = record { branch = k; deadline = at; ended = ended } ∷ []

-- the next branch starts, and the one that answered is dropped
abbrev pub passed_branches : ℕ → ℕ → Option ℕ → LifeValue → List TimedBranch
passed_branches branch k d l = drop_branch branch (l.branches ++ started_of k d l.ended)

pub passed_is : (id : CallId) (branch k : ℕ) (d : Option ℕ) (c : ContextsValue) → finished id branch (branch_started id k d c) ≡ on_branches id (passed_branches branch k d) c
passed_is id branch k None c = on_same id (λ l. drop_branch branch l.branches) (passed_branches branch k None) c (λ l. ap (drop_branch branch) (sym (append-nil l.branches)))
passed_is id branch k (Some at) c = on_twice id (λ l. l.branches ++ record { branch = k; deadline = at; ended = l.ended } ∷ []) (λ l. drop_branch branch l.branches) c

started_timed : (id : CallId) (call : Option ℕ) (k : ℕ) (d : Option ℕ) → timed none_over id call k (d ∷ []) ≡ started_of k d None
started_timed id call k None = refl
started_timed id call k (Some at) = refl

-- the first of the branches that wait
next_in : (id : CallId) (a : ArrivedCall) (moment k n r : ℕ) (out : List Bool) (ds : List (Option ℕ)) → n ≡ length ds → r ≡ length a.plan.branches - n → length out ≡ length a.plan.branches
    → timed none_over id a.deadline k (deadlines_in (next_out (map (task_of id a) (range_with_len n r)) out) (ds ++ deadlines_next moment (map (task_of id a) (range_with_len n r))))
    ≡ timed none_over id a.deadline k (deadlines_in out ds) ++ timed none_over id a.deadline (k + length ds) (deadline_from moment a.plan n ∷ [])
next_in id a moment k n zero out ds n_is r_is size =
    let past : slice_get a.plan.branches n ≡ None = Rattle.std.proofs.lemmas.Option.slice_get_past a.plan.branches n (omega (arith, r_is)) in
    let none : deadline_from moment a.plan n ≡ None = ap (λ b. option_map (λ t. moment + t) (option_and_then (λ b. b.timeout_ms) b)) past in
    ap (λ es. timed none_over id a.deadline k (deadlines_in out es)) (append-nil ds)
    ∙ sym (ap (λ d. timed none_over id a.deadline k (deadlines_in out ds) ++ timed none_over id a.deadline (k + length ds) (d ∷ [])) none ∙ append-nil (timed none_over id a.deadline k (deadlines_in out ds)))
next_in id a moment k n (suc r) out ds n_is r_is size = grind (arith, nat_tests, timed_next)

set_length : (out : List Bool) (i : ℕ) (b : Bool) → length (slice_set out i b) ≡ length out
set_length [] i b = refl
set_length (x ∷ out) zero b = refl
set_length (x ∷ out) (suc i) b = ap suc (set_length out i b)

-- where a branch that is out answered, and the call goes on
pub passed_timed : (id : CallId) (moment branch : ℕ) (out : List Bool) (l : Live) → GoesOn id out l → slice_index_or out branch false ≡ true
    → timed none_over id l.asked.deadline 0 (deadlines_in (next_out l.waiting (slice_set out branch false)) (l.deadlines ++ deadlines_next moment l.waiting))
    ≡ drop_branch branch (timed none_over id l.asked.deadline 0 (deadlines_in out l.deadlines) ++ started_of (length l.deadlines) (deadline_from moment l.asked.plan (length l.deadlines)) None)
passed_timed id moment branch out l goes is_out = grind (arith, nat_tests, next_in, set_length, timed_dropped, dropped_more, none_dropped, started_timed)
