-- No call has more branches out than its plan's limit.
use Rattle.std.specs.Prelude.{◌≡◌, ◌+◌, ◌≤◌, ◌<◌, ◌∷◌, ◌&&◌, ◌||◌, ◌==◌}
use Rattle.gateway_theory.specs.lemmas.Names.{ℕ, zero, suc, min, Bool, true, false, List, [], Option, None, Some, refl, sym, ◌∙◌, arith, length, ⊎_elim, nat_tests, is_none, not, nat_lt, option_or, option_map_or, cond_both, cases_Bool, ltb-true, ltb-false, lt-ltb, le-ltb, eqb-true, eq-eqb, ne_eqb, and_parts, CallId, Answer, Fail, Occurrence, Opening, Comes, HangUp, Moment, Result, Drain, Closing, Break, Mark, Past, ArrivedCall, call, answers, branches, began, started, is_out, is_result_of, is_answer_to, is_call, count_below, outs, counts, can_be_decided, mark_of, marked, asked_now, ends_at_arrival}
use Rattle.gateway_theory.specs.lemmas.PastLemmas.{call_stays}
use Rattle.gateway_theory.specs.lemmas.Cases.{and_false as and_no, or_true as or_yes}

-- ---- counting

pub count_less : (n : ℕ) (p q : ℕ → Bool) → ((i : ℕ) → i < n → p i ≡ true → q i ≡ true) → count_below n p ≤ count_below n q
count_less zero p q h = omega arith
count_less (suc n) p q h = grind (arith, count_less n p q)

count_none : (n : ℕ) (p : ℕ → Bool) → ((i : ℕ) → i < n → p i ≡ false) → count_below n p ≡ 0
count_none zero p h = refl
count_none (suc n) p h = rw (h n (omega arith)) (count_none n p (λ i lt. h i (omega (arith, lt))))

-- one number is one at most
count_one : (n s : ℕ) → count_below n (λ i. i == s) ≤ 1
count_one zero s = omega arith
count_one (suc n) s = grind (arith, nat_tests, count_one n s, count_none, ne_eqb, eqb-true)

count_or : (n : ℕ) (p q r : ℕ → Bool) → ((i : ℕ) → i < n → p i ≡ true → (q i || r i) ≡ true) → count_below n p ≤ count_below n q + count_below n r
count_or zero p q r h = omega arith
count_or (suc n) p q r h = grind (arith, count_or n p q r)

-- without one of them there is one fewer
pub count_without : (n j : ℕ) (q : ℕ → Bool) → j < n → q j ≡ true → suc (count_below n (λ i. q i && not (i == j))) ≤ count_below n q
count_without zero j q lt has = absurd (omega arith)
count_without (suc n) j q lt has = grind (arith, nat_tests, count_without n j q, count_less, and_parts, eq-eqb, ne_eqb)

pub count_most : (n : ℕ) (p : ℕ → Bool) → count_below n p ≤ n
count_most zero p = omega arith
count_most (suc n) p = cond_both (p n) (suc (count_below n p)) (count_below n p) (λ k. k ≤ suc n) (λ _. omega (arith, count_most n p)) (λ _. omega (arith, count_most n p))

-- those below s are s at most
count_lt : (n s : ℕ) → count_below n (λ i. nat_lt i s) ≤ s
count_lt zero s = omega arith
count_lt (suc n) s = grind (arith, nat_tests, count_lt n s, count_most, lt-ltb, le-ltb)

-- ---- on the words

pub same_call : (a b : CallId) → is_call a b ≡ true → a ≡ b
same_call a b e = grind arith

some_of : (x : Option ArrivedCall) (c : ArrivedCall) → (d : ArrivedCall) × (option_or x (Some c) ≡ Some d)
some_of None c = (c, refl)
some_of (Some d) c = (d, refl)

called_by : (id : CallId) (m : Mark) (past : Past) (o : Option ArrivedCall) → asked_now id m past ≡ o
    → option_map_or (λ c. is_none (ends_at_arrival past c)) o false ≡ true → (d : ArrivedCall) × (call id (m ∷ past) ≡ Some d)
called_by id m past None o_is e = absurd (cc)
called_by id m past (Some c) o_is e = let d = some_of (call id past) c in (d.0, rw o_is d.1)

-- a call that began has arrived
pub began_called : (id : CallId) (past : Past) → began id past ≡ true → (c : ArrivedCall) × (call id past ≡ Some c)
began_called id [] e = absurd (cc)
began_called id (m ∷ past) e =
    ⊎_elim (λ (before : began id past ≡ true). let c = began_called id past before in (c.0, call_stays id m past c.0 c.1))
    (λ (now : began id past ≡ false). called_by id m past (asked_now id m past) refl (rw now at e))
    (cases_Bool (began id past))

pub unbegun : (id : CallId) (past : Past) → began id past ≡ false → started id past ≡ 0
unbegun id past e = rw e refl

begun : (id : CallId) (past : Past) (c : ArrivedCall) → began id past ≡ true → call id past ≡ Some c
    → started id past ≡ min (length c.plan.branches) (c.plan.limit + answers id past)
begun id past c e c_is = rw (e, c_is) refl

began_stays : (id : CallId) (m : Mark) (past : Past) → began id past ≡ true → began id (m ∷ past) ≡ true
began_stays id m past e = rw e refl

pub started_grows : (id : CallId) (m : Mark) (past : Past) → started id past ≤ started id (m ∷ past)
started_grows id m past = grind arith

-- a branch that is out has started
pub out_started : (id : CallId) (i : ℕ) (past : Past) → is_out id i past ≡ true → i < started id past
out_started id i [] e = absurd (cc)
out_started id i (m ∷ past) e = grind (arith, nat_tests, ltb-true, started_grows)

-- a result that counts is of a branch that is out
answer_out : (id : CallId) (past : Past) (o : Occurrence) → (counts o past && is_answer_to id o) ≡ true
    → (j : ℕ) × (is_out id j past ≡ true) × ((i : ℕ) → is_result_of id i o ≡ (j == i))
answer_out id past (Result of j (Answer body)) e =
    let p = and_parts (counts (Result of j (Answer body)) past) (is_call of id) e in
    let same : of ≡ id = same_call of id p.1 in
    let out : is_out of j past ≡ true = (and_parts (is_out of j past) (can_be_decided of past) p.0).0 in
    (j, rw (← same) out, λ i. rw p.1 refl)
answer_out id past (Result of j (Fail error)) e = absurd (let no : false ≡ true = rw (and_no (counts (Result of j (Fail error)) past)) at e in cc)
answer_out id past Opening e = absurd (cc)
answer_out id past (Comes c x) e = absurd (let no : false ≡ true = rw (and_no (counts (Comes c x) past)) at e in cc)
answer_out id past (HangUp c) e = absurd (cc)
answer_out id past (Moment t) e = absurd (cc)
answer_out id past Drain e = absurd (cc)
answer_out id past (Closing c) e = absurd (cc)
answer_out id past (Break c) e = absurd (cc)

-- before a call begins no answer of it counts
pub unanswered_next : (id : CallId) (past : Past) (o : Occurrence) → began id past ≡ false → answers id past ≡ 0
    → answers id (mark_of past o ∷ past) ≡ 0
unanswered_next id past o unbegan none = grind (arith, nat_tests, answer_out, out_started, unbegun)

pub unanswered : (id : CallId) (os : List Occurrence) → began id (marked os) ≡ false → answers id (marked os) ≡ 0
unanswered id [] unbegan = refl
unanswered id (o ∷ os) unbegan =
    ⊎_elim (λ (before : began id (marked os) ≡ true). absurd (let yes_now : true ≡ false = rw before at unbegan in cc))
    (λ (not_yet : began id (marked os) ≡ false). unanswered_next id (marked os) o not_yet (unanswered id os not_yet))
    (cases_Bool (began id (marked os)))

-- ---- the limit

-- a call that begins has no more branches out than its limit
fresh : (id : CallId) (os : List Occurrence) (o : Occurrence) (c : ArrivedCall) → began id (marked os) ≡ false
    → call id (mark_of (marked os) o ∷ marked os) ≡ Some c → outs id (mark_of (marked os) o ∷ marked os) ≤ c.plan.limit
fresh id os o c unbegan c_is =
    let past : Past = marked os in
    let next : Past = (mark_of past o ∷ past) in
    let zero_started : started id past ≡ 0 = unbegun id past unbegan in
    let none : answers id next ≡ 0 = unanswered_next id past o unbegan (unanswered id os unbegan) in
    let few : started id next ≤ c.plan.limit =
    ⊎_elim (λ (yes_now : began id next ≡ true). rw (begun id next c yes_now c_is, none) (omega arith))
    (λ (still : began id next ≡ false). rw (unbegun id next still) (omega arith))
    (cases_Bool (began id next)) in
    let less : outs id next ≤ count_below (branches id next) (λ i. nat_lt i (started id next)) =
    count_less (branches id next) (λ i. is_out id i next) (λ i. nat_lt i (started id next)) (λ i lt e. lt-ltb i (started id next) (out_started id i next e)) in
    omega (arith, less, count_lt (branches id next) (started id next), few)

answers_one : (id : CallId) (m : Mark) (past : Past) → answers id (m ∷ past) ≤ answers id past + 1
answers_one id m past =
    cond_both (m.counted && is_answer_to id m.what) (suc (answers id past)) (answers id past) (λ n. n ≤ answers id past + 1) (λ _. omega arith) (λ _. omega arith)

-- which branches are out after a counted answer of branch j
out_next : (id : CallId) (m : Mark) (past : Past) (i j : ℕ) → ((k : ℕ) → is_result_of id k m.what ≡ (j == k))
    → started id (m ∷ past) ≤ started id past + 1 → is_out id i (m ∷ past) ≡ true
    → ((is_out id i past && not (i == j)) || (i == started id past)) ≡ true
out_next id m past i j results most e = grind (arith, nat_tests, and_parts, eq-eqb, ne_eqb, ltb-true, ltb-false, or_yes)

-- an answer that counts frees one branch, and starts at most one
freed : (id : CallId) (m : Mark) (past : Past) (c : ArrivedCall) → began id past ≡ true → call id past ≡ Some c
    → (j : ℕ) → is_out id j past ≡ true → ((i : ℕ) → is_result_of id i m.what ≡ (j == i))
    → outs id (m ∷ past) ≤ outs id past
freed id m past c began_is c_is j out results =
    let n : ℕ = length c.plan.branches in
    let s : ℕ = started id past in
    let same_n : branches id (m ∷ past) ≡ n = rw (call_stays id m past c c_is) refl in
    let old_n : branches id past ≡ n = rw c_is refl in
    let most : started id (m ∷ past) ≤ s + 1 =
    rw (begun id past c began_is c_is, begun id (m ∷ past) c (began_stays id m past began_is) (call_stays id m past c c_is)) (omega (arith, answers_one id m past)) in
    let within : j < n = (let lt : j < s = out_started id j past out in let le : s ≤ n = rw (begun id past c began_is c_is) (omega arith) in omega (arith, lt, le)) in
    let both : count_below n (λ i. is_out id i (m ∷ past)) ≤ count_below n (λ i. is_out id i past && not (i == j)) + count_below n (λ i. i == s) =
    count_or n (λ i. is_out id i (m ∷ past)) (λ i. is_out id i past && not (i == j)) (λ i. i == s) (λ i lt e. out_next id m past i j results most e) in
    let less : suc (count_below n (λ i. is_out id i past && not (i == j))) ≤ count_below n (λ i. is_out id i past) = count_without n j (λ i. is_out id i past) within out in
    rw (same_n, old_n) (omega (arith, both, less, count_one n s))

-- where no answer counts, no branch comes out
no_more : (id : CallId) (m : Mark) (past : Past) (c : ArrivedCall) → began id past ≡ true → call id past ≡ Some c
    → (m.counted && is_answer_to id m.what) ≡ false → outs id (m ∷ past) ≤ outs id past
no_more id m past c began_is c_is none = grind (arith, nat_tests, call_stays, begun, began_stays, count_less, and_parts)

some_injective : (a b : ArrivedCall) → Some a ≡ Some b → a ≡ b
some_injective a b e = cc

-- before any place at most as many branches of a call are out as its plan's limit
pub outs_limit : (id : CallId) (os : List Occurrence) (c : ArrivedCall) → call id (marked os) ≡ Some c → outs id (marked os) ≤ c.plan.limit
outs_limit id [] c c_is = absurd (cc)
outs_limit id (o ∷ os) c c_is =
    let past : Past = marked os in
    ⊎_elim (λ (going : began id past ≡ true).
    let d = began_called id past going in
    let same : Some d.0 ≡ Some c = sym (call_stays id (mark_of past o) past d.0 d.1) ∙ c_is in
    let limits : d.0 ≡ c = some_injective d.0 c same in
    let before : outs id past ≤ c.plan.limit = rw (← limits) (outs_limit id os d.0 d.1) in
    ⊎_elim (λ (counted : (counts o past && is_answer_to id o) ≡ true).
    let j = answer_out id past o counted in
    let less : outs id (mark_of past o ∷ past) ≤ outs id past = freed id (mark_of past o) past d.0 going d.1 j.0 j.1 j.2 in
    omega (arith, less, before))
    (λ (not_counted : (counts o past && is_answer_to id o) ≡ false).
    let less : outs id (mark_of past o ∷ past) ≤ outs id past = no_more id (mark_of past o) past d.0 going d.1 not_counted in
    omega (arith, less, before))
    (cases_Bool (counts o past && is_answer_to id o)))
    (λ (unbegan : began id past ≡ false). fresh id os o c unbegan c_is)
    (cases_Bool (began id past))
