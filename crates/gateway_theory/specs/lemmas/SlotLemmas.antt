-- How many calls of a connection are undecided: as many as slots are empty.
use Rattle.std.specs.Prelude.{◌≡◌, ◌+◌, ◌≤◌, ◌<◌, ◌∷◌, ◌++◌, ◌==◌}
use Rattle.gateway_theory.specs.lemmas.Names.{ℕ, zero, suc, Bool, true, false, List, [], map, length, take, Option, None, Some, refl, sym, ap, ◌∙◌, arith, is_some, is_none, not, slice_index_or, count_by, cond_both, ne_eqb, take_all, count_by_more_no, count_by_more_yes, HttpRequest, PlanRecord, CallId, Judged, Asks, Coming, Request, Refused, Past, ArrivedCall, call, call_id, arrivals, is_undecided, undecided_calls, count_below, ReplyEntry, are_all_there, came, entry, call_entry, front, ReplyValue, slot_at, SlotsStand, nat_tests}
use Rattle.gateway_theory.specs.Conn.{entry_in}
use Rattle.gateway_theory.specs.lemmas.StepLemmas.{called_came}

-- ---- what has come

abbrev WasAsked : CallId → Past → Type 0
WasAsked id past = (q : HttpRequest) (p : PlanRecord) (t : Option ℕ) (rid : Option (List ℕ)) → came id past ≡ Some (Request q (Asks p t rid), false) → is_some (call id past) ≡ true

was_asked : (id : CallId) (past : Past) → WasAsked id past
was_asked id [] q p t rid e = absurd (cc)
was_asked id (m ∷ past) q p t rid e = grind (arith, was_asked id past)

abbrev HasCome : CallId → Past → Type 0
HasCome id past = is_some (came id past) ≡ true

has_come : (id : CallId) (past : Past) → id.request < arrivals id.conn past → HasCome id past
has_come id [] lt = absurd (omega arith)
has_come id (m ∷ past) lt = grind (arith, has_come id past)

call_undecided : (id : CallId) (past : Past) → is_some (call id past) ≡ true → is_undecided id past ≡ is_none (call_entry id past)
call_undecided id past some = grind arith

-- a request that came has an entry, unless it is a call that is undecided
undecided_is : (id : CallId) (past : Past) → id.request < arrivals id.conn past → is_undecided id past ≡ is_none (entry id past)
undecided_is id past lt = by_came (came id past) refl (has_come id past lt)
  where
    not_call : (y : Coming × Bool) → came id past ≡ Some y → ((a : ArrivedCall) (t : Option ℕ) → Some y ≡ Some (Request a.request (Asks a.plan t a.request_id), false) → ⊥)
        → is_undecided id past ≡ false
    not_call y is each = grind (arith, nat_tests, called_came)

    by_came : (y : Option (Coming × Bool)) → came id past ≡ y → is_some (came id past) ≡ true → is_undecided id past ≡ is_none (entry id past)
    by_came None y_is some = absurd (let no_one : false ≡ true = rw y_is at some in cc)
    by_came (Some (Refused r, b)) y_is some = grind (arith, nat_tests, not_call, call_undecided, was_asked)
    by_came (Some (Request q (Judged v), b)) y_is some = grind (arith, nat_tests, not_call, call_undecided, was_asked)
    by_came (Some (Request q (Asks p t rid), true)) y_is some = grind (arith, nat_tests, not_call, call_undecided, was_asked)
    by_came (Some (Request q (Asks p t rid), false)) y_is some = rw y_is (call_undecided id past (was_asked id past q p t rid y_is))

-- ---- counting

pub count_take : {A : Type 0} (p : A → Bool) (d : A) (xs : List A) (n : ℕ) → n ≤ length xs → count_by p (take n xs) ≡ count_below n (λ k. p (slice_index_or xs k d))
count_take p d xs zero le = refl
count_take p d xs (suc n) le =
    let next : n + 1 ≡ suc n = omega arith in
    let lt : n < length xs = omega (arith, le) in
    let before : count_by p (take n xs) ≡ count_below n (λ k. p (slice_index_or xs k d)) = count_take p d xs n (omega (arith, le)) in
    cond_both (p (slice_index_or xs n d)) (suc (count_below n (λ k. p (slice_index_or xs k d)))) (count_below n (λ k. p (slice_index_or xs k d)))
    (λ k. count_by p (take (suc n) xs) ≡ k)
    (λ is. ap (λ i. count_by p (take i xs)) (sym next) ∙ count_by_more_yes p xs n d lt is ∙ omega (arith, before))
    (λ isnt. ap (λ i. count_by p (take i xs)) (sym next) ∙ count_by_more_no p xs n d lt isnt ∙ before)

pub count_same : (n : ℕ) (p q : ℕ → Bool) → ((k : ℕ) → k < n → p k ≡ q k) → count_below n p ≡ count_below n q
count_same zero p q h = refl
count_same (suc n) p q h = grind (arith, count_same n p q)

-- the replies that were taken are no empty slots
untaken_count : (taken : List ReplyEntry) (slots : List (Option ReplyEntry)) → count_by is_none (map Some taken ++ slots) ≡ count_by is_none slots
untaken_count [] slots = refl
untaken_count (e ∷ taken) slots = untaken_count taken slots

pub undecided_count : (c : ℕ) (taken : List ReplyEntry) (slots : List (Option ReplyEntry)) (past : Past) → SlotsStand c (map Some taken ++ slots) past
    → count_by is_none slots ≡ undecided_calls c past
undecided_count c taken slots past h =
    let all : List (Option ReplyEntry) = map Some taken ++ slots in
    sym (untaken_count taken slots)
    ∙ ap (count_by is_none) (sym (take_all (length all) all (omega arith)))
    ∙ count_take is_none None all (length all) (omega arith)
    ∙ ap (λ n. count_below n (λ k. is_none (slot_at k all))) h.size_is
    ∙ count_same (arrivals c past) (λ k. is_none (slot_at k all)) (λ k. is_undecided (call_id c k) past)
    (λ k lt. ap is_none (h.each k) ∙ sym (undecided_is (call_id c k) past lt))

-- ---- the first slots that are filled

-- as many as stand before the first that is not
pub front_size : (i : ℕ) (slots : List (Option ReplyEntry)) → i ≤ length slots → ((j : ℕ) → j < i → is_some (slot_at j slots) ≡ true) → slot_at i slots ≡ None
    → length (front slots) ≡ i
front_size zero [] le all none = refl
front_size (suc i) [] le all none = absurd (omega (arith, le))
front_size zero (None ∷ slots) le all none = refl
front_size zero (Some e ∷ slots) le all none = absurd (cc)
front_size (suc i) (None ∷ slots) le all none = absurd (let clash : false ≡ true = all 0 (omega arith) in cc)
front_size (suc i) (Some e ∷ slots) le all none = ap suc (front_size i slots (omega (arith, le)) (λ j lt. all (suc j) (omega (arith, lt))) none)

pub slot_behind : (slots : List (Option ReplyEntry)) (i : ℕ) → length slots ≤ i → slot_at i slots ≡ None
slot_behind [] i le = refl
slot_behind (s ∷ slots) zero le = absurd (omega (arith, le))
slot_behind (s ∷ slots) (suc i) le = slot_behind slots i (omega (arith, le))

pub entry_here : (slots : List (Option ReplyValue)) (i : ℕ) (x : Option ReplyValue) → i < length slots → x ≡ slice_index_or slots i x → slot_at i (map entry_in slots) ≡ entry_in x
entry_here [] i x lt e = absurd (omega (arith, lt))
entry_here (s ∷ slots) zero x lt e = ap entry_in (sym e)
entry_here (s ∷ slots) (suc i) x lt e = entry_here slots i x (omega (arith, lt)) e

pub slot_none : (x : Option ReplyValue) (b : Bool) → is_some x ≡ not b → b ≡ true → entry_in x ≡ None
slot_none None b e is = refl
slot_none (Some r) b e is = absurd (let clash : true ≡ false = e ∙ ap (λ y. not y) is in cc)

pub slot_some : (x : Option ReplyValue) (b : Bool) → is_some x ≡ not b → b ≡ false → is_some (entry_in x) ≡ true
slot_some None b e is = absurd (let clash : false ≡ true = e ∙ ap (λ y. not y) is in cc)
slot_some (Some r) b e is = refl

-- each is there, if as many are before the first that is not
pub front_all : (slots : List (Option ReplyEntry)) → (length (front slots) == length slots) ≡ are_all_there slots
front_all [] = refl
front_all (None ∷ slots) = ne_eqb 0 (suc (length slots)) (λ same. absurd (omega (arith, same)))
front_all (Some e ∷ slots) = grind (arith, front_all slots)
